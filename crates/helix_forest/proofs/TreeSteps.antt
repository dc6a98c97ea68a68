-- What becomes of trees with one more relation.
use Rattle.std.proofs.Common.{◌≡◌, ◌≢◌, ℕ, ◌+◌, ◌<◌, if◌then◌else◌, inl, inr, ⊎_elim, List, [], ◌∷◌, ◌++◌, length, get_or, set, length-set, refl, sym, ap, ◌∙◌, subst, arith}
use Rattle.std.proofs.lemmas.Bool.{cases_eq, eq-eqb, ne_eqb}
use Rattle.std.proofs.lemmas.List.{get_or-set_same, get_or-set_other}
use Rattle.helix_profile.specs.declared.relation.Relation.{Relation}
use Rattle.helix_profile.specs.Forest.{AreJoined, IsCycle}
use Rattle.helix_forest.specs.Closing.{AreLinked, HasEndsBelow}
use Rattle.helix_forest.specs.Inner.Trees.{AreOwn, other_label, ReplacesUpTo, IsRelabelled, AreTreesOf}
use Rattle.helix_forest.specs.Joins.{AreEnds, joined_before, joined_last, joined_or_last, joined_back, no_new_cycle, still_linked, linked_on}
use Rattle.helix_forest.proofs.Added.{still_forest}

-- one label after another
pub replaces_none : (from to : ℕ) (labels : List ℕ) → ReplacesUpTo from to labels labels 0
replaces_none from to labels = record {
  same_length = refl;
  done = λ k below. absurd (omega (arith, below));
  left = λ k above. refl;
}

pub replaces_next : (from to : ℕ) (old mid : List ℕ) (i v : ℕ) → i < length mid → ReplacesUpTo from to old mid i
    → v ≡ other_label from to (get_or mid i 0) → ReplacesUpTo from to old (set mid i v) (i + 1)
replaces_next from to old mid i v within replaces is = record {
  same_length = length-set mid i v ∙ replaces.same_length;
  done = λ k below. ⊎_elim
      (λ here. subst (λ j. get_or (set mid i v) j 0 ≡ other_label from to (get_or old j 0)) (sym here)
      (get_or-set_same mid i v 0 within ∙ (is ∙ ap (other_label from to) (replaces.left i (omega arith)))))
      (λ other. get_or-set_other mid i k v 0 other ∙ replaces.done k (omega (arith, other)))
      (cases_eq k i);
  left = λ k above. get_or-set_other mid i k v 0 (λ e. omega (arith, above, e)) ∙ replaces.left k (omega arith);
}

pub replaces_all : (from to : ℕ) (old new : List ℕ) (count : ℕ) → count ≡ length new
    → ReplacesUpTo from to old new count
    → IsRelabelled from to old new
replaces_all from to old new count all replaces =
    subst (ReplacesUpTo from to old new) (all ∙ replaces.same_length) replaces

no_cycle : (fields : List ℕ) → IsCycle [] fields → ⊥
no_cycle [] cycle = cycle
no_cycle (x ∷ []) cycle = cycle
no_cycle (x ∷ y ∷ []) cycle = cycle
no_cycle (x ∷ y ∷ z ∷ fields) cycle = cycle.1.0

-- each field by itself
pub alone : (fields : ℕ) (labels : List ℕ) → AreOwn labels fields → AreTreesOf [] labels []
alone fields labels are = record {
  forest = no_cycle;
  within = λ f g none. absurd none;
  in_lines = λ f g none. none;
  of_lines = λ f g none. none;
  labelled = λ f g none. absurd none;
  linked = λ f g f_in g_in same differ. absurd (differ
      (sym (are.own f (omega (arith, f_in, are.count))) ∙ (same ∙ are.own g (omega (arith, g_in, are.count)))));
}

module _ (rs : List Relation) (r : Relation) (labels : List ℕ) (lines : List Relation)
    (trees : AreTreesOf rs labels lines) (ends : HasEndsBelow (length labels) r) where
  abbrev label : ℕ → ℕ
  label f = get_or labels f 0

  abbrev more : List Relation
  more = rs ++ r ∷ []

  ends_in : (f g : ℕ) → AreEnds r f g → (f < length labels) × (g < length labels)
  ends_in f g (inl are) = (
    subst (λ k. k < length labels) are.0 ends.left,
    subst (λ k. k < length labels) are.1
        ends.right,
  )
  ends_in f g (inr are) = (
    subst (λ k. k < length labels) are.1 ends.right,
    subst (λ k. k < length labels) are.0
        ends.left,
  )

  joined_within : (f g : ℕ) → AreJoined more f g → (f < length labels) × (g < length labels)
  joined_within f g joined = ⊎_elim (λ before. trees.within f g before) (λ last. ends_in f g last)
      (joined_or_last rs r f g joined)

  -- one more relation on a pair changes nothing
  ends_joined : AreJoined rs r.left r.right → (f g : ℕ) → AreEnds r f g → AreJoined rs f g
  ends_joined pair f g (inl are) =
      subst (λ k. AreJoined rs f k) are.1 (subst (λ k. AreJoined rs k r.right) are.0 pair)
  ends_joined pair f g (inr are) =
      joined_back rs g f (subst (λ k. AreJoined rs g k) are.1 (subst (λ k. AreJoined rs k r.right) are.0 pair))

  pub on_a_line : AreJoined lines r.left r.right → AreTreesOf more labels lines
  on_a_line line =
      let same : (f g : ℕ) → AreJoined more f g → AreJoined rs f g =
      λ f g joined. ⊎_elim (λ before. before) (λ last. ends_joined (trees.of_lines r.left r.right line) f g last)
      (joined_or_last rs r f g joined) in
      record {
        forest = no_new_cycle more rs same trees.forest;
        within = joined_within;
        in_lines = λ f g joined. trees.in_lines f g (same f g joined);
        of_lines = λ f g joined. joined_before rs r f g (trees.of_lines f g joined);
        labelled = λ f g joined. trees.labelled f g (same f g joined);
        linked = λ f g f_in g_in is differ. still_linked rs more (joined_before rs r) f g
            (trees.linked f g f_in g_in is differ);
      }

  -- a new pair of linked fields
  pub closes_here : (label r.left ≡ label r.right) → ¬ AreJoined lines r.left r.right
      → (¬ AreJoined rs r.left r.right) × AreLinked rs r.left r.right
  closes_here same none = (
    (λ joined. none (trees.in_lines r.left r.right joined)),
    trees.linked r.left r.right ends.left ends.right same ends.different,
  )

  module _ (new : List ℕ) (relabelled : IsRelabelled (label r.left) (label r.right) labels new)
      (apart : label r.left ≢ label r.right) where
    abbrev moved : ℕ → ℕ
    moved l = other_label (label r.left) (label r.right) l

    moved_from : (l : ℕ) → l ≡ label r.left → moved l ≡ label r.right
    moved_from l is = ap (λ b. if b then label r.right else l) (eq-eqb l (label r.left) is)

    moved_other : (l : ℕ) → l ≢ label r.left → moved l ≡ l
    moved_other l other = ap (λ b. if b then label r.right else l) (ne_eqb l (label r.left) other)

    joined_ends : moved (label r.left) ≡ moved (label r.right)
    joined_ends = moved_from (label r.left) refl ∙ sym (moved_other (label r.right) (λ e. apart (sym e)))

    moved_ends : (f g : ℕ) → AreEnds r f g → moved (label f) ≡ moved (label g)
    moved_ends f g (inl are) =
        sym (ap (λ k. moved (label k)) are.0) ∙ (joined_ends ∙ ap (λ k. moved (label k)) are.1)
    moved_ends f g (inr are) =
        sym (ap (λ k. moved (label k)) are.1) ∙ (sym joined_ends ∙ ap (λ k. moved (label k)) are.0)

    now_labelled : (f g : ℕ) → AreJoined more f g → get_or new f 0 ≡ get_or new g 0
    now_labelled f g joined = let inside = joined_within f g joined in
        relabelled.done f inside.0
        ∙ (⊎_elim (λ before. ap moved (trees.labelled f g before)) (λ last. moved_ends f g last)
        (joined_or_last rs r f g joined)
        ∙ sym (relabelled.done g inside.1))

    linked_before : (f g : ℕ) → AreLinked rs f g → AreLinked more f g
    linked_before f g link = still_linked rs more (joined_before rs r) f g link

    -- to an end of the relation, and over it
    to_end : (f end : ℕ) → f < length labels → end < length labels → label f ≡ label end → (to : ℕ)
        → AreLinked more end to → AreLinked more f to
    to_end f end f_in end_in same to link = ⊎_elim
        (λ is. subst (λ k. AreLinked more k to) (sym is) link)
        (λ differ. linked_on more f end to (linked_before f end (trees.linked f end f_in end_in same differ)) link)
        (cases_eq f end)

    from_end : (end g : ℕ) → end < length labels → g < length labels → label end ≡ label g → (from : ℕ)
        → AreLinked more from end → AreLinked more from g
    from_end end g end_in g_in same from link = ⊎_elim
        (λ is. subst (λ k. AreLinked more from k) is link)
        (λ differ. linked_on more from end g link (linked_before end g (trees.linked end g end_in g_in same differ)))
        (cases_eq end g)

    over : AreLinked more r.left r.right
    over = ([], joined_last rs r r.left r.right (inl (refl, refl)))

    over_back : AreLinked more r.right r.left
    over_back = ([], joined_last rs r r.right r.left (inr (refl, refl)))

    now_linked : (f g : ℕ) → f < length labels → g < length labels → moved (label f) ≡ moved (label g) → f ≢ g
        → AreLinked more f g
    now_linked f g f_in g_in same differ = ⊎_elim
        (λ f_left. ⊎_elim
        (λ g_left. linked_before f g (trees.linked f g f_in g_in (f_left ∙ sym g_left) differ))
        (λ g_other. to_end f r.left f_in ends.left f_left g
        (from_end r.right g ends.right g_in
        (sym (moved_from (label f) f_left) ∙ (same ∙ moved_other (label g) g_other)) r.left over))
        (cases_eq (label g) (label r.left)))
        (λ f_other. ⊎_elim
        (λ g_left. to_end f r.right f_in ends.right
        (sym (moved_other (label f) f_other) ∙ (same ∙ moved_from (label g) g_left)) g
        (from_end r.left g ends.left g_in (sym g_left) r.right over_back))
        (λ g_other. linked_before f g (trees.linked f g f_in g_in
        (sym (moved_other (label f) f_other) ∙ (same ∙ moved_other (label g) g_other)) differ))
        (cases_eq (label g) (label r.left)))
        (cases_eq (label f) (label r.left))

    -- one more line between two trees
    pub on_two_trees : AreTreesOf more new (lines ++ r ∷ [])
    on_two_trees = record {
      forest = still_forest rs r label trees.labelled apart trees.forest;
      within = λ f g joined. let inside = joined_within f g joined in
          (omega (arith, inside.0, relabelled.same_length), omega (arith, inside.1, relabelled.same_length));
      in_lines = λ f g joined. ⊎_elim (λ before. joined_before lines r f g (trees.in_lines f g before))
          (λ last. joined_last lines r f g last) (joined_or_last rs r f g joined);
      of_lines = λ f g joined. ⊎_elim (λ before. joined_before rs r f g (trees.of_lines f g before))
          (λ last. joined_last rs r f g last) (joined_or_last lines r f g joined);
      labelled = now_labelled;
      linked = λ f g f_in g_in same differ.
          let f_old : f < length labels = omega (arith, relabelled.same_length) in
          let g_old : g < length labels = omega (arith, relabelled.same_length) in
          now_linked f g f_old g_old (sym (relabelled.done f f_old) ∙ (same ∙ relabelled.done g g_old)) differ;
    }
