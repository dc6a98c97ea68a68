-- What adding a relation tells, and what the pass over all of them does.
use Rattle.std.proofs.Common.{◌≡◌, ◌≢◌, ℕ, ◌+◌, ◌<◌, ◌↔◌, Bool, true, false, IsTrue, Some, List, [], ◌∷◌, ◌++◌, take, drop, length, get_or, refl, sym, ap, ◌∙◌, subst, arith}
use Rattle.std.proofs.lemmas.Bool.{false≢true}
use Rattle.std.proofs.lemmas.Grind.{get_or_default_zero}
use Rattle.std.proofs.lemmas.List.{take_more, take_all}
use Rattle.std.proofs.Math.Seq.{take-append_seam}
use Rattle.std.proofs.lemmas.Option.{slice_get_within, slice_get-get_or, get_or_from_slice_get}
use Rattle.std.specs.List.{All, slice_get}
use Rattle.helix_profile.specs.declared.relation.Relation.{Relation}
use Rattle.helix_profile.specs.Forest.{AreJoined, IsForest}
use Rattle.helix_forest.specs.Closing.{HasEndsBelow, ClosesCycle, IsFirstToClose}
use Rattle.helix_forest.specs.Inner.Trees.{IsRelabelled, AreTreesOf, TellsOfNext}
use Rattle.helix_forest.specs.declared.forest.Trees.{Trees}
use Rattle.helix_forest.specs.Closed.{not_after, not_before}
use Rattle.helix_forest.proofs.TreeSteps.{on_a_line, closes_here, on_two_trees}

-- a label that was read
read : (xs : List ℕ) (i x : ℕ) → i < length xs → x ≡ get_or xs i x → x ≡ get_or xs i 0
read xs i x within is = is ∙ get_or_default_zero xs i x within

pub told_by_lines : (old : Trees) (r : Relation) → HasEndsBelow (length old.labels.items) r → (a b : ℕ)
    → a ≡ get_or old.labels.items r.left a → b ≡ get_or old.labels.items r.right b → a ≡ b
    → (lines : List Relation) → lines ≡ old.lines → (found : Bool) → IsTrue found ↔ AreJoined lines r.left r.right
    → TellsOfNext old old r found
told_by_lines old r ends a b a_is b_is same lines are true is = λ rs trees.
    on_a_line rs r old.labels.items old.lines trees ends (subst (λ l. AreJoined l r.left r.right) are (is.0 refl))
told_by_lines old r ends a b a_is b_is same lines are false is = λ rs trees.
    closes_here rs r old.labels.items old.lines trees ends (sym (read old.labels.items r.left a ends.left a_is)
    ∙ (same ∙ read old.labels.items r.right b ends.right b_is))
    (λ joined. false≢true (is.1 (subst (λ l. AreJoined l r.left r.right) (sym are) joined)))

-- what a slice of a whole list writes back
written : (new items : List ℕ) (len : ℕ) → length new ≡ len → take len (new ++ drop (length new) items) ≡ new
written new items len same = ap (λ n. take n (new ++ drop (length new) items)) (sym same)
    ∙ take-append_seam new (drop (length new) items)

pub told_by_adding : (old : Trees) (r : Relation) → HasEndsBelow (length old.labels.items) r → (a b : ℕ)
    → a ≡ get_or old.labels.items r.left a → b ≡ get_or old.labels.items r.right b → a ≢ b
    → (slice new : List ℕ) (lines : List Relation) → slice ≡ old.labels.items → IsRelabelled a b slice new
    → (len : ℕ) → length slice ≡ len → lines ≡ old.lines ++ r ∷ [] → (rs : List Relation)
    → AreTreesOf rs old.labels.items old.lines
    → AreTreesOf (rs ++ r ∷ []) (take len (new ++ drop (length new) old.labels.items)) lines
told_by_adding old r ends a b a_is b_is apart slice new lines slice_is relabelled len len_is lines_are rs trees =
    let items : List ℕ = old.labels.items in
    let from : a ≡ get_or items r.left 0 = read items r.left a ends.left a_is in
    let to : b ≡ get_or items r.right 0 = read items r.right b ends.right b_is in
    let moved : IsRelabelled (get_or items r.left 0) (get_or items r.right 0) items new =
    subst (λ l. IsRelabelled (get_or items r.left 0) (get_or items r.right 0) l new) slice_is
    (subst (λ k. IsRelabelled (get_or items r.left 0) k slice new) to
    (subst (λ k. IsRelabelled k b slice new) from relabelled)) in
    subst (λ l. AreTreesOf (rs ++ r ∷ []) l lines)
    (sym (written new items len (relabelled.same_length ∙ len_is)))
    (subst (λ l. AreTreesOf (rs ++ r ∷ []) new l) (sym lines_are)
    (on_two_trees rs r items old.lines trees ends new moved (λ e. apart (from ∙ (e ∙ sym to)))))

module _ (rs : List Relation) (fields : ℕ) (ends : All (HasEndsBelow fields) rs) where
  ends_of : (index : ℕ) (r : Relation) → slice_get rs index ≡ Some r → HasEndsBelow fields r
  ends_of index r is = subst (HasEndsBelow fields) (get_or_from_slice_get rs index r r is)
      (ends index r (slice_get_within rs index r is))

  never_before : (index : ℕ) → IsForest (take index rs) → (earlier : ℕ) → earlier < index → ¬ ClosesCycle rs earlier
  never_before index forest earlier below closes = not_before rs (earlier + 1) index (omega arith)
      (not_after rs earlier closes (ends_of earlier closes.relation closes.is).different) forest

  -- the first relation that isn't added is the first that closes a cycle
  pub found_closed : (index : ℕ) (d : Relation) → index < length rs → (old new : Trees)
      → AreTreesOf (take index rs) old.labels.items old.lines → (taken : Bool)
      → TellsOfNext old new (get_or rs index d) taken → taken ≡ false → IsFirstToClose rs index
  found_closed index d within old new trees taken told is =
      let r : Relation = get_or rs index d in
      let here : slice_get rs index ≡ Some r = slice_get-get_or rs index d within in
      let tells : TellsOfNext old new r false = subst (TellsOfNext old new r) is told in
      let closed = tells (take index rs) trees in
      let closes : ClosesCycle rs index =
      record { relation = r; is = here; new_pair = closed.0; linked = closed.1 } in
      record {
        closes = closes;
        first = never_before index trees.forest;
        no_forest = λ whole. not_before rs (index + 1) (length rs) (omega arith)
            (not_after rs index closes (ends_of index r here).different)
            (subst IsForest (sym (take_all (length rs) rs (omega arith))) whole);
      }

-- a relation that was added
pub found_on : (rs : List Relation) (index : ℕ) (d : Relation) → index < length rs → (old new : Trees)
    → AreTreesOf (take index rs) old.labels.items old.lines → (taken : Bool)
    → TellsOfNext old new (get_or rs index d) taken → taken ≡ true
    → AreTreesOf (take (index + 1) rs) new.labels.items new.lines
found_on rs index d within old new trees taken told is =
    let tells : TellsOfNext old new (get_or rs index d) true = subst (TellsOfNext old new (get_or rs index d)) is told
    in
    subst (λ l. AreTreesOf l new.labels.items new.lines) (sym (take_more rs index d within))
    (tells (take index rs) trees)
