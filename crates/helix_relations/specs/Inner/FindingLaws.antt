-- How the neighbours of a field are found. Lemmas.
use Rattle.std.proofs.Common.{◌≡◌, ◌≢◌, ◌↔◌, ℕ, zero, suc, ◌+◌, ◌<◌, ◌≤◌, Bool, true, false, ◌||◌, eqb, Some, None, List, [], ◌∷◌, ◌++◌, ⊎_elim, length, map, take, slice_get, get_or, All, AllPairs, Contains, refl, sym, ap, ap₂, ◌∙◌, subst, arith, append_assoc, append-nil, Result, Ok, Err, IfOk}
use Rattle.std.proofs.lemmas.Bool.{eqb-true, eq-eqb, or_left, and_parts, and_from, true≢false, cases_eq, or_right}
use Rattle.std.proofs.lemmas.List.{length-map, map-append, take_more}
use Rattle.std.proofs.lemmas.Option.{same_Some, slice_get_within}
use Rattle.helix_relations.specs.MixingLaws.{none_some}
use Rattle.std.proofs.lemmas.List.Elements.{All-push, Contains-append_left, Contains-append_right}
use Rattle.std.proofs.lemmas.List.Quantifiers.{all_pairs_push}
use Rattle.std.specs.List.{AllByRecursion}
use Rattle.helix_values.specs.declared.cell.Cell.{Cell}
use Rattle.helix_values.specs.Class.{Class, class_of_kind}
use Rattle.helix_profile.specs.Satisfaction.{is_null}
use Rattle.helix_pairs.specs.declared.comparison.End.{End}
use Rattle.helix_pairs.specs.declared.comparison.End.TheVariants.{Left, Right}
use Rattle.helix_search.specs.Bounds.{IsValue}
use Rattle.helix_search.specs.Nodes.{Stands}
use Rattle.helix_links.specs.Links.{class_of_link, MeetsLower, MeetsUpper, IsAllowed}
use Rattle.helix_values.specs.Counts.{widest_kind}
use Rattle.helix_search.specs.declared.node.Neighbour.{Neighbour}
use Rattle.helix_links.specs.declared.pair_link.PairLink.{PairLink}
use Rattle.helix_links.specs.declared.sided.SidedRelation.{SidedRelation}
use Rattle.helix_links.specs.Relations.{IsMet, IsRelationOf}
use Rattle.helix_relations.specs.declared.signed.SignedRelation.{SignedRelation}
use Rattle.helix_relations.specs.Region.{relations_of, StandsRelation}
use Rattle.helix_relations.specs.NumberingLaws.{all_of}
use Rattle.helix_relations.specs.SearchLaws.{no_null_in}
use Rattle.helix_relations.specs.RegionGraph.{StandTogether, are_joined}
use Rattle.helix_base.specs.declared.memory.Memory.{Memory}
use Rattle.helix_relations.specs.Inner.Parts.{PartNode}
use Rattle.helix_relations.specs.Inner.KeptLaws.{joint_at}
use Rattle.helix_relations.specs.Inner.Kept.{Joint, joint_of, joints_of, AreLinkable, AreLinkedAt, goes, seen_one, seen_from, end_seen, IsOfClass, IsLinkOf, IsLinkTo, AreLinked}

module _ (m n : ℕ) where
  -- a relation that joins the fields is one of them,
  pub joined_at : (rs : List SignedRelation) (k : ℕ) (d : SignedRelation) → k < length rs
      → (goes (get_or rs k d).relation m n || goes (get_or rs k d).relation n m) ≡ true
      → are_joined (relations_of rs) m n ≡ true
  joined_at [] k d below e = absurd (omega (arith, below))
  joined_at (r ∷ rs) zero d below e =
      by (goes r.relation m n) (goes r.relation n m) (are_joined (relations_of rs) m n) e
    where
      by : (a b c : Bool) → (a || b) ≡ true → (a || (b || c)) ≡ true
      by true b c e = refl
      by false true c e = refl
      by false false c e = absurd (true≢false (sym e))
  joined_at (r ∷ rs) (suc k) d below e = by (goes r.relation m n) (goes r.relation n m)
      (are_joined (relations_of rs) m n) (joined_at rs k d (omega (arith, below)) e)
    where
      by : (a b c : Bool) → c ≡ true → (a || (b || c)) ≡ true
      by true b c e = refl
      by false true c e = refl
      by false false c e = e

  -- and where none does, none is
  pub none_joined : (rs : List SignedRelation) → ((k : ℕ) (d : SignedRelation) → k < length rs
      → (goes (get_or rs k d).relation m n ≡ false) × (goes (get_or rs k d).relation n m ≡ false))
      → are_joined (relations_of rs) m n ≡ false
  none_joined [] none = refl
  none_joined (r ∷ rs) none = let here = none 0 r (omega arith) in
      ap₂ (λ a b. a || (b || are_joined (relations_of rs) m n)) here.0 here.1
      ∙ none_joined rs (λ k d below. none (suc k) d (next (length rs) k below))
    where
      next : (n k : ℕ) → k < n → suc k < suc n
      next n k below = omega (arith, below)

  seen_append : (rs ss : List SignedRelation) → seen_from (rs ++ ss) m n ≡ seen_from rs m n ++ seen_from ss m n
  seen_append [] ss = refl
  seen_append (r ∷ rs) ss = ap (λ xs. seen_one (goes r.relation m n) (goes r.relation n m) r ++ xs) (seen_append rs ss)
      ∙ sym (append_assoc (seen_one (goes r.relation m n) (goes r.relation n m) r) (seen_from rs m n) (seen_from ss m n))

  -- one more of them is seen,
  pub seen_more : (rs : List SignedRelation) (i : ℕ) (d : SignedRelation) (child : End) → i < length rs
      → end_seen (goes (get_or rs i d).relation m n) (goes (get_or rs i d).relation n m) ≡ Some child
      → (seen new : List SidedRelation) → seen ≡ seen_from (take i rs) m n
      → new ≡ seen ++ record { relation = (get_or rs i d).relation; sign = (get_or rs i d).sign; child = child } ∷ []
      → new ≡ seen_from (take (i + 1) rs) m n
  seen_more rs i d child below end seen new are pushed =
      pushed ∙ (ap (λ s. s ++ record { relation = (get_or rs i d).relation; sign = (get_or rs i d).sign; child = child } ∷ []) are
      ∙ (ap (λ s. seen_from (take i rs) m n ++ s)
      (by (get_or rs i d) (goes (get_or rs i d).relation m n) (goes (get_or rs i d).relation n m) end)
      ∙ (sym (seen_append (take i rs) (get_or rs i d ∷ [])) ∙ ap (λ xs. seen_from xs m n) (sym (take_more rs i d below)))))
    where
      by : (r : SignedRelation) (a b : Bool) → end_seen a b ≡ Some child
          → record { relation = r.relation; sign = r.sign; child = child } ∷ [] ≡ seen_one a b r ++ []
      by r true b e = ap (λ c. record { relation = r.relation; sign = r.sign; child = c } ∷ []) (sym (same_Some Right child e))
      by r false true e = ap (λ c. record { relation = r.relation; sign = r.sign; child = c } ∷ []) (sym (same_Some Left child e))
      by r false false e = absurd (none_some child e)

  -- or none
  pub seen_same : (rs : List SignedRelation) (i : ℕ) (d : SignedRelation) → i < length rs
      → end_seen (goes (get_or rs i d).relation m n) (goes (get_or rs i d).relation n m) ≡ None
      → (seen new : List SidedRelation) → seen ≡ seen_from (take i rs) m n → new ≡ seen
      → new ≡ seen_from (take (i + 1) rs) m n
  seen_same rs i d below end seen new are same =
      same ∙ (are ∙ (sym (append-nil (seen_from (take i rs) m n))
      ∙ (ap (λ s. seen_from (take i rs) m n ++ s)
      (by (get_or rs i d) (goes (get_or rs i d).relation m n) (goes (get_or rs i d).relation n m) end)
      ∙ (sym (seen_append (take i rs) (get_or rs i d ∷ [])) ∙ ap (λ xs. seen_from xs m n) (sym (take_more rs i d below))))))
    where
      by : (r : SignedRelation) (a b : Bool) → end_seen a b ≡ None → [] ≡ seen_one a b r ++ []
      by r true b e = absurd (none_some Right (sym e))
      by r false true e = absurd (none_some Left (sym e))
      by r false false e = refl

  -- what is met by two values stands together
  pub met_stands : (rs : List SignedRelation) (kind : Class) (v w : Cell) → is_null v ≡ false → is_null w ≡ false
      → AllByRecursion (IsOfClass kind m n) rs
      → AllByRecursion (λ s. IsMet s v w) (seen_from rs m n) ↔ StandTogether rs m n v w
  met_stands [] kind v w v_is w_is all = ((λ none. tt), (λ none. tt))
  met_stands (r ∷ rs) kind v w v_is w_is all = by (met_stands rs kind v w v_is w_is all.1) (goes r.relation m n) (goes r.relation n m) refl refl
    where
      Here : Type 0
      Here = (r.relation.left ≡ m → r.relation.right ≡ n → StandsRelation r v w)
          × (r.relation.left ≡ n → r.relation.right ≡ m → StandsRelation r w v)

      not_goes : (a b : ℕ) → goes r.relation a b ≡ false → r.relation.left ≡ a → r.relation.right ≡ b → ⊥
      not_goes a b e left right = true≢false
          (sym (and_from (eqb r.relation.left a) (eqb r.relation.right b) (eq-eqb r.relation.left a left)
          (eq-eqb r.relation.right b right)) ∙ e)

      by : (AllByRecursion (λ s. IsMet s v w) (seen_from rs m n) ↔ StandTogether rs m n v w) → (a b : Bool)
          → goes r.relation m n ≡ a → goes r.relation n m ≡ b
          → AllByRecursion (λ s. IsMet s v w) (seen_one a b r ++ seen_from rs m n) ↔ (Here × StandTogether rs m n v w)
      by rest true b one back = let ends = and_parts (eqb r.relation.left m) (eqb r.relation.right n) one in
          let different = (all.0 (or_left (goes r.relation m n) (goes r.relation n m || false) one)).0 in (
            (λ met. (
              (
                (λ left right. record { left = v_is; right = w_is; stands = met.0 }),
                (λ left right. absurd (different (left ∙ sym (eqb-true r.relation.right n ends.1)))),
              ),
              rest.0 met.1,
            )),
            (λ stand. (
              (stand.0.0 (eqb-true r.relation.left m ends.0) (eqb-true r.relation.right n ends.1)).stands,
              rest.1 stand.1,
            )),
          )
      by rest false true one back = let ends = and_parts (eqb r.relation.left n) (eqb r.relation.right m) back in (
        (λ met. (
          (
            (λ left right. absurd (not_goes m n one left right)),
            (λ left right. record { left = w_is; right = v_is; stands = met.0 }),
          ),
          rest.0 met.1,
        )),
        (λ stand. (
          (stand.0.1 (eqb-true r.relation.left n ends.0) (eqb-true r.relation.right m ends.1)).stands,
          rest.1 stand.1,
        )),
      )
      by rest false false one back = (
        (λ met. (
          (
            (λ left right. absurd (not_goes m n one left right)),
            (λ left right. absurd (not_goes n m back left right)),
          ),
          rest.0 met,
        )),
        (λ stand. rest.1 stand.1),
      )

  -- relations of the class are seen
  seen_each : (rs : List SignedRelation) (kind : Class) → AllByRecursion (IsOfClass kind m n) rs
      → AllByRecursion (λ s. IsRelationOf kind s.relation) (seen_from rs m n)
  seen_each [] kind all = tt
  seen_each (r ∷ rs) kind all = by (seen_each rs kind all.1) (goes r.relation m n) (goes r.relation n m) refl refl
    where
      by : AllByRecursion (λ s. IsRelationOf kind s.relation) (seen_from rs m n) → (a b : Bool)
          → goes r.relation m n ≡ a → goes r.relation n m ≡ b
          → AllByRecursion (λ s. IsRelationOf kind s.relation) (seen_one a b r ++ seen_from rs m n)
      by rest true b one back = ((all.0 (or_left (goes r.relation m n) (goes r.relation n m || false) one)).1, rest)
      by rest false true one back = (
        (all.0 (or_right (goes r.relation m n) (goes r.relation n m || false)
            (or_left (goes r.relation n m) false back))).1,
        rest,
      )
      by rest false false one back = rest

  pub seen_of_class : (rs : List SignedRelation) (kind : Class) (seen now : List SidedRelation) → now ≡ seen
      → seen ≡ seen_from rs m n → AllByRecursion (IsOfClass kind m n) rs
      → All (λ s. IsRelationOf kind s.relation) now
  seen_of_class rs kind seen now same is all = subst (All (λ s. IsRelationOf kind s.relation)) (sym (same ∙ is))
      (all_of (λ s. IsRelationOf kind s.relation) (seen_from rs m n) (seen_each rs kind all))

  each_of : (P : SidedRelation → Type 0) (xs : List SidedRelation) → All P xs → AllByRecursion P xs
  each_of P [] all = tt
  each_of P (x ∷ xs) all = (all 0 x (omega arith), each_of P xs (λ k d below. all (suc k) d (next (length xs) k below)))
    where
      next : (n k : ℕ) → k < n → suc k < suc n
      next n k below = omega (arith, below)

  -- so the link that is made of them is that of the two fields
  pub link_made : (rs : List SignedRelation) (kind : Class) (seen now : List SidedRelation) → now ≡ seen
      → seen ≡ seen_from rs m n → AllByRecursion (IsOfClass kind m n) rs → (link : PairLink)
      → class_of_link link ≡ kind
      → ((v w : Cell) → IsValue kind v → IsValue kind w
      → Stands MeetsLower MeetsUpper IsAllowed link v w ↔ All (λ s. IsMet s v w) now)
      → IsLinkOf rs kind m n link
  link_made rs kind seen now same is all link of_class met = record {
    of_class = of_class;
    met = λ v w of_v of_w.
        let own = met v w of_v of_w in
        let stands = met_stands rs kind v w (no_null_in (widest_kind kind) v of_v) (no_null_in (widest_kind kind) w of_w) all in (
          (λ s. stands.0 (each_of (λ s. IsMet s v w) (seen_from rs m n) (subst (All (λ s. IsMet s v w)) (same ∙ is) (own.0 s)))),
          (λ s. own.1 (subst (All (λ s. IsMet s v w)) (sym (same ∙ is)) (all_of (λ s. IsMet s v w) (seen_from rs m n) (stands.1 s)))),
        );
  }

pub link_ok : (result : Result PairLink Memory) (rs : List SignedRelation) (kind : Class) (m n : ℕ)
    (seen now : List SidedRelation) → now ≡ seen → seen ≡ seen_from rs m n → AllByRecursion (IsOfClass kind m n) rs
    → IfOk result (λ link. class_of_link link ≡ kind)
    → IfOk result (λ link. (v w : Cell) → IsValue kind v → IsValue kind w
    → Stands MeetsLower MeetsUpper IsAllowed link v w ↔ All (λ s. IsMet s v w) now)
    → IfOk result (IsLinkOf rs kind m n)
link_ok (Ok link) rs kind m n seen now same is all of_class met = link_made m n rs kind seen now same is all link of_class met
link_ok (Err e) rs kind m n seen now same is all of_class met = tt

-- a node, as a joint
pub joint_is : (nodes : List PartNode) (c : ℕ) (x : PartNode) → c < length nodes → x ≡ get_or nodes c x
    → slice_get (joints_of nodes) c ≡ Some (joint_of x)
joint_is nodes c x c_in is = joint_at nodes c x c_in ∙ ap (λ y. Some (joint_of y)) (sym is)

-- the relations between two nodes
pub linkable_at : (nodes : List PartNode) (rs : List SignedRelation) (u c : ℕ) (own x : PartNode)
    → AreLinkable (joints_of nodes) rs → u < length nodes → own ≡ get_or nodes u own → c < length nodes
    → x ≡ get_or nodes c x → AllByRecursion (IsOfClass (class_of_kind own.values.kind) own.place x.place) rs
linkable_at nodes rs u c own x linkable u_in own_is c_in is = linkable u c (joint_of own) (joint_of x)
    (joint_is nodes u own u_in own_is) (joint_is nodes c x c_in is)

pub linkable_back : (kind : Class) (m n : ℕ) (rs : List SignedRelation) → AllByRecursion (IsOfClass kind m n) rs
    → AllByRecursion (IsOfClass kind n m) rs
linkable_back kind m n [] all = tt
linkable_back kind m n (r ∷ rs) all =
    ((λ joined. all.0 (swap (goes r.relation n m) (goes r.relation m n) joined)), linkable_back kind m n rs all.1)
  where
    swap : (a b : Bool) → (a || (b || false)) ≡ true → (b || (a || false)) ≡ true
    swap true true e = refl
    swap true false e = refl
    swap false true e = refl
    swap false false e = e

-- the neighbours of a field among the first nodes
pub record AreFound (joints : List Joint) (rs : List SignedRelation) (here : Joint) (i : ℕ)
    (ns : List (Neighbour PairLink)) : Type 0 where
  pub each : All (IsLinkTo joints rs here) ns
  pub below : All (λ n. n.node < i) ns
  pub once : AllPairs (λ one other. one.node ≢ other.node) ns
  pub complete : (c : ℕ) (other : Joint) → c < i → slice_get joints c ≡ Some other
      → are_joined (relations_of rs) here.number other.number ≡ true → Contains (map (λ n. n.node) ns) c

module _ (joints : List Joint) (rs : List SignedRelation) (here : Joint) where
  pub none_found : (ns : List (Neighbour PairLink)) → ns ≡ [] → AreFound joints rs here 0 ns
  none_found ns none = subst (AreFound joints rs here 0) (sym none) (record {
    each = λ k d below. absurd (omega (arith, below));
    below = λ k d below. omega (arith, below);
    once = λ j k d below within. omega (arith, within);
    complete = λ c other below at joined. absurd (omega (arith, below));
  })

  one_less : (i c : ℕ) → c < i + 1 → c ≢ i → c < i
  one_less i c below other = omega (arith, below, other)

  pub found_same : (i : ℕ) (ns : List (Neighbour PairLink)) (o : Joint) → slice_get joints i ≡ Some o
      → false ≡ are_joined (relations_of rs) here.number o.number → AreFound joints rs here i ns
      → AreFound joints rs here (i + 1) ns
  found_same i ns o at not found = record {
    each = found.each;
    below = λ k d below. let less = found.below k d below in omega (arith, less);
    once = found.once;
    complete = λ c other below c_at joined. ⊎_elim
        (λ e. absurd (true≢false (sym joined
        ∙ (ap (λ x. are_joined (relations_of rs) here.number x.number)
        (same_Some other o (sym c_at ∙ (ap (λ k. slice_get joints k) e ∙ at))) ∙ sym not))))
        (λ e. found.complete c other (one_less i c below e) c_at joined)
        (cases_eq c i);
  }

  pub found_more : (i : ℕ) (ns new : List (Neighbour PairLink)) (o : Joint) (n : Neighbour PairLink)
      → slice_get joints i ≡ Some o → n.node ≡ i → true ≡ are_joined (relations_of rs) here.number o.number
      → IsLinkOf rs here.class here.number o.number n.down → IsLinkOf rs here.class o.number here.number n.up
      → new ≡ ns ++ n ∷ [] → AreFound joints rs here i ns → AreFound joints rs here (i + 1) new
  found_more i ns new o n at node joined down up pushed found = subst (AreFound joints rs here (i + 1)) (sym pushed) (record {
    each = All-push (IsLinkTo joints rs here) ns n found.each (record {
      other = o;
      is_node = ap (λ k. slice_get joints k) node ∙ at;
      joined = sym joined;
      down = down;
      up = up;
    });
    below = All-push (λ n. n.node < i + 1) ns n (λ k d below. let less = found.below k d below in omega (arith, less))
        (omega (arith, node));
    once = all_pairs_push (λ one other. one.node ≢ other.node) ns n found.once
        (λ k d below e. let less = found.below k d below in omega (arith, less, e, node));
    complete = λ c other below c_at c_joined.
        subst (λ xs. Contains xs c) (sym (map-append (λ n. n.node) ns (n ∷ [])))
        (⊎_elim
        (λ e. Contains-append_right (map (λ n. n.node) ns) (n.node ∷ []) c (0, omega arith, node ∙ sym e))
        (λ e. Contains-append_left (map (λ n. n.node) ns) (n.node ∷ []) c
        (found.complete c other (one_less i c below e) c_at c_joined))
        (cases_eq c i));
  })

  pub found_all : (i : ℕ) (ns : List (Neighbour PairLink)) → length joints ≤ i → AreFound joints rs here i ns
      → AreLinked joints rs here ns
  found_all i ns enough found = record {
    each = found.each;
    once = found.once;
    complete = λ c other at joined. let within = slice_get_within joints c other at in
        found.complete c other (omega (arith, within, enough)) at joined;
  }

-- the neighbours of the node at an index
pub linked_at : (nodes : List PartNode) (rs : List SignedRelation) (u i : ℕ) (own : PartNode)
    (ns : List (Neighbour PairLink)) → u < length nodes → own ≡ get_or nodes u own → length nodes ≤ i
    → AreFound (joints_of nodes) rs (joint_of own) i ns → AreLinkedAt (joints_of nodes) rs u ns
linked_at nodes rs u i own ns u_in is enough found here at = subst (λ j. AreLinked (joints_of nodes) rs j ns)
    (same_Some (joint_of own) here (sym (joint_is nodes u own u_in is) ∙ at))
    (found_all (joints_of nodes) rs (joint_of own) i ns
    (let same = length-map nodes joint_of in omega (arith, same, enough)) found)
