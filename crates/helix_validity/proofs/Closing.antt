-- Relations between fields of which there are so many are a forest, or some first one closes a cycle.
use Rattle.std.proofs.Common.{◌≡◌, ◌≢◌, ◌⊎◌, inl, inr, ℕ, zero, suc, ◌+◌, ◌<◌, ◌≤◌, List, [], ◌∷◌, ◌++◌, length, map, take, Some, slice_get, get_or, refl, sym, ◌∙◌, ap, subst, arith, ⊎_elim}
use Rattle.std.proofs.lemmas.Bool.{cases_eq}
use Rattle.std.proofs.lemmas.List.{get_or-map, get_or_past, length-map, take_all, take_more}
use Rattle.std.proofs.lemmas.List.FromFn.{get_or-range_with_len, length-range_with_len}
use Rattle.std.proofs.lemmas.Option.{get_or_from_slice_get, slice_get_within}
use Rattle.std.specs.List.{All, range_with_len}
use Rattle.helix_forest.specs.Closed.{not_after, not_before}
use Rattle.helix_forest.proofs.TreeSteps.{alone, closes_here, on_a_line, on_two_trees}
use Rattle.helix_forest.specs.Closing.{AreLinked, ClosesCycle, HasEndsBelow, IsFirstToClose}
use Rattle.helix_forest.specs.Inner.Trees.{AreOwn, AreTreesOf, IsRelabelled, other_label}
use Rattle.helix_profile.specs.Forest.{AreJoined, IsForest}
use Rattle.helix_profile.specs.declared.relation.Relation.{Relation}

own_labels : (n : ℕ) → AreOwn (range_with_len 0 n) n
own_labels n = record {
  count = length-range_with_len 0 n;
  own = λ k below. omega (arith, get_or-range_with_len 0 n k 0 below);
}

relabelled : (from to : ℕ) (labels : List ℕ) → IsRelabelled from to labels (map (other_label from to) labels)
relabelled from to labels = record {
  same_length = length-map labels (other_label from to);
  done = λ k below. get_or-map (other_label from to) labels k 0 0 below;
  left = λ k past. get_or_past (map (other_label from to) labels) k 0
      (omega (arith, length-map labels (other_label from to))) ∙ sym (get_or_past labels k 0 past);
}

-- whether fields are joined
same_pair : (a b f g : ℕ) → ((a ≡ f) × (b ≡ g)) ⊎ ¬ ((a ≡ f) × (b ≡ g))
same_pair a b f g = ⊎_elim
    (λ one. ⊎_elim (λ two. inl (one, two)) (λ other. inr (λ both. other both.1)) (cases_eq b g))
    (λ other. inr (λ both. other both.0)) (cases_eq a f)

joined_or_not : (lines : List Relation) (f g : ℕ) → AreJoined lines f g ⊎ ¬ AreJoined lines f g
joined_or_not [] f g = inr (λ none. none)
joined_or_not (r ∷ lines) f g = ⊎_elim (λ one. inl (inl one))
    (λ not_one. ⊎_elim (λ two. inl (inr (inl two)))
    (λ not_two. ⊎_elim (λ later. inl (inr (inr later)))
    (λ not_later. inr (⊎_elim not_one (⊎_elim not_two not_later))) (joined_or_not lines f g))
    (same_pair r.left r.right g f)) (same_pair r.left r.right f g)

relation_at : (rs : List Relation) (k : ℕ) → k < length rs → (r : Relation) × (slice_get rs k ≡ Some r)
relation_at [] k below = absurd (omega arith)
relation_at (r ∷ rs) zero below = (r, refl)
relation_at (r ∷ rs) (suc k) below = relation_at rs k (omega arith)

module _ (n : ℕ) (rs : List Relation) (ends : All (HasEndsBelow n) rs) where
  ends_of : (k : ℕ) (r : Relation) → slice_get rs k ≡ Some r → HasEndsBelow n r
  ends_of k r is = subst (HasEndsBelow n) (get_or_from_slice_get rs k r r is)
      (ends k r (slice_get_within rs k r is))

  -- the first relations are a forest of labelled fields
  record AreGrown (first : List Relation) : Type 0 where
    labels : List ℕ
    lines : List Relation
    so_many_labels : length labels ≡ n
    trees : AreTreesOf first labels lines

  abbrev Closes : Type 0
  Closes = (index : ℕ) × IsFirstToClose rs index

  module _ (k : ℕ) (r : Relation) (is : slice_get rs k ≡ Some r) (grown : AreGrown (take k rs)) where
    abbrev label : ℕ → ℕ
    label f = get_or grown.labels f 0

    ends_in : HasEndsBelow (length grown.labels) r
    ends_in = subst (λ m. HasEndsBelow m r) (sym grown.so_many_labels) (ends_of k r is)

    first_closes : (¬ AreJoined (take k rs) r.left r.right)
        × AreLinked (take k rs) r.left r.right → IsFirstToClose rs k
    first_closes closed =
        let closes : ClosesCycle rs k = record { relation = r; is = is; new_pair = closed.0; linked = closed.1 } in
        record {
          closes = closes;
          first = λ earlier below other. not_before rs (earlier + 1) k (omega arith)
              (not_after rs earlier other (ends_of earlier other.relation other.is).different) grown.trees.forest;
          no_forest = λ whole. not_before rs (k + 1) (length rs) (omega (arith, slice_get_within rs k r is))
              (not_after rs k closes (ends_of k r is).different)
              (subst IsForest (sym (take_all (length rs) rs (omega arith))) whole);
        }

    one_tree : label r.left ≡ label r.right → AreGrown (take k rs ++ r ∷ []) ⊎ Closes
    one_tree same = ⊎_elim
        (λ line. inl (record {
          labels = grown.labels;
          lines = grown.lines;
          so_many_labels = grown.so_many_labels;
          trees = on_a_line (take k rs) r grown.labels grown.lines grown.trees ends_in line;
        }))
        (λ none. inr (
          k,
          first_closes
              (closes_here (take k rs) r grown.labels grown.lines grown.trees ends_in same none),
        ))
        (joined_or_not grown.lines r.left r.right)

    two_trees : label r.left ≢ label r.right → AreGrown (take k rs ++ r ∷ [])
    two_trees apart =
        let moved : ℕ → ℕ = other_label (label r.left) (label r.right) in record {
          labels = map moved grown.labels;
          lines = grown.lines ++ r ∷ [];
          so_many_labels = length-map grown.labels moved ∙ grown.so_many_labels;
          trees = on_two_trees (take k rs) r grown.labels grown.lines grown.trees ends_in (map moved grown.labels)
              (relabelled (label r.left) (label r.right) grown.labels) apart;
        }

    one_more : AreGrown (take k rs ++ r ∷ []) ⊎ Closes
    one_more = ⊎_elim one_tree (λ apart. inl (two_trees apart)) (cases_eq (label r.left) (label r.right))

  grown_to : (k : ℕ) → k ≤ length rs → AreGrown (take k rs) ⊎ Closes
  grown_to zero below = inl (record {
    labels = range_with_len 0 n;
    lines = [];
    so_many_labels = length-range_with_len 0 n;
    trees = alone n (range_with_len 0 n) (own_labels n);
  })
  grown_to (suc k) below =
      let here = relation_at rs k (omega arith) in
      let more : take (suc k) rs ≡ take k rs ++ here.0 ∷ [] =
      ap (λ m. take m rs) (let e : suc k ≡ k + 1 = omega arith in e)
      ∙ (take_more rs k here.0 (omega arith)
      ∙ ap (λ last. take k rs ++ last ∷ []) (get_or_from_slice_get rs k here.0 here.0 here.1)) in
      ⊎_elim
      (λ grown. ⊎_elim (λ next. inl (subst AreGrown (sym more) next)) (λ closes. inr closes)
      (one_more k here.0 here.1 grown)) (λ closes. inr closes) (grown_to k (omega arith))

  pub forest_or_closes : IsForest rs ⊎ Closes
  forest_or_closes = ⊎_elim
      (λ grown. inl (subst IsForest (take_all (length rs) rs (omega arith)) grown.trees.forest))
      (λ closes. inr closes) (grown_to (length rs) (omega arith))
