-- The regions that are kept are those of the part, when all its paths are done.
use Rattle.std.proofs.Common.{◌≡◌, ◌↔◌, ℕ, ◌≤◌, ◌⊎◌, inl, inr, ⊎_elim, Bool, true, false, if◌then◌else◌, List, [], ◌∷◌, ◌++◌, length, get_or, refl, sym, ap, ◌∙◌, subst, arith, append_assoc, append-nil}
use Rattle.std.proofs.lemmas.Bool.{false≢true}
use Rattle.std.proofs.lemmas.List.{length_push}
use Rattle.std.specs.Bool.{Decides}
use Rattle.std.proofs.lemmas.List.Elements.{Contains-append_left, Contains-push, Contains-push_cases, Contains-get_or}
use Rattle.std.proofs.lemmas.List.Quantifiers.{all_pairs_push}
use Rattle.std.specs.List.{AllByRecursion, AllPairs, Any}
use Rattle.helix_profile.specs.Content.{Content}
use Rattle.helix_profile.specs.Fields.{all_relations}
use Rattle.helix_profile.specs.Good.{AreCellsOf}
use Rattle.helix_profile.specs.Satisfaction.{AllSatisfied}
use Rattle.helix_profile.specs.declared.constraint.Constraint.{Constraint}
use Rattle.helix_partition.specs.declared.partition.Partition.{Partition}
use Rattle.helix_relations.specs.Region.{RegionContent, IsRegionRow}
use Rattle.helix_tree.specs.DecisionLaws.{dec_like, dec_both}
use Rattle.helix_tree.specs.TreeLaws.{tree_means, dec_tree}
use Rattle.helix_tree.specs.TreeOf.{signed_tree}
use Rattle.helix_tree.specs.declared.literal.Literal.{Literal}
use Rattle.helix_values.specs.declared.cell.Cell.{Cell}
use Rattle.helix_options.proofs.Valid.{all-append, all-parts}
use Rattle.helix_options.specs.Literals.{IsLiteralOf}
use Rattle.helix_options.specs.Paths.{PathHolds, ExactlyOneHolds, NoneHolds, constraints_of, IsExactFor, IsFewFor, AreValidFor}
use Rattle.helix_options.specs.Regions.{IsRegionOver, AreRegionsFor, AreFewRegionsFor}
use Rattle.helix_options.specs.Inner.Keeping.{HasRow, AddsRegion}
use Rattle.helix_options.specs.Inner.Narrowing.{IsRegionOf}

-- some path of a list holds
abbrev pub SomeHolds : List Cell → List (List Literal) → Type 0
SomeHolds row [] = ⊥
SomeHolds row (path ∷ paths) = PathHolds row path ⊎ SomeHolds row paths

holds_before : (row : List Cell) (paths : List (List Literal)) (last : List Literal) → SomeHolds row paths
    → SomeHolds row (paths ++ last ∷ [])
holds_before row [] last none = absurd none
holds_before row (path ∷ paths) last (inl here) = inl here
holds_before row (path ∷ paths) last (inr later) = inr (holds_before row paths last later)

holds_last : (row : List Cell) (paths : List (List Literal)) (last : List Literal) → PathHolds row last
    → SomeHolds row (paths ++ last ∷ [])
holds_last row [] last holds = inl holds
holds_last row (path ∷ paths) last holds = inr (holds_last row paths last holds)

before_or_last : (row : List Cell) (paths : List (List Literal)) (last : List Literal)
    → SomeHolds row (paths ++ last ∷ []) → SomeHolds row paths ⊎ PathHolds row last
before_or_last row [] last (inl holds) = inr holds
before_or_last row [] last (inr none) = absurd none
before_or_last row (path ∷ paths) last (inl here) = inl (inl here)
before_or_last row (path ∷ paths) last (inr later) =
    ⊎_elim (λ before. inl (inr before)) (λ holds. inr holds) (before_or_last row paths last later)

-- where exactly one holds, some one does, and none of those after it

some_of_one : (row : List Cell) (paths : List (List Literal)) → ExactlyOneHolds row paths → SomeHolds row paths
some_of_one row [] none = absurd none
some_of_one row (path ∷ paths) (inl here) = inl here.0
some_of_one row (path ∷ paths) (inr later) = inr (some_of_one row paths later.1)

not_later : (row : List Cell) (done : List (List Literal)) (next : List Literal) (left : List (List Literal))
    → ExactlyOneHolds row (done ++ next ∷ left) → SomeHolds row done → ¬ PathHolds row next
not_later row [] next left one none = absurd none
not_later row (path ∷ done) next left (inl here) some =
    (all-parts (λ other. ¬ PathHolds row other) done (next ∷ left) here.1).1.0
not_later row (path ∷ done) next left (inr others) (inl here) = absurd (others.0 here)
not_later row (path ∷ done) next left (inr others) (inr later) = not_later row done next left others.1 later

none_some : (row : List Cell) (paths : List (List Literal)) → NoneHolds row paths → SomeHolds row paths → ⊥
none_some row [] none some = some
none_some row (path ∷ paths) none (inl here) = none.0 here
none_some row (path ∷ paths) none (inr later) = none_some row paths none.1 later

dec_all : (constraints : List Constraint) (row : List Cell) → Dec (AllSatisfied constraints row true)
dec_all [] row = yes tt
dec_all (c ∷ constraints) row = let means = tree_means c row true in
    dec_both (dec_like means.0 means.1 (dec_tree (signed_tree c true) row)) (dec_all constraints row)

module _ (profile : Content) (part : Partition) where
  abbrev InSome : List Cell → List RegionContent → Type 0
  InSome row regions = Any (λ region. IsRegionRow region row) regions

  abbrev Apart : RegionContent → RegionContent → Type 0
  Apart one other = (row : List Cell) → AreCellsOf profile.fields row → IsRegionRow one row → ¬ IsRegionRow other row

  -- the regions of the paths that are done
  pub record AreFound (done : List (List Literal)) (regions : List RegionContent) : Type 0 where
    pub each : AllByRecursion (IsRegionOver profile part) regions
    pub few : length regions ≤ length done
    pub rows : (row : List Cell) → AreCellsOf profile.fields row → InSome row regions ↔ SomeHolds row done
    pub disjoint : AllPairs Apart regions

  pub none_found : AreFound [] []
  none_found = record {
    each = tt;
    few = omega arith;
    rows = λ row own. ((λ none. omega (arith, none.2)), (λ none. absurd none));
    disjoint = λ i j d before within. absurd (omega (arith, within));
  }

  module _ (done : List (List Literal)) (regions : List RegionContent) (found : AreFound done regions)
      (path : List Literal)
      (apart : (row : List Cell) → AreCellsOf profile.fields row → SomeHolds row done → ¬ PathHolds row path) where
    -- a region without a row is left out
    left_out : (region : RegionContent) → IsRegionOf profile part.fields path region → ¬ HasRow region
        → AreFound (done ++ path ∷ []) regions
    left_out region is none = record {
      each = found.each;
      few = let few = found.few in let more = length_push done path in omega (arith, few, more);
      rows = λ row own. (
        (λ some. holds_before row done path ((found.rows row own).0 some)),
        (λ some. ⊎_elim (λ before. (found.rows row own).1 before)
            (λ last. absurd (none (row, (is.rows row own).1 last)))
            (before_or_last row done path some)),
      );
      disjoint = found.disjoint;
    }

    some_before : (row : List Cell) (region : RegionContent) → InSome row regions → InSome row (regions ++ region ∷ [])
    some_before row region some =
        let there = Contains-append_left regions (region ∷ []) some.1 (some.0, some.2, some.3) in
        (there.0, some.1, there.1, there.2, some.4)

    some_last : (row : List Cell) (region : RegionContent) → IsRegionRow region row
        → InSome row (regions ++ region ∷ [])
    some_last row region is = let there = Contains-push regions region in (there.0, region, there.1, there.2, is)

    some_cases : (row : List Cell) (region : RegionContent) → InSome row (regions ++ region ∷ [])
        → InSome row regions ⊎ IsRegionRow region row
    some_cases row region some = ⊎_elim
        (λ there. inl (there.0, some.1, there.1, there.2, some.4))
        (λ same. inr (subst (λ r. IsRegionRow r row) (sym same) some.4))
        (Contains-push_cases regions region some.1 (some.0, some.2, some.3))

    -- and one with a row is kept
    taken : (region : RegionContent) → IsRegionOf profile part.fields path region → HasRow region
        → AreFound (done ++ path ∷ []) (regions ++ region ∷ [])
    taken region is has = record {
      each = all-append (IsRegionOver profile part) regions (region ∷ []) found.each (
        record {
          is_region = is.over.is_region;
          numbers = is.over.numbers;
          fields = is.over.known;
          some_row = has;
        },
        tt,
      );
      few = let few = found.few in let more = length_push done path in let longer = length_push regions region in
          omega (arith, few, more, longer);
      rows = λ row own. (
        (λ some. ⊎_elim (λ before. holds_before row done path ((found.rows row own).0 before))
            (λ last. holds_last row done path ((is.rows row own).0 last))
            (some_cases row region some)),
        (λ some. ⊎_elim (λ before. some_before row region ((found.rows row own).1 before))
            (λ last. some_last row region ((is.rows row own).1 last))
            (before_or_last row done path some)),
      );
      disjoint = all_pairs_push Apart regions region found.disjoint
          (λ k d below row own one other.
          let there = Contains-get_or regions k d below in
          apart row own ((found.rows row own).0 (there.0, get_or regions k d, there.1, there.2, one))
          ((is.rows row own).0 other));
    }

    by_row : (region : RegionContent) (has : Bool) → IsRegionOf profile part.fields path region
        → Decides has (HasRow region)
        → AreFound (done ++ path ∷ []) (if has then regions ++ region ∷ [] else regions)
    by_row region true is decides = taken region is (decides.0 refl)
    by_row region false is decides = left_out region is (λ has. false≢true (decides.1 has))

    pub one_more : (new : List RegionContent) → AddsRegion profile part.fields path regions new
        → AreFound (done ++ path ∷ []) new
    one_more new adds = subst (AreFound (done ++ path ∷ [])) (sym adds.kept)
        (by_row adds.region adds.has adds.is adds.decides)

  -- all paths of the part: those that are done, and those that are left
  pub record AreFoundOf (all left : List (List Literal)) (regions : List RegionContent) : Type 0 where
    pub done : List (List Literal)
    pub split : all ≡ done ++ left
    pub found : AreFound done regions

  module _ (all : List (List Literal)) (exact : IsExactFor profile part all) where
    no_later : (done : List (List Literal)) (path : List Literal) (left : List (List Literal))
        → all ≡ done ++ path ∷ left → (row : List Cell) → AreCellsOf profile.fields row → SomeHolds row done
        → ¬ PathHolds row path
    no_later done path left split row own some holds =
        let unsatisfied : ¬ AllSatisfied (constraints_of profile part) row true = λ satisfied.
        not_later row done path left (subst (ExactlyOneHolds row) split (exact.satisfied row own satisfied)) some holds
        in
        let none : NoneHolds row (done ++ path ∷ left) =
        subst (NoneHolds row) split (exact.others row own unsatisfied) in
        (all-parts (λ other. ¬ PathHolds row other) done (path ∷ left) none).1.0 holds

    pub next_found : (path : List Literal) (before left : List (List Literal)) (regions new : List RegionContent)
        → AreFoundOf all before regions → before ≡ path ∷ left
        → AddsRegion profile part.fields path regions new → AreFoundOf all left new
    next_found path before left regions new so_far is adds =
        let split : all ≡ so_far.done ++ path ∷ left = so_far.split ∙ ap (λ rest. so_far.done ++ rest) is in record {
          done = so_far.done ++ path ∷ [];
          split = split ∙ sym (append_assoc so_far.done (path ∷ []) left);
          found = one_more so_far.done regions so_far.found path (no_later so_far.done path left split) new adds;
        }

    all_done : (left : List (List Literal)) (regions : List RegionContent) → AreFoundOf all left regions → left ≡ []
        → AreFound all regions
    all_done left regions so_far none = subst (λ done. AreFound done regions)
        (sym (so_far.split ∙ (ap (λ rest. so_far.done ++ rest) none ∙ append-nil so_far.done))) so_far.found

    pub regions_for : (left : List (List Literal)) (regions : List RegionContent) → AreFoundOf all left regions
        → left ≡ [] → AreRegionsFor profile part regions
    regions_for left regions so_far none = let found : AreFound all regions = all_done left regions so_far none in
        record {
          each = found.each;
          disjoint = found.disjoint;
          satisfied = λ row own. (
            (λ satisfied. (found.rows row own).1 (some_of_one row all (exact.satisfied row own satisfied))),
            (λ some. by_case row own ((found.rows row own).0 some) (dec_all (constraints_of profile part) row)),
          );
        }
      where
        by_case : (row : List Cell) → AreCellsOf profile.fields row → SomeHolds row all
            → Dec (AllSatisfied (constraints_of profile part) row true)
            → AllSatisfied (constraints_of profile part) row true
        by_case row own some (yes satisfied) = satisfied
        by_case row own some (no not) = absurd (none_some row all (exact.others row own not) some)

    pub few_regions : (left : List (List Literal)) (regions : List RegionContent) → AreFoundOf all left regions
        → left ≡ [] → IsFewFor profile part all → AreFewRegionsFor profile part regions
    few_regions left regions so_far none few = let found : AreFound all regions = all_done left regions so_far none in
        le_trans found.few few
      where
        le_trans : {a b c : ℕ} → a ≤ b → b ≤ c → a ≤ c
        le_trans {a = a} {b = b} {c = c} one two = omega (arith, one, two)

  pub first_found : (all : List (List Literal)) → AreFoundOf all all []
  first_found all = record { done = []; split = refl; found = none_found }

  -- the literals of the next path are valid
  pub valid_next : (all before : List (List Literal)) (regions : List RegionContent) → AreValidFor profile part all
      → AreFoundOf all before regions → (path : List Literal) (left : List (List Literal)) → before ≡ path ∷ left
      → AllByRecursion (IsLiteralOf profile.fields part.fields (all_relations profile.constraints)) path
  valid_next all before regions valid so_far path left is =
      let split : all ≡ so_far.done ++ path ∷ left = so_far.split ∙ ap (λ rest. so_far.done ++ rest) is in
      (all-parts
      (λ p. AllByRecursion (IsLiteralOf profile.fields part.fields (all_relations profile.constraints)) p)
      so_far.done (path ∷ left) (subst (AreValidFor profile part) split valid)).1.0
