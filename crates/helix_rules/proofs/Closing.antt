-- The first relation that closes a cycle, and its place.
use Rattle.std.proofs.Common.{◌≡◌, ⊎_elim, ℕ, ◌≤◌, true, nat_lt, List, length, get_or, Option, Some, None, Result, IfOk, slice_get, refl, sym, ◌∙◌, subst, arith}
use Rattle.std.proofs.lemmas.Bool.{cases_lt, ltb-true}
use Rattle.std.proofs.lemmas.Option.{slice_get_past, slice_get_read}
use Rattle.helix_base.specs.declared.memory.Memory.{Memory}
use Rattle.helix_constraints.specs.Visited.{InConstraints}
use Rattle.helix_fields.specs.SearchLaws.{if_ok}
use Rattle.helix_forest.specs.Closing.{IsFirstToClose}
use Rattle.helix_json.specs.declared.value.Json.{Json}
use Rattle.helix_json.specs.Values.{HasNoRepeatedKey}
use Rattle.helix_places.specs.declared.place.Step.{Step}
use Rattle.helix_places.specs.Places.{Finds, IsFirstPlace}
use Rattle.helix_places.specs.PartLaws.{Says}
use Rattle.helix_profile.specs.declared.field.Field.{Field}
use Rattle.helix_profile.specs.declared.relation.Relation.{Relation}
use Rattle.helix_profile.specs.Forest.{IsForest}
use Rattle.helix_rules.specs.Lines.{BreaksForest, Joins, lines_of}
use Rattle.helix_rules.proofs.Existing.{line_there}

-- at most one relation is the first to close a cycle
one_index : (lines : List Relation) (i j : ℕ) → IsFirstToClose lines i → IsFirstToClose lines j → i ≡ j
one_index lines i j one other = ⊎_elim (λ before. absurd (other.first i before one.closes))
    (λ not_before. ⊎_elim (λ after. absurd (one.first j after other.closes)) (λ not_after. omega arith) (cases_lt j i))
    (cases_lt i j)

one_line : (lines : List Relation) (i j : ℕ) (one : IsFirstToClose lines i) (other : IsFirstToClose lines j)
    → one.closes.relation ≡ other.closes.relation
one_line lines i j one other =
    let same : i ≡ j = one_index lines i j one other in
    let at : slice_get lines j ≡ Some one.closes.relation =
    subst (λ k. slice_get lines k ≡ Some one.closes.relation) same one.closes.is in
    let both : Some one.closes.relation ≡ Some other.closes.relation = sym at ∙ other.closes.is in cc

module _ (fields : List Field) (v : Json) where
  -- no relation closes a cycle
  pub no_cycle : (lines : List Relation) → lines ≡ lines_of fields v → IsForest lines
      → Says (BreaksForest fields) v None
  no_cycle lines is forest keys place broken =
      broken.closes.no_forest (subst IsForest is forest)

  module _ (index : ℕ) (closes : IsFirstToClose (lines_of fields v) index) (line : Relation)
      (line_is : line ≡ closes.closes.relation)
    where
      same_first : (broken_line : Relation) → broken_line ≡ line → (place : List Step)
          → IsFirstPlace v (InConstraints (Joins fields broken_line) v) place
          → IsFirstPlace v (InConstraints (Joins fields line) v) place
      same_first broken_line same place = let Q : Relation → Type 0 =
          λ l. IsFirstPlace v (InConstraints (Joins fields l) v) place in subst Q same

      at_broken : (place : List Step) → BreaksForest fields v place
          → IsFirstPlace v (InConstraints (Joins fields line) v) place
      at_broken place broken = same_first broken.closes.closes.relation
          (one_line (lines_of fields v) broken.index index broken.closes closes ∙ sym line_is) place broken.first

      closing_finds : (found : Option (List Step)) → Finds v (InConstraints (Joins fields line) v) found
          → Finds v (BreaksForest fields v) found
      closing_finds None none = λ place broken. none place (at_broken place broken).named
      closing_finds (Some place) first = record {
        named = record {
          index = index;
          closes = closes;
          first = let Q : Relation → Type 0 = λ l. IsFirstPlace v (InConstraints (Joins fields l) v) place in
              subst Q line_is first;
        };
        first = λ other broken. first.first other (at_broken other broken).named;
      }

      pub closing_says : (r : Result (Option (List Step)) Memory)
          → IfOk r (Says (λ w. InConstraints (Joins fields line) w) v) → IfOk r (Says (BreaksForest fields) v)
      closing_says r = if_ok r _ _ (λ found says keys. closing_finds found (says keys))

      -- it has a place
      pub closing_there : (r : Result (Option (List Step)) Memory)
          → IfOk r (Says (λ w. InConstraints (Joins fields line) w) v)
          → IfOk r (λ found. HasNoRepeatedKey v → found ≡ None → IsForest (lines_of fields v))
      closing_there r = if_ok r _ _ (λ found says keys none. absurd
          (let listed : slice_get (lines_of fields v) index ≡ Some line =
          subst (λ l. slice_get (lines_of fields v) index ≡ Some l) (sym line_is) closes.closes.is in
          let there = line_there fields line v index keys listed in
          let Q : Option (List Step) → Type 0 = λ o. Finds v (InConstraints (Joins fields line) v) o in
          subst Q none (says keys) there.0 there.1))

-- the same of what code has: the lines, and the one with the index
module _ (fields : List Field) (v : Json) (lines : List Relation) (index : ℕ) (is : lines ≡ lines_of fields v)
    (closes : IsFirstToClose lines index)
  where
    closes_here : IsFirstToClose (lines_of fields v) index
    closes_here = subst (λ l. IsFirstToClose l index) is closes

    line_here : (line : Relation) → true ≡ (nat_lt index (length lines)) → line ≡ get_or lines index line
        → line ≡ closes_here.closes.relation
    line_here line within read =
        let at : slice_get lines index ≡ Some line =
        slice_get_read lines (length lines) index line refl (ltb-true index (length lines) (sym within)) read in
        let here : slice_get (lines_of fields v) index ≡ Some line =
        subst (λ l. slice_get l index ≡ Some line) is at in
        let both : Some line ≡ Some closes_here.closes.relation = sym here ∙ closes_here.closes.is in cc

    module _ (line : Relation) (r : Result (Option (List Step)) Memory) (within : true ≡ (nat_lt index (length lines)))
        (read : line ≡ get_or lines index line) (says : IfOk r (Says (λ w. InConstraints (Joins fields line) w) v))
      where
        pub place_says : IfOk r (Says (BreaksForest fields) v)
        place_says = closing_says fields v index closes_here line (line_here line within read) r says

        pub place_there : IfOk r (λ found. HasNoRepeatedKey v → found ≡ None → IsForest (lines_of fields v))
        place_there = closing_there fields v index closes_here line (line_here line within read) r says

    pub some_line : length lines ≤ index → ⊥
    some_line past =
        let both : None ≡ Some closes.closes.relation = sym (slice_get_past lines index past) ∙ closes.closes.is in cc
