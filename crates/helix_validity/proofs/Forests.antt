-- Where S21 is broken nowhere, the lines of the text are a forest.
use Rattle.std.proofs.Common.{◌≡◌, inl, inr, ℕ, ◌≤◌, List, [], ◌∷◌, length, Option, Some, None, slice_get, codes, refl, sym, subst, ⊎_elim}
use Rattle.std.specs.Option.{IsSomeAnd}
use Rattle.helix_constraints.specs.Visited.{InConstraint, InConstraints, Visited, role_of_parts}
use Rattle.helix_constraints.specs.declared.role.Role.{Role}
use Rattle.helix_constraints.specs.declared.role.Role.TheVariants as role
use Rattle.helix_fields.specs.Fields.{IsNowhere}
use Rattle.helix_forest.specs.Closing.{IsFirstToClose}
use Rattle.helix_forest.specs.Joins.{no_new_cycle}
use Rattle.helix_json.specs.Values.{HasNoRepeatedKey}
use Rattle.helix_json.specs.declared.value.Json.{Json}
use Rattle.helix_keywords.specs.Forms.{form_of}
use Rattle.helix_keywords.specs.Keywords.{field_word}
use Rattle.helix_places.specs.Members.{items_of, members_of, value_of}
use Rattle.helix_places.specs.PlaceLaws.{and_some}
use Rattle.helix_places.specs.Places.{InItem, part}
use Rattle.helix_places.specs.declared.place.Step.{Step}
use Rattle.helix_places.specs.declared.place.Step.TheVariants as step
use Rattle.helix_profile.specs.Fields.{all_relations}
use Rattle.helix_profile.specs.Forest.{IsForest}
use Rattle.helix_profile.specs.declared.constraint.Constraint.{Constraint}
use Rattle.helix_profile.specs.declared.field.Field.{Field}
use Rattle.helix_profile.specs.declared.relation.Relation.{Relation}
use Rattle.helix_readings.specs.Whole.{GivesConstraints}
use Rattle.helix_readings.specs.declared.sets.SetMembers.{SetMembers}
use Rattle.helix_references.specs.Naming.{index_by}
use Rattle.helix_references.specs.RefusalLaws.{some_of}
use Rattle.helix_rules.proofs.Existing.{line_there}
use Rattle.helix_rules.specs.LineLaws.{lines_below}
use Rattle.helix_rules.specs.Lines.{BreaksForest, IsAlong, Joins, line_of, line_with, lines_of, max_fields, related_of}
use Rattle.helix_rules.specs.declared.rule.Rule.TheVariants as rule
use Rattle.helix_validity.proofs.Closing.{forest_or_closes}
use Rattle.helix_validity.proofs.First.{IsPlaceIn, has_first}
use Rattle.helix_validity.proofs.Joined.{relations_join}
use Rattle.helix_validity.specs.Mentions.{AreFilled}
use Rattle.helix_validity.specs.Unbroken.{IsUnbrokenProfile}

-- what holds where there is something
mapped : {A : Type 0} (o : Option A) (P Q : A → Type 0) → ((x : A) → P x → Q x) → IsSomeAnd o P → IsSomeAnd o Q
mapped None P Q f h = absurd h
mapped (Some x) P Q f h = f x h

-- places that are named in constraints lead to parts, where those that they name themselves do
module _ (P : Json → List Step → Type 0) (own : (v : Json) (place : List Step) → P v place → IsPlaceIn v place) where
  visited_in : (which : Role) (v : Json) (place : List Step) → Visited P which v place → IsPlaceIn v place
  visited_in which v [] h = tt
  visited_in role.One v (s ∷ place) (inl h) = own v (s ∷ place) h
  visited_in role.Many v (s ∷ place) (inl h) = absurd h
  visited_in which v (s ∷ place) (inr h) =
      let there = some_of (role_of_parts which v) (λ next. IsSomeAnd (part v s) (λ w. Visited P next w place)) h in
      mapped (part v s) (λ w. Visited P there.0 w place) (λ w. IsPlaceIn w place)
      (λ w. visited_in there.0 w place) there.2

  item_in : (v : Json) (place : List Step) → InItem (InConstraint P) v place → IsPlaceIn v place
  item_in v [] h = absurd h
  item_in v (step.Member key ∷ place) h = absurd h
  item_in v (step.Item i ∷ place) h = mapped (slice_get (items_of v) i) (λ w. InConstraint P w place)
      (λ w. IsPlaceIn w place) (λ w. visited_in role.One w place) h

  profile_in : (v : Json) (place : List Step) → InConstraints P v place → IsPlaceIn v place
  profile_in v [] h = absurd h
  profile_in v (step.Item i ∷ place) h = absurd h
  profile_in v (step.Member key ∷ place) h =
      let there : IsSomeAnd (value_of (codes "constraints") (members_of v)) (λ w. IsPlaceIn w place) =
      mapped (value_of (codes "constraints") (members_of v)) (λ w. InItem (InConstraint P) w place)
      (λ w. IsPlaceIn w place) (λ w. item_in w place) h.1 in
      let Q : List ℕ → Type 0 = λ k. IsSomeAnd (value_of k (members_of v)) (λ w. IsPlaceIn w place) in
      subst Q (sym h.0) there

module _ (fields : List Field) where
  no_end : (left : Option ℕ) (Q : Relation → Type 0) → ¬ (IsSomeAnd (line_of left None) Q)
  no_end None Q h = h
  no_end (Some left) Q h = h

  -- the second field of a line is named by some value
  end_there : (left : Option ℕ) (o : Option Json) (Q : Relation → Type 0)
      → IsSomeAnd (line_of left (index_by fields o)) Q → (w : Json) × (o ≡ Some w)
  end_there left None Q h = absurd (no_end left Q h)
  end_there left (Some w) Q h = (w, refl)

  joins_in : (line : Relation) (v : Json) (place : List Step) → Joins fields line v place → IsPlaceIn v place
  joins_in line v place h =
      let there = some_of (related_of (form_of (members_of v))) (λ keyword.
      (place ≡ step.Member (field_word keyword) ∷ [])
      × IsSomeAnd (line_with fields keyword (members_of v)) (IsAlong line)) h in
      let end = end_there (index_by fields (value_of (codes "field") (members_of v)))
      (value_of (field_word there.0) (members_of v)) (IsAlong line) there.2.1 in
      subst (IsPlaceIn v) (sym there.2.0)
      (and_some (value_of (field_word there.0) (members_of v)) (λ w. IsPlaceIn w []) end.0 end.1 tt)

  module _ (v : Json) (keys : HasNoRepeatedKey v) (nowhere : IsNowhere (BreaksForest fields) v) where
    none_closes : (index : ℕ) → ¬ (IsFirstToClose (lines_of fields v) index)
    none_closes index closes =
        let line : Relation = closes.closes.relation in
        let there = line_there fields line v index keys closes.closes.is in
        has_first (InConstraints (Joins fields line) v) v (λ place. place)
        (profile_in (Joins fields line) (joins_in line) v) there.0 there.1
        (λ place first. nowhere place (record { index = index; closes = closes; first = first }))

    lines_are_a_forest : IsForest (lines_of fields v)
    lines_are_a_forest = ⊎_elim (λ forest. forest) (λ closes. absurd (none_closes closes.0 closes.1))
        (forest_or_closes max_fields (lines_of fields v) (lines_below fields v))

pub relations_are_a_forest : (fields : List Field) (sets : List SetMembers) (v : Json) (cs : List Constraint)
    → length fields ≤ 64 → HasNoRepeatedKey v → IsUnbrokenProfile fields v → AreFilled fields sets v
    → GivesConstraints fields sets v cs → IsForest (all_relations cs)
relations_are_a_forest fields sets v cs few keys unbroken filled given =
    no_new_cycle (all_relations cs) (lines_of fields v) (relations_join fields sets few v cs unbroken filled given)
    (lines_are_a_forest fields v keys (unbroken rule.S21))
