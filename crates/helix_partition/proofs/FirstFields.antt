-- A constraint is in the group of its first field.
use Rattle.std.proofs.Common.{◌≡◌, ℕ, zero, suc, ◌<◌, inl, inr, Bool, true, false, Some, List, [], ◌∷◌, length, get_or, refl, sym, ap, ◌∙◌, arith}
use Rattle.std.proofs.lemmas.List.{get_or-map}
use Rattle.std.proofs.lemmas.Option.{get_or_from_slice_get}
use Rattle.std.specs.List.{slice_get}
use Rattle.std.specs.Option.{option_map_or}
use Rattle.helix_profile.specs.Content.{Content}
use Rattle.helix_profile.specs.Fields.{fields_of}
use Rattle.helix_profile.specs.Width.{is_linked, is_in_group}
use Rattle.helix_profile.specs.Validity.{IsConstraintFor, IsValidProfile}
use Rattle.helix_profile.specs.declared.constraint.Constraint.{Constraint}
use Rattle.helix_partition.specs.Groups.{is_grouped}
use Rattle.helix_partition.specs.ChainLaws.{Names, IsIn}
use Rattle.helix_partition.specs.LinkLaws.{linked_on, linked_by, in_group, group_in}
use Rattle.helix_partition.specs.Inner.Labels.{first_fields}
use Rattle.helix_partition.proofs.Labelling.{names_at}
use Rattle.helix_partition.proofs.NamedFields.{some_named}
use Rattle.helix_partition.proofs.Reading.{one_of}

-- two tests that pass at once
pub same_tests : (a b : Bool) → (a ≡ true → b ≡ true) → (b ≡ true → a ≡ true) → a ≡ b
same_tests true b to from = sym (to refl)
same_tests false true to from = from refl
same_tests false false to from = refl

module _ (profile : Content) (valid : IsValidProfile profile) where
  pub first_of : Constraint → ℕ
  first_of c = get_or (fields_of c) 0 0

  -- a constraint of the profile names its first field
  pub names_first : (c : Constraint) → IsIn profile.constraints c → Names c (first_of c)
  unfolding first_of
  names_first c listed = names_at (fields_of c) 0 (omega (
    arith,
    some_named profile.fields c
        (one_of (IsConstraintFor profile.fields) profile.constraints c valid.constraints_fit listed),
  ))

  -- a constraint is in the group of a field exactly where its first field is linked with it
  pub by_first : (c : Constraint) (field : ℕ) → IsIn profile.constraints c
      → is_linked profile.constraints field (first_of c) ≡ is_in_group profile.constraints field c
  by_first c field listed = same_tests (is_linked profile.constraints field (first_of c))
      (is_in_group profile.constraints field c)
      (in_group profile.constraints c field (first_of c) (names_first c listed))
      (λ found. let named = group_in profile.constraints c field found in
      linked_on profile.constraints field named.0 (first_of c) named.2
      (linked_by profile.constraints c named.0 (first_of c) listed named.1 (names_first c listed)))

  pub at : (number : ℕ) → number < length profile.constraints
      → (c : Constraint) × IsIn profile.constraints c × (slice_get profile.constraints number ≡ Some c)
  at number within = found profile.constraints number within
    where
      found : (cs : List Constraint) (i : ℕ) → i < length cs → (c : Constraint) × IsIn cs c × (slice_get cs i ≡ Some c)
      found [] i inside = absurd (omega (arith, inside))
      found (c ∷ cs) zero inside = (c, inl refl, refl)
      found (c ∷ cs) (suc i) inside = let other = found cs i (omega (arith, inside)) in
          (other.0, inr other.1, other.2)

  pub grouped_is : (field number : ℕ) (c : Constraint) → slice_get profile.constraints number ≡ Some c
      → is_grouped profile.constraints field number ≡ is_in_group profile.constraints field c
  grouped_is field number c is = ap (λ o. option_map_or (is_in_group profile.constraints field) o false) is

  pub first_is : (firsts : List ℕ) → firsts ≡ first_fields profile.constraints → (number : ℕ) (c : Constraint)
      → slice_get profile.constraints number ≡ Some c → number < length profile.constraints
      → get_or firsts number 0 ≡ first_of c
  unfolding first_of
  first_is firsts are number c is known = ap (λ l. get_or l number 0) are
      ∙ (get_or-map (λ d. get_or (fields_of d) 0 0) profile.constraints number c 0 known
      ∙ ap (λ d. get_or (fields_of d) 0 0) (get_or_from_slice_get profile.constraints number c c is))
