-- All constraints of a list are satisfied where each one is.
use Rattle.std.proofs.Common.{◌≡◌, ℕ, true, Some, List, [], ◌∷◌, slice_get, Contains, ⊎_elim, subst, arith}
use Rattle.helix_options.specs.Paths.{constraints_of}
use Rattle.helix_partition.specs.declared.partition.Partition.{Partition}
use Rattle.helix_profile.specs.Content.{Content}
use Rattle.helix_profile.specs.Satisfaction.{Satisfies, AllSatisfied}
use Rattle.helix_profile.specs.declared.constraint.Constraint.{Constraint}
use Rattle.helix_values.specs.declared.cell.Cell.{Cell}
use Rattle.helix_walk.proofs.Listed.{contained, contains_first, contains_later, filtered, is_filtered, contains_got, got_contained}

module _ (row : List Cell) where
  each_satisfied : (cs : List Constraint) → AllSatisfied cs row true → (c : Constraint) → Contains cs c
      → Satisfies c row true
  each_satisfied [] all c (k, within, is) = absurd (omega (arith, within))
  each_satisfied (first ∷ cs) all c contains = ⊎_elim
      (λ here. subst (λ d. Satisfies d row true) here all.0) (each_satisfied cs all.1 c) (contained first cs c contains)

  all_satisfied : (cs : List Constraint) → ((c : Constraint) → Contains cs c → Satisfies c row true)
      → AllSatisfied cs row true
  all_satisfied [] each = tt
  all_satisfied (c ∷ cs) each = (
    each c (contains_first c cs),
    all_satisfied cs (λ d contains. each d (contains_later c cs d contains)),
  )

  module _ (profile : Content) where
    -- a part's constraints are constraints of the profile
    pub of_profile : (part : Partition) → AllSatisfied profile.constraints row true
        → AllSatisfied (constraints_of profile part) row true
    of_profile part all = all_satisfied (constraints_of profile part) (λ c contains.
        let found = filtered (slice_get profile.constraints) part.constraints c contains in
        each_satisfied profile.constraints all c (contains_got profile.constraints found.0 c found.2))

    -- one of a part is satisfied where all of the part are
    pub of_part : (part : Partition) (number : ℕ) (c : Constraint)
        → AllSatisfied (constraints_of profile part) row true → Contains part.constraints number
        → slice_get profile.constraints number ≡ Some c → Satisfies c row true
    of_part part number c all contains is = each_satisfied (constraints_of profile part) all c
        (is_filtered (slice_get profile.constraints) part.constraints number c contains is)

    -- all constraints of a profile, by their numbers
    pub by_number : ((number : ℕ) (c : Constraint) → slice_get profile.constraints number ≡ Some c
        → Satisfies c row true) → AllSatisfied profile.constraints row true
    by_number each = all_satisfied profile.constraints (λ c contains.
        each contains.0 c (got_contained profile.constraints c contains))
