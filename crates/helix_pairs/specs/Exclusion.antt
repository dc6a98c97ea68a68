-- The values that negated equalities exclude.
use Rattle.std.specs.Prelude.{ℤ, ◌<ℤ◌, ◌≤ℤ◌}
use Rattle.helix_pairs.specs.declared.pair.Exclusion.{Exclusion}
use Rattle.helix_pairs.specs.declared.pair.Exclusion.TheVariants.{No, Before, Rest}

-- what isn't allowed from a child on: nothing, some values, or all up to the greatest one
abbrev pub IsExclusion : (ℤ → Type 0) → ℤ → ℤ → Exclusion → Type 0
IsExclusion IsAllowed high child No = IsAllowed child
IsExclusion IsAllowed high child (Before next) =
    (child <ℤ next) × ((v : ℤ) → child ≤ℤ v → v <ℤ next → v ≤ℤ high → ¬ IsAllowed v)
IsExclusion IsAllowed high child Rest = (v : ℤ) → child ≤ℤ v → v ≤ℤ high → ¬ IsAllowed v
