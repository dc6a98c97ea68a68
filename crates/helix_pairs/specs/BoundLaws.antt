-- Bounds are all that a relation asks for, and they don't fall.
use Rattle.std.proofs.Common.{◌≡◌, ◌↔◌, ℤ, ◌<ℤ◌, ◌≤ℤ◌, Option, Some, None, IfSome, IfNone, arith}
use Rattle.std.proofs.lemmas.Int.{ints, by_lt_z}
use Rattle.helix_ladders.specs.Rising.{IsShiftedTo}
use Rattle.helix_ladders.specs.Scale.{IsLeast}
use Rattle.helix_pairs.specs.Related.{AreRelated}
use Rattle.helix_pairs.specs.Bounds.{MeetsLower, MeetsUpper, IsExcluded, AreThoseFrom}
use Rattle.helix_pairs.specs.declared.comparison.Comparison.{Comparison}
use Rattle.helix_pairs.specs.declared.comparison.Comparison.TheVariants.{Equal, Different, Above, AtLeast, Below, AtMost}
use Rattle.helix_pairs.specs.declared.comparison.End.{End}
use Rattle.helix_pairs.specs.declared.comparison.End.TheVariants.{Left, Right}

-- a greater value of a range has no lesser result
abbrev pub Rises : ℤ → ℤ → (ℤ → ℤ) → Type 0
Rises low high shifted = (v w : ℤ) → low ≤ℤ v → v ≤ℤ w → w ≤ℤ high → shifted v ≤ℤ shifted w

-- the values whose results reach a target are those from the least one on
pub those_from_least : (low high : ℤ) (shifted : ℤ → ℤ) (target asked : ℤ) (answer : Option ℤ) → asked ≡ target
    → Rises low high shifted
    → IfSome answer (IsLeast (IsShiftedTo low high shifted asked))
    → IfNone answer ((v : ℤ) → ¬ IsShiftedTo low high shifted asked v)
    → AreThoseFrom low high (λ v. target ≤ℤ shifted v) answer
those_from_least low high shifted target asked None same rises some none =
    λ v from_low to_high reached.
    none v (record { from_low = from_low; to_high = to_high; reached = omega (arith, ints, same, reached) })
those_from_least low high shifted target asked (Some r) same rises some none =
    λ v from_low to_high. (
      λ reached.
          some.least v
          (record { from_low = from_low; to_high = to_high; reached = omega (arith, ints, same, reached) }),
      λ later. omega (arith, ints, same, some.has.reached, rises r v some.has.from_low later to_high),
    )

-- the values after an excluded one that aren't excluded are those whose results exceed the parent's value
pub those_past : (comparison : Comparison) (low high parent child : ℤ) (shifted : ℤ → ℤ) (answer : Option ℤ)
    → Rises low high shifted → low ≤ℤ child → IsExcluded comparison Right shifted parent child
    → AreThoseFrom low high (λ v. parent <ℤ shifted v) answer
    → AreThoseFrom child high (λ v. ¬ IsExcluded comparison Right shifted parent v) answer
those_past Different low high parent child shifted None rises from_low excluded none =
    λ v from_child to_high not_excluded.
    not_excluded (by_lt_z parent (shifted v) (λ above. absurd (none v (omega (arith, ints)) to_high above))
    (λ not_above. omega (arith, ints, excluded, rises child v from_low from_child to_high)))
those_past Different low high parent child shifted (Some r) rises from_low excluded those =
    λ v from_child to_high. (
      λ not_excluded. (those v (omega (arith, ints)) to_high).0 (above v from_child to_high not_excluded),
      λ later same. omega (arith, ints, (those v (omega (arith, ints)) to_high).1 later, same),
    )
  where
    above : (v : ℤ) → child ≤ℤ v → v ≤ℤ high → ¬ (parent ≡ shifted v) → parent <ℤ shifted v
    above v from_child to_high not_excluded =
        by_lt_z parent (shifted v) (λ is. is)
        (λ not_above. absurd (not_excluded (omega (
          arith,
          ints,
          excluded,
          rises child v from_low from_child to_high,
        ))))
those_past Equal low high parent child shifted answer rises from_low excluded those = absurd excluded
those_past Above low high parent child shifted answer rises from_low excluded those = absurd excluded
those_past AtLeast low high parent child shifted answer rises from_low excluded those = absurd excluded
those_past Below low high parent child shifted answer rises from_low excluded those = absurd excluded
those_past AtMost low high parent child shifted answer rises from_low excluded those = absurd excluded

-- a relation holds exactly where the child meets both bounds and isn't excluded
pub related_by_bounds : (comparison : Comparison) (side : End) (shifted : ℤ → ℤ) (parent child : ℤ)
    → AreRelated comparison side shifted parent child
    ↔ (MeetsLower comparison side shifted parent child × MeetsUpper comparison side shifted parent child
    × (¬ IsExcluded comparison side shifted parent child))
related_by_bounds Equal Left f p v = (
  λ same. (omega (arith, ints, same), omega (arith, ints, same), λ never. never),
  λ all. omega (arith, ints, all.0, all.1),
)
related_by_bounds Equal Right f p v = (
  λ same. (omega (arith, ints, same), omega (arith, ints, same), λ never. never),
  λ all. omega (arith, ints, all.0, all.1),
)
related_by_bounds Different Left f p v = (λ differs. (tt, tt, differs), λ all. all.2)
related_by_bounds Different Right f p v = (λ differs. (tt, tt, differs), λ all. all.2)
related_by_bounds Above Left f p v = (λ holds. (holds, tt, λ never. never), λ all. all.0)
related_by_bounds Above Right f p v = (λ holds. (tt, holds, λ never. never), λ all. all.1)
related_by_bounds AtLeast Left f p v = (λ holds. (holds, tt, λ never. never), λ all. all.0)
related_by_bounds AtLeast Right f p v = (λ holds. (tt, holds, λ never. never), λ all. all.1)
related_by_bounds Below Left f p v = (λ holds. (tt, holds, λ never. never), λ all. all.1)
related_by_bounds Below Right f p v = (λ holds. (holds, tt, λ never. never), λ all. all.0)
related_by_bounds AtMost Left f p v = (λ holds. (tt, holds, λ never. never), λ all. all.1)
related_by_bounds AtMost Right f p v = (λ holds. (holds, tt, λ never. never), λ all. all.0)

module _ (low high : ℤ) (shifted : ℤ → ℤ) (rises : Rises low high shifted) where
  -- lower bounds don't fall as the parent's value grows: what meets a later one meets the earlier ones
  pub lower_rises : (comparison : Comparison) (side : End) (p q v : ℤ) → low ≤ℤ p → p ≤ℤ q → q ≤ℤ high
      → MeetsLower comparison side shifted q v → MeetsLower comparison side shifted p v
  lower_rises Equal Left p q v from_low below to_high meets = omega (
    arith,
    ints,
    meets,
    rises p q from_low below
        to_high,
  )
  lower_rises AtLeast Left p q v from_low below to_high meets = omega (
    arith,
    ints,
    meets,
    rises p q from_low below
        to_high,
  )
  lower_rises Above Left p q v from_low below to_high meets = omega (
    arith,
    ints,
    meets,
    rises p q from_low below
        to_high,
  )
  lower_rises Equal Right p q v from_low below to_high meets = omega (arith, ints, meets)
  lower_rises AtMost Right p q v from_low below to_high meets = omega (arith, ints, meets)
  lower_rises Below Right p q v from_low below to_high meets = omega (arith, ints, meets)
  lower_rises Different Left p q v from_low below to_high meets = meets
  lower_rises Below Left p q v from_low below to_high meets = meets
  lower_rises AtMost Left p q v from_low below to_high meets = meets
  lower_rises Different Right p q v from_low below to_high meets = meets
  lower_rises Above Right p q v from_low below to_high meets = meets
  lower_rises AtLeast Right p q v from_low below to_high meets = meets

  -- neither do upper bounds: what meets an earlier one meets the later ones
  pub upper_rises : (comparison : Comparison) (side : End) (p q v : ℤ) → low ≤ℤ p → p ≤ℤ q → q ≤ℤ high
      → MeetsUpper comparison side shifted p v → MeetsUpper comparison side shifted q v
  upper_rises Equal Left p q v from_low below to_high meets = omega (
    arith,
    ints,
    meets,
    rises p q from_low below
        to_high,
  )
  upper_rises AtMost Left p q v from_low below to_high meets = omega (
    arith,
    ints,
    meets,
    rises p q from_low below
        to_high,
  )
  upper_rises Below Left p q v from_low below to_high meets = omega (
    arith,
    ints,
    meets,
    rises p q from_low below
        to_high,
  )
  upper_rises Equal Right p q v from_low below to_high meets = omega (arith, ints, meets)
  upper_rises AtLeast Right p q v from_low below to_high meets = omega (arith, ints, meets)
  upper_rises Above Right p q v from_low below to_high meets = omega (arith, ints, meets)
  upper_rises Different Left p q v from_low below to_high meets = meets
  upper_rises Above Left p q v from_low below to_high meets = meets
  upper_rises AtLeast Left p q v from_low below to_high meets = meets
  upper_rises Different Right p q v from_low below to_high meets = meets
  upper_rises Below Right p q v from_low below to_high meets = meets
  upper_rises AtMost Right p q v from_low below to_high meets = meets

  -- a child below one that meets the upper bound meets it too
  pub upper_holds_below : (comparison : Comparison) (side : End) (p v w : ℤ) → low ≤ℤ v → v ≤ℤ w → w ≤ℤ high
      → MeetsUpper comparison side shifted p w → MeetsUpper comparison side shifted p v
  upper_holds_below Equal Left p v w from_low below to_high meets = omega (arith, ints, meets)
  upper_holds_below AtMost Left p v w from_low below to_high meets = omega (arith, ints, meets)
  upper_holds_below Below Left p v w from_low below to_high meets = omega (arith, ints, meets)
  upper_holds_below Equal Right p v w from_low below to_high meets = omega (
    arith,
    ints,
    meets,
    rises v w from_low below
        to_high,
  )
  upper_holds_below AtLeast Right p v w from_low below to_high meets = omega (
    arith,
    ints,
    meets,
    rises v w from_low
        below to_high,
  )
  upper_holds_below Above Right p v w from_low below to_high meets = omega (
    arith,
    ints,
    meets,
    rises v w from_low below
        to_high,
  )
  upper_holds_below Different Left p v w from_low below to_high meets = meets
  upper_holds_below Above Left p v w from_low below to_high meets = meets
  upper_holds_below AtLeast Left p v w from_low below to_high meets = meets
  upper_holds_below Different Right p v w from_low below to_high meets = meets
  upper_holds_below Below Right p v w from_low below to_high meets = meets
  upper_holds_below AtMost Right p v w from_low below to_high meets = meets
