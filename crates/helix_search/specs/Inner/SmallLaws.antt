-- Laws of the small numbers that tests search.
use Rattle.std.proofs.Common.{◌≡◌, ℕ, ◌≤ℤ◌, ◌<ℤ◌, Option, None, Some, refl, subst, arith, Ordering}
use Rattle.std.specs.declared.cmp.Ordering.TheVariants.{Less, Equal, Greater}
use Rattle.std.specs.Ordering.{MatchOrdering, int_cmp}
use Rattle.std.specs.Cmp.{int_ranks}
use Rattle.std.proofs.lemmas.Int.{ints}
use Rattle.helix_values.specs.declared.cell.Cell.{Cell}
use Rattle.helix_values.specs.declared.cell.Cell.TheVariants as cell
use Rattle.helix_values.specs.Class.{numbers}
use Rattle.helix_values.specs.Order.{CellLess}
use Rattle.helix_search.specs.Bounds.{IsValue}
use Rattle.helix_search.specs.Inner.Small.{HasNumber, MeetsLower, MeetsUpper, units_of}

pub number_is_value : (low high : ℕ) (v : Cell) → HasNumber low high v → IsValue numbers v
number_is_value low high (cell.Number u) has = (omega (arith, ints, has.0), omega (arith, ints, has.1))
number_is_value low high other has = absurd has

-- a number that isn't below another
pub units_rise : (p q : Cell) → IsValue numbers p → IsValue numbers q → ¬ CellLess q p → units_of p ≤ℤ units_of q
units_rise (cell.Number a) (cell.Number b) of_p of_q from = by (int_cmp b a) refl
  where
    by : (o : Ordering) → int_cmp b a ≡ o → a ≤ℤ b
    by Less e = absurd (from e)
    by Equal e = omega (arith, ints, subst (λ o. MatchOrdering o (b <ℤ a) (b ≡ a) (a <ℤ b)) e (int_ranks b a))
    by Greater e = omega (arith, ints, subst (λ o. MatchOrdering o (b <ℤ a) (b ≡ a) (a <ℤ b)) e (int_ranks b a))
units_rise (cell.Number a) other of_p of_q from = absurd of_q
units_rise other q of_p of_q from = absurd of_p

pub lower_rises : (gap : Option ℕ) (p q v : Cell) → IsValue numbers p → IsValue numbers q → IsValue numbers v
    → ¬ CellLess q p → MeetsLower gap q v → MeetsLower gap p v
lower_rises (Some by) p q v of_p of_q of_v from met = omega (arith, ints, met, units_rise p q of_p of_q from)
lower_rises None p q v of_p of_q of_v from met = tt

pub upper_rises : (gap : Option ℕ) (p q v : Cell) → IsValue numbers p → IsValue numbers q → IsValue numbers v
    → ¬ CellLess q p → MeetsUpper gap p v → MeetsUpper gap q v
upper_rises (Some by) p q v of_p of_q of_v from met = omega (arith, ints, met, units_rise p q of_p of_q from)
upper_rises None p q v of_p of_q of_v from met = tt

pub upper_holds_below : (gap : Option ℕ) (p v w : Cell) → IsValue numbers p → IsValue numbers v → IsValue numbers w
    → ¬ CellLess w v → MeetsUpper gap p w → MeetsUpper gap p v
upper_holds_below (Some by) p v w of_p of_v of_w from met = omega (arith, ints, met, units_rise v w of_v of_w from)
upper_holds_below None p v w of_p of_v of_w from met = tt
