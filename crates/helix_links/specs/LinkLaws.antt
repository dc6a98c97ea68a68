-- The bounds of links rise.
use Rattle.std.proofs.Common.{slice_index_or}
use Rattle.helix_values.specs.declared.cell.Cell.{Cell}
use Rattle.helix_values.specs.Order.{CellLess}
use Rattle.helix_pairs.specs.BoundLaws as bounds
use Rattle.helix_pairs.specs.OffsetShift.{applied_by}
use Rattle.helix_pairs.specs.OffsetShiftLaws.{applied_rises}
use Rattle.helix_search.proofs.Orders.{from_both}
use Rattle.helix_search.specs.Bounds.{IsValue}
use Rattle.helix_links.specs.declared.pair_link.PairLink.{PairLink}
use Rattle.helix_links.specs.declared.pair_link.PairLink.TheVariants.{ByOffset, ByEquality}
use Rattle.helix_links.specs.Quantities.{least_of, greatest_of, whole_of}
use Rattle.helix_links.specs.Links.{class_of_link, MeetsLower, MeetsUpper}
use Rattle.helix_links.specs.WholeLaws.{whole_in_range, wholes_rise}

-- no lower bound falls as the parent grows,
pub lower_rises : (link : PairLink) (p q v : Cell) → IsValue (class_of_link link) p → IsValue (class_of_link link) q
    → IsValue (class_of_link link) v → ¬ CellLess q p → MeetsLower link q v → MeetsLower link p v
lower_rises (ByOffset link) p q v of_p of_q of_v from met = λ k d within.
    let b = slice_index_or link.bounds k d in
    bounds.lower_rises (least_of link.quantity) (greatest_of link.quantity) (applied_by b.shift)
    (λ x y from_low below to_high. applied_rises b.shift x y below) b.comparison b.child
    (whole_of p) (whole_of q) (whole_of v) (whole_in_range link.quantity p of_p).0
    (wholes_rise link.quantity p q of_p of_q from) (whole_in_range link.quantity q of_q).1 (met k d within)
lower_rises (ByEquality link) p q v of_p of_q of_v from met = λ told. from_both p q v from (met told)

-- nor does an upper one,
pub upper_rises : (link : PairLink) (p q v : Cell) → IsValue (class_of_link link) p → IsValue (class_of_link link) q
    → IsValue (class_of_link link) v → ¬ CellLess q p → MeetsUpper link p v → MeetsUpper link q v
upper_rises (ByOffset link) p q v of_p of_q of_v from met = λ k d within.
    let b = slice_index_or link.bounds k d in
    bounds.upper_rises (least_of link.quantity) (greatest_of link.quantity) (applied_by b.shift)
    (λ x y from_low below to_high. applied_rises b.shift x y below) b.comparison b.child
    (whole_of p) (whole_of q) (whole_of v) (whole_in_range link.quantity p of_p).0
    (wholes_rise link.quantity p q of_p of_q from) (whole_in_range link.quantity q of_q).1 (met k d within)
upper_rises (ByEquality link) p q v of_p of_q of_v from met = λ told. from_both v p q (met told) from

-- and what is below a child that meets an upper bound meets it too
pub upper_holds_below : (link : PairLink) (p v w : Cell) → IsValue (class_of_link link) p
    → IsValue (class_of_link link) v → IsValue (class_of_link link) w → ¬ CellLess w v → MeetsUpper link p w
    → MeetsUpper link p v
upper_holds_below (ByOffset link) p v w of_p of_v of_w from met = λ k d within.
    let b = slice_index_or link.bounds k d in
    bounds.upper_holds_below (least_of link.quantity) (greatest_of link.quantity) (applied_by b.shift)
    (λ x y from_low below to_high. applied_rises b.shift x y below) b.comparison b.child
    (whole_of p) (whole_of v) (whole_of w) (whole_in_range link.quantity v of_v).0
    (wholes_rise link.quantity v w of_v of_w from) (whole_in_range link.quantity w of_w).1 (met k d within)
upper_holds_below (ByEquality link) p v w of_p of_v of_w from met = λ told. from_both v w p from (met told)
