-- A test holds of a value or doesn't, and so with a relation of two values: lemmas for this crate and those above.
use Rattle.std.proofs.Common.{◌≡◌, ℕ, ◌%◌, ◌^◌, ℤ, ◌<ℤ◌, ◌≤ℤ◌, ◌==◌, List, length, get_or, refl, subst, arith, Ordering}
use Rattle.std.specs.Prelude.{unsigned_abs, nat_lt, Contains, slice_index}
use Rattle.std.specs.declared.cmp.Ordering.TheVariants.{Less, Equal, Greater}
use Rattle.std.proofs.Math.Decide.{dec_le, dec_lt, ℕ_discrete}
use Rattle.std.proofs.Math.IntN.{ℤ_discrete}
use Rattle.std.proofs.lemmas.Cmp.{tied_itself}
use Rattle.std.proofs.lemmas.Int.{by_lt_z, ints}
use Rattle.helix_ladders.specs.Calendar.{IsDate, day_number, midnight}
use Rattle.helix_ladders.specs.Grids.{IsMultipleOf, IsMonthStart, IsYearStart, units_of_time}
use Rattle.helix_ladders.specs.Shift.{shifted}
use Rattle.helix_ladders.specs.declared.offset.Offset.{Offset}
use Rattle.helix_ladders.specs.declared.offset.Offset.TheVariants as offset
use Rattle.helix_ladders.proofs.MonthStarts.{first_of_month}
use Rattle.helix_values.proofs.TotalOrder.{cell_cmp_total, cell_cmp-IsAntisymmetric}
use Rattle.helix_values.specs.OnGrid.{IsOnGrid}
use Rattle.helix_values.specs.Order.{cell_cmp}
use Rattle.helix_values.specs.declared.cell.Cell.{Cell}
use Rattle.helix_values.specs.declared.cell.Cell.TheVariants as cell
use Rattle.helix_profile.specs.Holds.{Compares, CellsCompare, IsTextWith, Holds, NumbersRelated, Related}
use Rattle.helix_profile.specs.declared.relation.Compare.{Compare}
use Rattle.helix_profile.specs.declared.relation.Compare.TheVariants as compare
use Rattle.helix_profile.specs.declared.relation.Relation.{Relation}
use Rattle.helix_profile.specs.declared.test.Test.{Test}
use Rattle.helix_profile.specs.declared.test.Test.TheVariants as test
use Rattle.helix_tree.specs.DecisionLaws.{dec_like, dec_false, dec_both, dec_match, Below, dec_below}
use Rattle.helix_tree.specs.MatchingDecisionLaws.{dec_matches, dec_contains}

is_tied : (o : Ordering) → Dec (o ≡ Equal)
is_tied Less = no (λ e. cc e)
is_tied Equal = yes refl
is_tied Greater = no (λ e. cc e)

-- two cells are the same or not
pub dec_same : (a b : Cell) → Dec (a ≡ b)
dec_same a b = dec_like (cell_cmp-IsAntisymmetric a b)
    (λ same. subst (λ c. cell_cmp a c ≡ Equal) same (tied_itself cell_cmp_total a)) (is_tied (cell_cmp a b))

dec_less : (x y : ℤ) → Dec (x <ℤ y)
dec_less x y = by_lt_z x y (λ less. yes less) (λ reached. no (λ less. omega (arith, ints)))

dec_at_most : (x y : ℤ) → Dec (x ≤ℤ y)
dec_at_most x y = by_lt_z y x (λ less. no (λ reached. omega (arith, ints))) (λ reached. yes reached)

dec_compares : (how : Compare) (x y : ℤ) → Dec (Compares how x y)
dec_compares compare.Equal x y = ℤ_discrete x y
dec_compares compare.Above x y = dec_less y x
dec_compares compare.AtLeast x y = dec_at_most y x
dec_compares compare.Below x y = dec_less x y
dec_compares compare.AtMost x y = dec_at_most x y

dec_cells_compare : (how : Compare) (a b : Cell) → Dec (CellsCompare how a b)
dec_cells_compare how (cell.Number x) (cell.Number y) = dec_compares how x y
dec_cells_compare how (cell.Moment x) (cell.Moment y) = dec_compares how x y
dec_cells_compare how a b = no (λ none. none)

dec_text_with : (Fact : List ℕ → Type 0) → ((codes : List ℕ) → Dec (Fact codes)) → (c : Cell)
    → Dec (IsTextWith Fact c)
dec_text_with Fact each (cell.Text codes) = each codes
dec_text_with Fact each other = no (λ none. none)

dec_member : (members : List Cell) (value : Cell) → Dec (Contains members value)
dec_member members value =
    dec_below (λ k. get_or members k value ≡ value) (λ k. dec_same (get_or members k value) value) (length members)

dec_date : (year month : ℕ) → Dec (IsDate year month 1)
dec_date year month = dec_like (λ h. first_of_month year month h.0.0 h.0.1 h.1.0 h.1.1)
    (λ (date : IsDate year month 1). ((date.year_from_1, date.year_to_9999), (date.month_from_1, date.month_to_12)))
    (dec_both (dec_both (dec_le 1 year) (dec_le year 9999)) (dec_both (dec_le 1 month) (dec_le month 12)))

dec_year_start : (at : ℤ) → Dec (IsYearStart at)
dec_year_start at = dec_like (λ found. (found.0, found.2.0, found.2.1))
    (λ (year, date, start). (year, omega (arith, date.year_to_9999), (date, start)))
    (dec_below (λ year. IsDate year 1 1 × (at ≡ midnight (day_number year 1 1)))
    (λ year. dec_both (dec_date year 1) (ℤ_discrete at (midnight (day_number year 1 1)))) 10000)

dec_month_start : (at : ℤ) → Dec (IsMonthStart at)
dec_month_start at = dec_like (λ found. (found.0, found.2.0, found.2.2.0, found.2.2.1))
    (λ (year, month, date, start).
    (year, omega (arith, date.year_to_9999), (month, omega (arith, date.month_to_12), (date, start))))
    (dec_below (λ year. Below (λ month. IsDate year month 1 × (at ≡ midnight (day_number year month 1))) 13)
    (λ year. dec_below (λ month. IsDate year month 1 × (at ≡ midnight (day_number year month 1)))
    (λ month. dec_both (dec_date year month) (ℤ_discrete at (midnight (day_number year month 1)))) 13) 10000)

dec_multiple : (step : ℕ) (z : ℤ) → Dec (IsMultipleOf step z)
dec_multiple step z = ℕ_discrete (unsigned_abs z % step) 0

dec_on_grid : (level : ℕ) (c : Cell) → Dec (IsOnGrid level c)
dec_on_grid level (cell.Number units) = dec_multiple (10 ^ level) units
dec_on_grid level (cell.Moment at) = dec_match (nat_lt level 5) _ _ (dec_multiple (slice_index units_of_time level) at)
    (dec_match (level == 5) _ _ (dec_month_start at) (dec_year_start at))
dec_on_grid level other = no (λ none. none)

pub dec_holds : (t : Test) (value : Cell) → Dec (Holds t value)
dec_holds (test.IsNull wanted) value = dec_false wanted
dec_holds (test.EqualTo operand) value = dec_same value operand
dec_holds (test.InSet members) value = dec_member members value
dec_holds (test.Matching regex) value = dec_text_with _ (λ codes. dec_matches regex.expr codes) value
dec_holds (test.Containing regex) value = dec_text_with _ (λ codes. dec_contains regex codes) value
dec_holds (test.OfLength count) value = dec_text_with _ (λ codes. ℕ_discrete (length codes) count) value
dec_holds (test.LongerThan count) value = dec_text_with _ (λ codes. dec_lt count (length codes)) value
dec_holds (test.ShorterThan count) value = dec_text_with _ (λ codes. dec_lt (length codes) count) value
dec_holds (test.Above bound) value = dec_cells_compare compare.Above value bound
dec_holds (test.AtLeast bound) value = dec_cells_compare compare.AtLeast value bound
dec_holds (test.Below bound) value = dec_cells_compare compare.Below value bound
dec_holds (test.AtMost bound) value = dec_cells_compare compare.AtMost value bound
dec_holds (test.OnGrid level) value = dec_on_grid level value

dec_numbers_related : (how : Compare) (by : Offset) (x y : ℤ) → Dec (NumbersRelated how by x y)
dec_numbers_related how (offset.Plain units) x y = dec_compares how x (shifted (offset.Plain units) y)
dec_numbers_related how other x y = no (λ none. none)

pub dec_related : (relation : Relation) (x y : Cell) → Dec (Related relation x y)
dec_related relation (cell.Number x) (cell.Number y) = dec_numbers_related relation.compare relation.offset x y
dec_related relation (cell.Moment x) (cell.Moment y) = dec_compares relation.compare x (shifted relation.offset y)
dec_related relation x y = dec_same x y
