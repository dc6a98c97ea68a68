-- Written forms of truth values, numbers and moments have no comma, line feed or brace, and are not empty.
use Rattle.std.proofs.Common.{ℕ, ◌/◌, ◌%◌, ◌^◌, ◌≤◌, ℤ, Bool, true, false, List, [], ◌∷◌, ◌++◌, length, decimal, refl, arith}
use Rattle.std.specs.Prelude.{unsigned_abs, IsTrue}
use Rattle.std.proofs.lemmas.List.{length-append}
use Rattle.helix_base.specs.Digits.{is_digit, AreDigits}
use Rattle.helix_base.specs.Inner.DigitLaws.{digit_bounds}
use Rattle.helix_json.specs.Numbers.{IsWhole, minus_text, fraction_text}
use Rattle.helix_ladders.specs.Calendar.{year_of, month_of, day_of_month, day_of, millis_of_day}
use Rattle.helix_values.specs.declared.kind.Kind.{Kind}
use Rattle.helix_values.specs.declared.kind.Kind.TheVariants as kind
use Rattle.helix_values.specs.declared.cell.Cell.{Cell}
use Rattle.helix_values.specs.declared.cell.Cell.TheVariants as cell
use Rattle.helix_values.specs.Universe.{InUniverse}
use Rattle.helix_texts.specs.Texts.{last_digits, without_zeros, is_negative, one, units_text, clock_text, day_text, time_text, moment_text, cell_text, IsSmall}
use Rattle.helix_texts.proofs.DecimalTexts.{decimal_whole, last_digits_are, without_zeros_are}
use Rattle.helix_texts.proofs.FixedDigits.{length-last_digits}
use Rattle.helix_texts.proofs.TextLaws.{number_size}
use Rattle.helix_output.proofs.Stops.{IsInner, AllInner, inner_from, inner-append}

digit_inner : (d : ℕ) → IsTrue (is_digit d) → IsInner d
digit_inner d is = let bounds = digit_bounds d is in inner_from d (omega (arith, bounds.0)) (omega (arith, bounds.1))

digits_inner : (ds : List ℕ) → AreDigits ds → AllInner ds
digits_inner [] all = tt
digits_inner (d ∷ ds) all = (digit_inner d all.0, digits_inner ds all.1)

whole_digits : (ds : List ℕ) → IsWhole ds → AreDigits ds
whole_digits [] whole = absurd whole
whole_digits (d ∷ ds) whole = (whole.0, whole.1)

pub whole_some : (ds : List ℕ) → IsWhole ds → 1 ≤ length ds
whole_some [] whole = absurd whole
whole_some (d ∷ ds) whole = omega arith

minus_inner : (negative : Bool) → AllInner (minus_text negative)
minus_inner true = (refl, tt)
minus_inner false = tt

fraction_inner : (ds : List ℕ) → AreDigits ds → AllInner (fraction_text ds)
fraction_inner [] all = tt
fraction_inner (d ∷ ds) all = (refl, digits_inner (d ∷ ds) all)

-- a number of a kind
pub decimal_of : (k : Kind) (u : ℤ) → InUniverse k (cell.Number u) → unsigned_abs u ≤ 10 ^ 35
decimal_of kind.Integer u within = number_size u within.0
decimal_of kind.Decimal u within = number_size u within
decimal_of other u within = absurd within

pub whole_of : (u : ℤ) → unsigned_abs u ≤ 10 ^ 35 → IsWhole (decimal (unsigned_abs u / one))
whole_of u size = decimal_whole (unsigned_abs u / one) (omega arith)

pub units_inner : (u : ℤ) → unsigned_abs u ≤ 10 ^ 35 → AllInner (units_text u)
units_inner u size =
    let whole = decimal (unsigned_abs u / one) in
    let places = without_zeros (last_digits 15 (unsigned_abs u % one)) in
    inner-append (minus_text (is_negative u)) (whole ++ fraction_text places) (minus_inner (is_negative u))
    (inner-append whole (fraction_text places) (digits_inner whole (whole_digits whole (whole_of u size)))
    (fraction_inner places
    (without_zeros_are (last_digits 15 (unsigned_abs u % one)) (last_digits_are 15 (unsigned_abs u % one)))))

last_inner : (width n : ℕ) → AllInner (last_digits width n)
last_inner width n = digits_inner (last_digits width n) (last_digits_are width n)

-- three numbers with a mark between two of them
threes_inner : (width mark a b c : ℕ) → IsInner mark
    → AllInner (last_digits width a ++ mark ∷ (last_digits 2 b ++ mark ∷ last_digits 2 c))
threes_inner width mark a b c of_mark =
    inner-append (last_digits width a) (mark ∷ (last_digits 2 b ++ mark ∷ last_digits 2 c)) (last_inner width a) (
      of_mark,
      inner-append (last_digits 2 b) (mark ∷ last_digits 2 c) (last_inner 2 b) (of_mark, last_inner 2 c),
    )

day_inner : (day : ℕ) → AllInner (day_text day)
day_inner day = threes_inner 4 45 (year_of day) (month_of day) (day_of_month day) refl

time_inner : (millis : ℕ) → AllInner (time_text millis)
time_inner millis =
    inner-append (clock_text (millis / 3600000) (millis / 60000 % 60) (millis / 1000 % 60))
    (46 ∷ last_digits 3 (millis % 1000))
    (threes_inner 2 58 (millis / 3600000) (millis / 60000 % 60) (millis / 1000 % 60) refl)
    (refl, last_inner 3 (millis % 1000))

pub moment_inner : (k : Kind) (at : ℤ) → AllInner (moment_text k at)
moment_inner kind.DateTime at =
    inner-append (day_text (day_of at)) (84 ∷ time_text (unsigned_abs at % millis_of_day)) (day_inner (day_of at))
    (refl, time_inner (unsigned_abs at % millis_of_day))
moment_inner other at = day_inner (day_of at)

day_some : (day : ℕ) (rest : List ℕ) → 1 ≤ length (day_text day ++ rest)
day_some day rest =
    let tail = 45 ∷ (last_digits 2 (month_of day) ++ 45 ∷ last_digits 2 (day_of_month day)) in
    omega (
      arith,
      length-append (day_text day) rest,
      length-append (last_digits 4 (year_of day)) tail,
      length-last_digits 4 (year_of day),
    )

-- a value that is no text has some text
pub value_some : (k : Kind) (v : Cell) → IsSmall v → InUniverse k v → 1 ≤ length (cell_text k v)
value_some k (cell.Bool true) small within = omega arith
value_some k (cell.Bool false) small within = omega arith
value_some k (cell.Number u) small within =
    let whole = decimal (unsigned_abs u / one) in
    let places = fraction_text (without_zeros (last_digits 15 (unsigned_abs u % one))) in
    omega (
      arith,
      length-append (minus_text (is_negative u)) (whole ++ places),
      length-append whole places,
      whole_some whole (whole_of u (decimal_of k u within)),
    )
value_some kind.DateTime (cell.Moment at) small within =
    day_some (day_of at) (84 ∷ time_text (unsigned_abs at % millis_of_day))
value_some kind.Date (cell.Moment at) small within =
    let day = day_of at in
    let tail = 45 ∷ (last_digits 2 (month_of day) ++ 45 ∷ last_digits 2 (day_of_month day)) in
    omega (arith, length-append (last_digits 4 (year_of day)) tail, length-last_digits 4 (year_of day))
value_some k cell.Null small within = absurd small
value_some k (cell.Text t) small within = absurd small
value_some other (cell.Moment at) small within = absurd within
