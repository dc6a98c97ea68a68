-- Cells of a field are told by their text, and by where it ends.
use Rattle.std.proofs.Common.{◌≡◌, ℕ, ◌/◌, ◌%◌, ◌≤◌, Bool, true, false, List, [], ◌∷◌, ◌++◌, length, decimal, Option, Some, refl, sym, ◌∙◌, ap, subst, arith, append_assoc}
use Rattle.std.specs.Prelude.{unsigned_abs, codes, flat_map, encode_utf8_all}
use Rattle.std.proofs.lemmas.List.{append_cancel_left, append_cancel_right}
use Rattle.helix_base.specs.Inner.DigitLaws.{digit_bounds}
use Rattle.helix_json.specs.Numbers.{IsWhole, minus_text, fraction_text}
use Rattle.helix_values.specs.Class.{Class, strings, class_of}
use Rattle.helix_values.proofs.ClassLaws.{class_of_value}
use Rattle.helix_values.specs.declared.kind.Kind.{Kind}
use Rattle.helix_values.specs.declared.cell.Cell.{Cell}
use Rattle.helix_values.specs.declared.cell.Cell.TheVariants as cell
use Rattle.helix_values.specs.Universe.{InUniverse}
use Rattle.helix_texts.specs.Texts.{last_digits, without_zeros, is_negative, one, moment_text, cell_text, IsSmall}
use Rattle.helix_texts.proofs.TextLaws.{different}
use Rattle.helix_profile.specs.declared.field.Field.{Field}
use Rattle.json.specs.Print.{escape}
use Rattle.helix_output.specs.Csv.{csv_cell, doubled}
use Rattle.helix_output.specs.Fitting.{FitsKind}
use Rattle.helix_output.specs.JsonLines.{json_cell, json_member, json_name}
use Rattle.helix_output.proofs.Stops.{AllInner, IsStop, inner-append, no_stop, same_first, same_rest, split}
use Rattle.helix_output.proofs.SmallTexts.{units_inner, moment_inner, decimal_of, whole_of, value_some}
use Rattle.helix_output.proofs.ToldStrings.{csv_string_told, json_string_told}

-- null, or a value that is no text
abbrev IsNoText : Cell → Type 0
IsNoText (cell.Text t) = ⊥
IsNoText other = Unit {0}

abbrev OfStrings : Option Class → Type 0
OfStrings (Some strings) = Unit {0}
OfStrings other = ⊥

-- a text and a value that is none are not of one kind
no_mix : (k : Kind) (t : List ℕ) (v : Cell) → IsSmall v → InUniverse k (cell.Text t) → InUniverse k v → ⊥
no_mix k t v small of_text of_value = not_both v small (class_of_value k (cell.Text t) of_text
    ∙ sym (class_of_value k v of_value))
  where
    not_both : (v : Cell) → IsSmall v → Some strings ≡ class_of v → ⊥
    not_both (cell.Bool b) small same = subst OfStrings same tt
    not_both (cell.Number u) small same = subst OfStrings same tt
    not_both (cell.Moment at) small same = subst OfStrings same tt
    not_both other small same = absurd small

-- What tells cells: texts are told by themselves, and any other cell has no stop in its text.
module _ (text : Field → Cell → List ℕ)
    (inner : (field : Field) (v : Cell) → FitsKind field.kind v → IsNoText v → AllInner (text field v))
    (small_told : (field : Field) (v w : Cell) → FitsKind field.kind v → FitsKind field.kind w → IsNoText v → IsNoText w
    → text field v ≡ text field w → v ≡ w)
    (strings_told : (field : Field) (t u : List ℕ) (p q : ℕ) (x y : List ℕ) → IsStop p → IsStop q
    → text field (cell.Text t) ++ p ∷ x ≡ text field (cell.Text u) ++ q ∷ y → (t ≡ u) × (p ∷ x ≡ q ∷ y))
    (null_told : (field : Field) (t : List ℕ) (p q : ℕ) (x y : List ℕ) → IsStop q
    → text field (cell.Text t) ++ p ∷ x ≡ text field cell.Null ++ q ∷ y → ⊥) where
  others_told : (field : Field) (v w : Cell) (p q : ℕ) (x y : List ℕ) → FitsKind field.kind v → FitsKind field.kind w
      → IsNoText v → IsNoText w → IsStop p → IsStop q → text field v ++ p ∷ x ≡ text field w ++ q ∷ y
      → (v ≡ w) × (p ∷ x ≡ q ∷ y)
  others_told field v w p q x y of_v of_w no_v no_w stop_p stop_q same =
      let apart : (text field v ≡ text field w) × (p ∷ x ≡ q ∷ y) =
      split (text field v) (text field w) p q x y (inner field v of_v no_v) (inner field w of_w no_w) stop_p stop_q
      same in
      (small_told field v w of_v of_w no_v no_w apart.0, apart.1)

  cell_told : (field : Field) (v w : Cell) (p q : ℕ) (x y : List ℕ) → FitsKind field.kind v → FitsKind field.kind w
      → IsStop p → IsStop q → text field v ++ p ∷ x ≡ text field w ++ q ∷ y → (v ≡ w) × (p ∷ x ≡ q ∷ y)
  cell_told field (cell.Text t) (cell.Text u) p q x y of_v of_w stop_p stop_q same =
      let told : (t ≡ u) × (p ∷ x ≡ q ∷ y) = strings_told field t u p q x y stop_p stop_q same in
      (ap cell.Text told.0, told.1)
  cell_told field (cell.Text t) cell.Null p q x y of_v of_w stop_p stop_q same =
      absurd (null_told field t p q x y stop_q same)
  cell_told field cell.Null (cell.Text u) p q x y of_v of_w stop_p stop_q same =
      absurd (null_told field u q p y x stop_p (sym same))
  cell_told field (cell.Text t) (cell.Bool b) p q x y of_v of_w stop_p stop_q same =
      absurd (no_mix field.kind t (cell.Bool b) tt of_v of_w)
  cell_told field (cell.Text t) (cell.Number u) p q x y of_v of_w stop_p stop_q same =
      absurd (no_mix field.kind t (cell.Number u) tt of_v of_w)
  cell_told field (cell.Text t) (cell.Moment at) p q x y of_v of_w stop_p stop_q same =
      absurd (no_mix field.kind t (cell.Moment at) tt of_v of_w)
  cell_told field (cell.Bool b) (cell.Text t) p q x y of_v of_w stop_p stop_q same =
      absurd (no_mix field.kind t (cell.Bool b) tt of_w of_v)
  cell_told field (cell.Number u) (cell.Text t) p q x y of_v of_w stop_p stop_q same =
      absurd (no_mix field.kind t (cell.Number u) tt of_w of_v)
  cell_told field (cell.Moment at) (cell.Text t) p q x y of_v of_w stop_p stop_q same =
      absurd (no_mix field.kind t (cell.Moment at) tt of_w of_v)
  cell_told field v w p q x y of_v of_w stop_p stop_q same =
      others_told field v w p q x y of_v of_w tt tt stop_p stop_q same

stop_no_quote : (p : ℕ) → IsStop p → p ≡ 34 → ⊥
stop_no_quote p stop is = no_stop p 34 is stop refl

-- CSV

csv_inner : (field : Field) (v : Cell) → FitsKind field.kind v → IsNoText v → AllInner (csv_cell field v)
csv_inner field cell.Null fits other = tt
csv_inner field (cell.Bool true) fits other = (refl, (refl, (refl, (refl, tt))))
csv_inner field (cell.Bool false) fits other = (refl, (refl, (refl, (refl, (refl, tt)))))
csv_inner field (cell.Number u) fits other = units_inner u (decimal_of field.kind u fits)
csv_inner field (cell.Moment at) fits other = moment_inner field.kind at
csv_inner field (cell.Text t) fits other = absurd other

-- a value's text isn't empty
not_empty : (k : Kind) (v : Cell) → IsSmall v → InUniverse k v → [] ≡ cell_text k v → ⊥
not_empty k v small within same = omega (arith, value_some k v small within, ap length same)

csv_small : (field : Field) (v w : Cell) → FitsKind field.kind v → FitsKind field.kind w → IsNoText v → IsNoText w
    → csv_cell field v ≡ csv_cell field w → v ≡ w
csv_small field cell.Null cell.Null of_v of_w no_v no_w same = refl
csv_small field cell.Null (cell.Bool b) of_v of_w no_v no_w same =
    absurd (not_empty field.kind (cell.Bool b) tt of_w same)
csv_small field cell.Null (cell.Number u) of_v of_w no_v no_w same =
    absurd (not_empty field.kind (cell.Number u) tt of_w same)
csv_small field cell.Null (cell.Moment at) of_v of_w no_v no_w same =
    absurd (not_empty field.kind (cell.Moment at) tt of_w same)
csv_small field (cell.Bool b) cell.Null of_v of_w no_v no_w same =
    absurd (not_empty field.kind (cell.Bool b) tt of_v (sym same))
csv_small field (cell.Number u) cell.Null of_v of_w no_v no_w same =
    absurd (not_empty field.kind (cell.Number u) tt of_v (sym same))
csv_small field (cell.Moment at) cell.Null of_v of_w no_v no_w same =
    absurd (not_empty field.kind (cell.Moment at) tt of_v (sym same))
csv_small field (cell.Text t) w of_v of_w no_v no_w same = absurd no_v
csv_small field v (cell.Text u) of_v of_w no_v no_w same = absurd no_w
csv_small field v w of_v of_w no_v no_w same = different field.kind v w of_v of_w same

csv_strings : (field : Field) (t u : List ℕ) (p q : ℕ) (x y : List ℕ) → IsStop p → IsStop q
    → csv_cell field (cell.Text t) ++ p ∷ x ≡ csv_cell field (cell.Text u) ++ q ∷ y → (t ≡ u) × (p ∷ x ≡ q ∷ y)
csv_strings field t u p q x y stop_p stop_q same =
    csv_string_told t u p q x y (stop_no_quote p stop_p) (stop_no_quote q stop_q) same

csv_null : (field : Field) (t : List ℕ) (p q : ℕ) (x y : List ℕ) → IsStop q
    → csv_cell field (cell.Text t) ++ p ∷ x ≡ csv_cell field cell.Null ++ q ∷ y → ⊥
csv_null field t p q x y stop_q same =
    stop_no_quote q stop_q
    (sym (same_first 34 q ((flat_map doubled (encode_utf8_all t) ++ 34 ∷ []) ++ p ∷ x) y same))

pub csv_told : (field : Field) (v w : Cell) (p q : ℕ) (x y : List ℕ) → FitsKind field.kind v → FitsKind field.kind w
    → IsStop p → IsStop q → csv_cell field v ++ p ∷ x ≡ csv_cell field w ++ q ∷ y → (v ≡ w) × (p ∷ x ≡ q ∷ y)
csv_told = cell_told csv_cell csv_inner csv_small csv_strings csv_null

-- JSON

json_inner : (field : Field) (v : Cell) → FitsKind field.kind v → IsNoText v → AllInner (json_cell field v)
json_inner field cell.Null fits other = (refl, (refl, (refl, (refl, tt))))
json_inner field (cell.Bool true) fits other = (refl, (refl, (refl, (refl, tt))))
json_inner field (cell.Bool false) fits other = (refl, (refl, (refl, (refl, (refl, tt)))))
json_inner field (cell.Number u) fits other = units_inner u (decimal_of field.kind u fits)
json_inner field (cell.Moment at) fits other =
    (refl, inner-append (moment_text field.kind at) (34 ∷ []) (moment_inner field.kind at) (refl, tt))
json_inner field (cell.Text t) fits other = absurd other

-- a number doesn't begin with a letter
whole_first : (ds rest : List ℕ) (c : ℕ) (other : List ℕ) → IsWhole ds → c ∷ other ≡ ds ++ rest → c ≤ 57
whole_first [] rest c other whole same = absurd whole
whole_first (d ∷ ds) rest c other whole same =
    omega (arith, (digit_bounds d whole.0).1, same_first c d other (ds ++ rest) same)

number_first : (negative : Bool) (ds rest : List ℕ) (c : ℕ) (other : List ℕ) → IsWhole ds
    → c ∷ other ≡ minus_text negative ++ (ds ++ rest) → c ≤ 57
number_first true ds rest c other whole same = omega (arith, same_first c 45 other (ds ++ rest) same)
number_first false ds rest c other whole same = whole_first ds rest c other whole same

-- no value is written as null is
no_null : (field : Field) (v : Cell) → IsSmall v → InUniverse field.kind v → codes "null" ≡ json_cell field v → ⊥
no_null field (cell.Bool true) small within same = omega (
  arith,
  same_first 110 116 (117 ∷ 108 ∷ 108 ∷ [])
      (114 ∷ 117 ∷ 101 ∷ []) same,
)
no_null field (cell.Bool false) small within same = omega (
  arith,
  same_first 110 102 (117 ∷ 108 ∷ 108 ∷ [])
      (97 ∷ 108 ∷ 115 ∷ 101 ∷ []) same,
)
no_null field (cell.Number u) small within same =
    omega (
      arith,
      number_first (is_negative u) (decimal (unsigned_abs u / one))
          (fraction_text (without_zeros (last_digits 15 (unsigned_abs u % one)))) 110 (117 ∷ 108 ∷ 108 ∷ [])
          (whole_of u (decimal_of field.kind u within)) same,
    )
no_null field (cell.Moment at) small within same =
    omega (arith, same_first 110 34 (117 ∷ 108 ∷ 108 ∷ []) (moment_text field.kind at ++ 34 ∷ []) same)
no_null field other small within same = absurd small

json_values : (field : Field) (v w : Cell) → IsSmall v → IsSmall w → InUniverse field.kind v → InUniverse field.kind w
    → class_of v ≡ class_of w → json_cell field v ≡ json_cell field w → v ≡ w
json_values field cell.Null w small_v small_w of_v of_w class same = absurd small_v
json_values field (cell.Text t) w small_v small_w of_v of_w class same = absurd small_v
json_values field v cell.Null small_v small_w of_v of_w class same = absurd small_w
json_values field v (cell.Text u) small_v small_w of_v of_w class same = absurd small_w
json_values field (cell.Bool a) (cell.Bool b) small_v small_w of_v of_w class same =
    different field.kind (cell.Bool a) (cell.Bool b) of_v of_w same
json_values field (cell.Number a) (cell.Number b) small_v small_w of_v of_w class same =
    different field.kind (cell.Number a) (cell.Number b) of_v of_w same
json_values field (cell.Moment a) (cell.Moment b) small_v small_w of_v of_w class same =
    different field.kind (cell.Moment a) (cell.Moment b) of_v of_w
    (append_cancel_right (moment_text field.kind a) (moment_text field.kind b) (34 ∷ [])
    (same_rest 34 34 (moment_text field.kind a ++ 34 ∷ []) (moment_text field.kind b ++ 34 ∷ []) same))
json_values field v w small_v small_w of_v of_w class same = cc

json_value : (field : Field) (v w : Cell) → IsSmall v → IsSmall w → InUniverse field.kind v → InUniverse field.kind w
    → json_cell field v ≡ json_cell field w → v ≡ w
json_value field v w small_v small_w of_v of_w same =
    json_values field v w small_v small_w of_v of_w
    (class_of_value field.kind v of_v ∙ sym (class_of_value field.kind w of_w)) same

json_small : (field : Field) (v w : Cell) → FitsKind field.kind v → FitsKind field.kind w → IsNoText v → IsNoText w
    → json_cell field v ≡ json_cell field w → v ≡ w
json_small field cell.Null cell.Null of_v of_w no_v no_w same = refl
json_small field cell.Null (cell.Bool b) of_v of_w no_v no_w same =
    absurd (no_null field (cell.Bool b) tt of_w same)
json_small field cell.Null (cell.Number u) of_v of_w no_v no_w same =
    absurd (no_null field (cell.Number u) tt of_w same)
json_small field cell.Null (cell.Moment at) of_v of_w no_v no_w same =
    absurd (no_null field (cell.Moment at) tt of_w same)
json_small field (cell.Bool b) cell.Null of_v of_w no_v no_w same =
    absurd (no_null field (cell.Bool b) tt of_v (sym same))
json_small field (cell.Number u) cell.Null of_v of_w no_v no_w same =
    absurd (no_null field (cell.Number u) tt of_v (sym same))
json_small field (cell.Moment at) cell.Null of_v of_w no_v no_w same =
    absurd (no_null field (cell.Moment at) tt of_v (sym same))
json_small field (cell.Text t) w of_v of_w no_v no_w same = absurd no_v
json_small field v (cell.Text u) of_v of_w no_v no_w same = absurd no_w
json_small field v w of_v of_w no_v no_w same = json_value field v w tt tt of_v of_w same

json_strings : (field : Field) (t u : List ℕ) (p q : ℕ) (x y : List ℕ) → IsStop p → IsStop q
    → json_cell field (cell.Text t) ++ p ∷ x ≡ json_cell field (cell.Text u) ++ q ∷ y → (t ≡ u) × (p ∷ x ≡ q ∷ y)
json_strings field t u p q x y stop_p stop_q same = json_string_told t u p q x y same

json_null : (field : Field) (t : List ℕ) (p q : ℕ) (x y : List ℕ) → IsStop q
    → json_cell field (cell.Text t) ++ p ∷ x ≡ json_cell field cell.Null ++ q ∷ y → ⊥
json_null field t p q x y stop_q same =
    omega (
      arith,
      same_first 34 110 ((escape (encode_utf8_all t) ++ 34 ∷ []) ++ p ∷ x) (117 ∷ 108 ∷ 108 ∷ q ∷ y) same,
    )

-- a member has the name before the cell
pub json_told : (field : Field) (v w : Cell) (p q : ℕ) (x y : List ℕ) → FitsKind field.kind v → FitsKind field.kind w
    → IsStop p → IsStop q → json_member field v ++ p ∷ x ≡ json_member field w ++ q ∷ y → (v ≡ w) × (p ∷ x ≡ q ∷ y)
json_told field v w p q x y of_v of_w stop_p stop_q same =
    let name = json_name field in
    cell_told json_cell json_inner json_small json_strings json_null field v w p q x y of_v of_w stop_p stop_q
    (append_cancel_left name (json_cell field v ++ p ∷ x) (json_cell field w ++ q ∷ y)
    (sym (append_assoc name (json_cell field v) (p ∷ x))
    ∙ same
    ∙ append_assoc name (json_cell field w) (q ∷ y)))
