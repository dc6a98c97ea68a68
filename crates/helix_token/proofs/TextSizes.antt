-- The token of a row of at most 64 cells has at most 1,048,576 bytes.
use Rattle.std.proofs.Common.{◌≡◌, ℕ, ◌+◌, ◌*◌, ◌/◌, ◌%◌, ◌≤◌, ℤ, Bool, true, false, cond, nat_lt, List, [], ◌∷◌, ◌++◌, length, decimal, inl, inr, refl, ap, arith, length-append}
use Rattle.std.specs.Prelude.{codes, encode_utf8, encode_utf8_all, unsigned_abs}
use Rattle.std.specs.Char.{digit_char}
use Rattle.std.proofs.lemmas.Bool.{cases_lt}
use Rattle.std.proofs.lemmas.Grind.{flat_map-append}
use Rattle.std.proofs.lemmas.Str.{length-encode, len_utf8_bounds}
use Rattle.hex.specs.Hex.{encode_lower, lower_digits}
use Rattle.hex.proofs.HexLemmas.{length-encode_with}
use Rattle.json.specs.Print.{escape, escape_byte, escape_letter, quoted}
use Rattle.json.proofs.Printed.Strings.{escape_byte_plain}
use Rattle.serde_json.specs.Written.{items_text}
use Rattle.helix_json.specs.Numbers.{minus_text, fraction_text}
use Rattle.helix_ladders.specs.Calendar.{day_of, day_of_month, millis_of_day, month_of, year_of}
use Rattle.helix_values.specs.Universe.{InUniverse}
use Rattle.helix_values.specs.declared.kind.Kind.{Kind}
use Rattle.helix_values.specs.declared.kind.Kind.TheVariants as kind
use Rattle.helix_values.specs.declared.cell.Cell.{Cell}
use Rattle.helix_values.specs.declared.cell.Cell.TheVariants as cell
use Rattle.helix_texts.specs.Texts.{cell_text, clock_text, day_text, is_negative, last_digits, moment_text, one, time_text, units_text, without_zeros}
use Rattle.helix_texts.proofs.DecimalTexts.{without_zeros-from}
use Rattle.helix_texts.proofs.EndZeros.{numeral-le}
use Rattle.helix_texts.proofs.FixedDigits.{length-last_digits}
use Rattle.helix_profile.specs.Good.{AreCellsOf, IsCellOf}
use Rattle.helix_profile.specs.declared.field.Field.{Field}
use Rattle.helix_output.proofs.Characters.{plain_character, short_character}
use Rattle.helix_output.proofs.RowCells.{text_fits}
use Rattle.helix_output.proofs.SmallTexts.{decimal_of}
use Rattle.helix_token.specs.Token.{cell_string, cell_strings, string_items, token_of_strings}

either_short : (b : Bool) (xs ys : List ℕ) → length xs ≤ 6 → length ys ≤ 6 → length (cond b xs ys) ≤ 6
either_short true xs ys of_xs of_ys = of_xs
either_short false xs ys of_xs of_ys = of_ys

-- an escape has at most 6 bytes
byte_short : (x : ℕ) → length (escape_byte x) ≤ 6
unfolding escape_byte
byte_short x =
    let plain = either_short (nat_lt x 32) (92 ∷ 117 ∷ 48 ∷ 48 ∷ digit_char (x / 16) ∷ digit_char (x % 16) ∷ [])
    (x ∷ []) (omega arith) (omega arith) in
    either_short (nat_lt 0 (escape_letter x)) (92 ∷ escape_letter x ∷ []) _ (omega arith) plain

bytes_short : (s : List ℕ) → length (escape s) ≤ 6 * length s
bytes_short [] = omega arith
bytes_short (x ∷ s) = omega (arith, length-append (escape_byte x) (escape s), byte_short x, bytes_short s)

high_plain : (b : ℕ) → 128 ≤ b → escape_byte b ≡ b ∷ []
high_plain b high = escape_byte_plain b (λ e. omega arith) (λ e. omega arith) (omega arith)

-- and so has a character
character_short : (c : ℕ) → length (escape (encode_utf8 c)) ≤ 6
character_short c = elim (cases_lt c 128) [
  | inl low ↦ omega (arith, ap length (short_character escape_byte high_plain c (escape_byte c) low refl), byte_short c)
  | inr high ↦ omega (
    arith,
    ap length (plain_character escape_byte high_plain c (high_plain c high)),
    length-encode c,
    (len_utf8_bounds c).1,
  )
]

text_short : (t : List ℕ) → length (escape (encode_utf8_all t)) ≤ 6 * length t
text_short [] = omega arith
text_short (c ∷ t) = omega (
  arith,
  ap length (flat_map-append escape_byte (encode_utf8 c) (encode_utf8_all t)),
  length-append (escape (encode_utf8 c)) (escape (encode_utf8_all t)),
  character_short c,
  text_short t,
)

quoted_size : (s : List ℕ) → length (quoted s) ≡ length (escape s) + 2
quoted_size s = omega (arith, length-append (escape s) (34 ∷ []))

minus_short : (negative : Bool) → length (minus_text negative) ≤ 1
minus_short true = omega arith
minus_short false = omega arith

fraction_short : (ds : List ℕ) → length (fraction_text ds) ≤ length ds + 1
fraction_short [] = omega arith
fraction_short (d ∷ ds) = omega arith

units_short : (u : ℤ) → unsigned_abs u ≤ 100000000000000000000000000000000000 → length (units_text u) ≤ 1000
units_short u size =
    let whole = decimal (unsigned_abs u / one) in
    let digits = last_digits 15 (unsigned_abs u % one) in
    omega (
      arith,
      length-append (minus_text (is_negative u)) (whole ++ fraction_text (without_zeros digits)),
      length-append whole (fraction_text (without_zeros digits)),
      minus_short (is_negative u),
      fraction_short (without_zeros digits),
      (without_zeros-from digits 0).lengths,
      length-last_digits 15 (unsigned_abs u % one),
      numeral-le (unsigned_abs u / one) (omega arith),
    )

threes_size : (width mark a b c : ℕ)
    → length (last_digits width a ++ mark ∷ (last_digits 2 b ++ mark ∷ last_digits 2 c)) ≡ width + 6
threes_size width mark a b c = omega (
  arith,
  length-append (last_digits width a) (mark ∷ (last_digits 2 b ++ mark ∷ last_digits 2 c)),
  length-append (last_digits 2 b) (mark ∷ last_digits 2 c),
  length-last_digits width a,
  length-last_digits 2 b,
  length-last_digits 2 c,
)

day_size : (day : ℕ) → length (day_text day) ≡ 10
day_size day = threes_size 4 45 (year_of day) (month_of day) (day_of_month day)

time_size : (millis : ℕ) → length (time_text millis) ≡ 12
time_size millis =
    let clock = clock_text (millis / 3600000) (millis / 60000 % 60) (millis / 1000 % 60) in
    omega (
      arith,
      length-append clock (46 ∷ last_digits 3 (millis % 1000)),
      threes_size 2 58 (millis / 3600000) (millis / 60000 % 60) (millis / 1000 % 60),
      length-last_digits 3 (millis % 1000),
    )

moment_short : (k : Kind) (at : ℤ) → length (moment_text k at) ≤ 1000
moment_short kind.DateTime at =
    let millis = unsigned_abs at % millis_of_day in
    omega (arith, length-append (day_text (day_of at)) (84 ∷ time_text millis), day_size (day_of at), time_size millis)
moment_short other at = omega (arith, day_size (day_of at))

-- a written form has at most 1,000 characters
value_short : (k : Kind) (v : Cell) → InUniverse k v → length (cell_text k v) ≤ 1000
value_short k cell.Null within = omega arith
value_short k (cell.Bool true) within = omega arith
value_short k (cell.Bool false) within = omega arith
value_short k (cell.Number u) within = units_short u (decimal_of k u within)
value_short k (cell.Moment at) within = moment_short k at
value_short k (cell.Text t) within = (text_fits k t within).0

string_short : (field : Field) (v : Cell) → IsCellOf field v → length (cell_string field v) ≤ 1001
string_short field cell.Null is = omega arith
string_short field v is = omega (arith, value_short field.kind v is)

item_size : (later : Bool) (text rest : List ℕ)
    → length (cond later (44 ∷ []) [] ++ (text ++ rest)) ≤ 1 + length text + length rest
item_size true text rest = omega (arith, length-append text rest)
item_size false text rest = omega (arith, length-append text rest)

-- the strings of a row with the bracket after them
items_short : (later : Bool) (fields : List Field) (row : List Cell) → AreCellsOf fields row
    → length (items_text later (string_items (cell_strings fields row))) ≤ 6009 * length fields + 1
items_short later [] [] cells = omega arith
items_short later (field ∷ fields) (v ∷ row) cells =
    let text = encode_utf8_all (cell_string field v) in
    let rest = items_text true (string_items (cell_strings fields row)) in
    omega (
      arith,
      item_size later (quoted text) rest,
      quoted_size text,
      text_short (cell_string field v),
      string_short field v cells.0,
      items_short true fields row cells.1,
    )
items_short later [] (v ∷ row) cells = absurd cells
items_short later (field ∷ fields) [] cells = absurd cells

-- the whole text
pub token_short : (identity : List ℕ) (fields : List Field) (row : List Cell) → length identity ≡ 32
    → length fields ≤ 64 → AreCellsOf fields row
    → length (token_of_strings identity (cell_strings fields row)) ≤ 500000
unfolding token_of_strings
token_short identity fields row count few cells =
    let items = items_text false (string_items (cell_strings fields row)) in
    let row_part = quoted (codes "row") ++ 58 ∷ 91 ∷ (items ++ 125 ∷ []) in
    let digits_part = quoted (encode_lower identity) ++ 44 ∷ row_part in
    let identity_part = quoted (codes "identity") ++ 58 ∷ digits_part in
    let version_part = quoted (codes "helix-token-1") ++ 44 ∷ identity_part in
    omega (
      arith,
      length-append (quoted (codes "format")) (58 ∷ version_part),
      length-append (quoted (codes "helix-token-1")) (44 ∷ identity_part),
      length-append (quoted (codes "identity")) (58 ∷ digits_part),
      length-append (quoted (encode_lower identity)) (44 ∷ row_part),
      length-append (quoted (codes "row")) (58 ∷ 91 ∷ (items ++ 125 ∷ [])),
      length-append items (125 ∷ []),
      quoted_size (codes "format"),
      quoted_size (codes "helix-token-1"),
      quoted_size (codes "identity"),
      quoted_size (encode_lower identity),
      quoted_size (codes "row"),
      bytes_short (codes "format"),
      bytes_short (codes "helix-token-1"),
      bytes_short (codes "identity"),
      bytes_short (encode_lower identity),
      bytes_short (codes "row"),
      length-encode_with lower_digits identity,
      items_short false fields row cells,
    )
