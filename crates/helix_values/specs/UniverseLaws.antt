-- Lemmas that upper crates rest on: the universe of each kind lies in the widest one of its class, and the characters
-- of an alphabet in the larger ones.
use Rattle.std.proofs.Common.{◌≡◌, ℕ, ◌≤◌, Bool, true, List, length, take, drop, ◌==◌, ⊎_elim, subst, arith}
use Rattle.std.specs.List.{All, list_all}
use Rattle.std.proofs.lemmas.Bool.{and_parts, or_cases, leb-true, eqb-true}
use Rattle.std.proofs.lemmas.Bool.Decides.{nat_tests}
use Rattle.std.proofs.lemmas.List.{take-append-drop}
use Rattle.std.proofs.lemmas.List.Elements.{All-append, All-weaker}
use Rattle.std.proofs.lemmas.List.Sums.{AllPass-from_list_all}
use Rattle.helix_base.specs.declared.alphabet.Alphabet.{Alphabet}
use Rattle.helix_base.specs.declared.alphabet.Alphabet.TheVariants.{Basic, Latin, Unicode}
use Rattle.helix_base.specs.Alphabet.{IsCharacterOf}
use Rattle.helix_values.specs.declared.kind.Kind.{Kind}
use Rattle.helix_values.specs.declared.kind.Kind.TheVariants as kind
use Rattle.helix_values.specs.declared.kind.Code.{Code}
use Rattle.helix_values.specs.declared.kind.Code.TheVariants.{Isin, Sedol, Cusip}
use Rattle.helix_values.specs.declared.cell.Cell.{Cell}
use Rattle.helix_values.specs.declared.cell.Cell.TheVariants as cell
use Rattle.helix_values.specs.Class.{class_of_kind}
use Rattle.helix_base.specs.Digits.{is_digit}
use Rattle.helix_values.specs.Codes.{IsValidCode, is_capital, is_capital_or_digit, is_sedol_character, is_cusip_character}
use Rattle.helix_values.specs.Codes.{is_isin_shape}
use Rattle.helix_values.specs.Counts.{widest_kind}
use Rattle.helix_values.specs.Universe.{InUniverse}

pub basic_in_latin : (code : ℕ) → IsCharacterOf Basic code → IsCharacterOf Latin code
basic_in_latin code character = grind (arith, nat_tests)

pub latin_in_unicode : (code : ℕ) → IsCharacterOf Latin code → IsCharacterOf Unicode code
latin_in_unicode code character = grind (arith, nat_tests)

pub in_unicode : (alphabet : Alphabet) (code : ℕ) → IsCharacterOf alphabet code → IsCharacterOf Unicode code
in_unicode Basic code character = latin_in_unicode code (basic_in_latin code character)
in_unicode Latin code character = latin_in_unicode code character
in_unicode Unicode code character = character

-- printable characters of ASCII
printable : (code : ℕ) → 32 ≤ code → code ≤ 126 → IsCharacterOf Unicode code
printable code from to = grind (arith, nat_tests)

digit : (code : ℕ) → is_digit code ≡ true → IsCharacterOf Unicode code
digit code is =
    let parts = and_parts _ _ is in
    printable code (omega (arith, leb-true 48 code parts.0)) (omega (arith, leb-true code 57 parts.1))

capital : (code : ℕ) → is_capital code ≡ true → IsCharacterOf Unicode code
capital code is =
    let parts = and_parts _ _ is in
    printable code (omega (arith, leb-true 65 code parts.0)) (omega (arith, leb-true code 90 parts.1))

letter_or_digit : (code : ℕ) → is_capital_or_digit code ≡ true → IsCharacterOf Unicode code
letter_or_digit code is = ⊎_elim (capital code) (digit code) (or_cases _ _ is)

sedol_character : (code : ℕ) → is_sedol_character code ≡ true → IsCharacterOf Unicode code
sedol_character code is = letter_or_digit code (and_parts _ _ is).0

one_of : (code other : ℕ) → 32 ≤ other → other ≤ 126 → (code == other) ≡ true → IsCharacterOf Unicode code
one_of code other from to is =
    let same : code ≡ other = eqb-true code other is in
    printable code (omega arith) (omega arith)

cusip_character : (code : ℕ) → is_cusip_character code ≡ true → IsCharacterOf Unicode code
cusip_character code is =
    ⊎_elim
    (λ others. ⊎_elim
    (λ letters. ⊎_elim (letter_or_digit code) (one_of code 42 (omega arith) (omega arith)) (or_cases _ _ letters))
    (one_of code 64 (omega arith) (omega arith)) (or_cases _ _ others))
    (one_of code 35 (omega arith) (omega arith)) (or_cases _ _ is)

-- the characters of a word that all pass a test
module _ (test : ℕ → Bool) (in_test : (code : ℕ) → test code ≡ true → IsCharacterOf Unicode code) (word : List ℕ) where
  each : list_all test word ≡ true → All (IsCharacterOf Unicode) word
  each all = All-weaker (λ code. test code ≡ true) (IsCharacterOf Unicode) in_test word
      (AllPass-from_list_all test word all)

word_of_isin : (word : List ℕ) → is_isin_shape word ≡ true → All (IsCharacterOf Unicode) word
word_of_isin word shape =
    let letters = and_parts _ _ (and_parts _ _ shape).0 in
    subst (All (IsCharacterOf Unicode)) (take-append-drop 2 word)
    (All-append (IsCharacterOf Unicode) (take 2 word) (drop 2 word) (each is_capital capital (take 2 word) letters.0)
    (each is_capital_or_digit letter_or_digit (drop 2 word) letters.1))

code_in_unicode : (code : Code) (word : List ℕ) → IsValidCode code word
    → (length word ≤ 1000) × All (IsCharacterOf Unicode) word
code_in_unicode Isin word valid =
    let parts = and_parts _ _ (and_parts _ _ valid).0 in
    (omega (arith, eqb-true (length word) 12 parts.0), word_of_isin word parts.1)
code_in_unicode Sedol word valid =
    let parts = and_parts _ _ (and_parts _ _ valid).0 in (
      omega (arith, eqb-true (length word) 7 parts.0),
      each is_sedol_character sedol_character word (and_parts _ _ parts.1).0,
    )
code_in_unicode Cusip word valid =
    let parts = and_parts _ _ (and_parts _ _ valid).0 in (
      omega (arith, eqb-true (length word) 9 parts.0),
      each is_cusip_character cusip_character word (and_parts _ _ parts.1).0,
    )

pub in_widest : (k : Kind) (value : Cell) → InUniverse k value → InUniverse (widest_kind (class_of_kind k)) value
in_widest kind.Boolean (cell.Bool truth) within = within
in_widest kind.Integer (cell.Number units) within = within.0
in_widest kind.Decimal (cell.Number units) within = within
in_widest (kind.Text alphabet) (cell.Text codes) within =
    (within.0, All-weaker (IsCharacterOf alphabet) (IsCharacterOf Unicode) (in_unicode alphabet) codes within.1)
in_widest kind.Date (cell.Moment at) within = within.0
in_widest kind.DateTime (cell.Moment at) within = within
in_widest (kind.Code code) (cell.Text codes) within = code_in_unicode code codes within
in_widest other value within = absurd within
