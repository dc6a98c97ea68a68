-- The tokens that each character ends. Only the crate's private clauses cite it.
use Rattle.std.specs.Prelude.{ℕ, ◌+◌, ◌-◌, ◌*◌, min, ◌==◌, if◌then◌else◌, Bool, true, false, Option, Some, None, List, [], ◌∷◌}
use Rattle.helix_regex.specs.declared.token.Token.{Token}
use Rattle.helix_regex.specs.declared.token.Token.TheVariants as token
use Rattle.helix_regex.specs.declared.lexer.Lexer.{Lexer}
use Rattle.helix_regex.specs.declared.char_kind.CharKind.{CharKind}
use Rattle.helix_regex.specs.declared.char_kind.CharKind.TheVariants as kind_is
use Rattle.helix_regex.specs.declared.char_kind.EscapeKind.{EscapeKind}
use Rattle.helix_regex.specs.declared.char_kind.EscapeKind.TheVariants as escape_is
use Rattle.helix_regex.specs.declared.char_kind.CountKind.{CountKind}
use Rattle.helix_regex.specs.declared.char_kind.CountKind.TheVariants as count_is
use Rattle.helix_regex.specs.declared.char_kind.ClassKind.{ClassKind}
use Rattle.helix_regex.specs.declared.char_kind.ClassKind.TheVariants as class_is
use Rattle.helix_regex.specs.declared.scanner_state.ScannerState.{ScannerState}
use Rattle.helix_regex.specs.declared.scanner_state.ScannerState.TheVariants as scanner_state
use Rattle.helix_regex.specs.declared.scanner_state.ClassState.{ClassState}
use Rattle.helix_regex.specs.declared.scanner_state.ClassState.TheVariants as class
use Rattle.helix_regex.specs.declared.scanner_state.Advance.{Advance}
use Rattle.helix_regex.specs.declared.scanner_state.Advance.TheVariants as advance
use Rattle.helix_regex.specs.Inner.Scan.{char_kind, escape_kind, count_kind, class_kind, scanner_step}

abbrev pub option_list : Option Token → List Token
option_list None = []
option_list (Some t) = t ∷ []

abbrev pub state_after : ScannerState → Advance → ScannerState
state_after m advance.Refuse = m
state_after m (advance.Stay next) = next
state_after m (advance.Open next) = next
state_after m (advance.Close next) = next

-- a token that began earlier goes on
abbrev pub stays_inside : ScannerState → Bool
stays_inside scanner_state.CountOpened = true
stays_inside scanner_state.CountLeast = true
stays_inside scanner_state.CountComma = true
stays_inside scanner_state.CountMost = true
stays_inside (scanner_state.Class class.Escape before) = true
stays_inside (scanner_state.Class class.Dash before) = true
stays_inside (scanner_state.Class class.FarEscape before) = true
stays_inside _ = false

abbrev pub keeps_place : ScannerState → ScannerState → Bool
keeps_place m (scanner_state.Class class.Dash before) = true
keeps_place m _ = stays_inside m

abbrev pub begins_one : ScannerState → Bool
begins_one (scanner_state.Class class.One before) = true
begins_one _ = false

-- a number with one more digit, as far as it matters
abbrev pub with_digit : ℕ → ℕ → ℕ
with_digit number c = min (number * 10 + (c - 48)) 1001

abbrev pub digit_or : CountKind → ℕ → ℕ → ℕ
digit_or count_is.Digit with_it without = with_it
digit_or _ with_it without = without

abbrev pub next_least : ScannerState → ℕ → ℕ → ℕ
next_least scanner_state.CountOpened number c = with_digit 0 c
next_least scanner_state.CountLeast number c = digit_or (count_kind c) (with_digit number c) number
next_least _ number c = number

abbrev pub next_most : ScannerState → ℕ → ℕ → ℕ
next_most scanner_state.CountComma number c = with_digit 0 c
next_most scanner_state.CountMost number c = digit_or (count_kind c) (with_digit number c) number
next_most _ number c = number

abbrev pub lexer_next : Lexer → ScannerState → ℕ → ℕ → Lexer
lexer_next l next c at = record {
  scanner_state = next;
  at = if keeps_place l.scanner_state next then l.at else at;
  first = if begins_one next then c else l.first;
  least = next_least l.scanner_state l.least c;
  most = next_most l.scanner_state l.most c;
}

abbrev pub lexer_step : Lexer → ℕ → ℕ → Lexer
lexer_step l c at = lexer_next l (state_after l.scanner_state (scanner_step l.scanner_state c)) c at

abbrev pub outside_token : ScannerState → CharKind → ℕ → ℕ → Option Token
outside_token m kind_is.Literal c at = Some (token.Literal c)
outside_token m kind_is.Dot c at = Some token.Dot
outside_token m kind_is.Caret c at = Some (token.Caret at)
outside_token m kind_is.Dollar c at = Some (token.Dollar at)
outside_token m kind_is.Bar c at = Some (token.Bar at)
outside_token m kind_is.Open c at = Some token.Open
outside_token m kind_is.Close c at = Some token.Close
outside_token m kind_is.Bracket c at = Some token.ClassStart
outside_token scanner_state.Atom kind_is.Star c at = Some (token.Repeat 0 None at)
outside_token scanner_state.Atom kind_is.Plus c at = Some (token.Repeat 1 None at)
outside_token scanner_state.Atom kind_is.Question c at = Some (token.Repeat 0 (Some 1) at)
outside_token m s c at = None

abbrev pub escape_token : EscapeKind → ℕ → Option Token
escape_token escape_is.Itself c = Some (token.Literal c)
escape_token escape_is.Set c = Some (token.Set c)
escape_token escape_is.Other c = None

abbrev pub count_token_in : ScannerState → CountKind → Lexer → Option Token
count_token_in scanner_state.CountLeast count_is.Close l = Some (token.Repeat l.least (Some l.least) l.at)
count_token_in scanner_state.CountComma count_is.Close l = Some (token.Repeat l.least None l.at)
count_token_in scanner_state.CountMost count_is.Close l = Some (token.Repeat l.least (Some l.most) l.at)
count_token_in m s l = None

abbrev pub count_token_of : Lexer → CountKind → Option Token
count_token_of l s = count_token_in l.scanner_state s l

abbrev pub class_escape_token : ClassState → EscapeKind → Lexer → ℕ → Option Token
class_escape_token class.Escape escape_is.Set l c = Some (token.SetItem c)
class_escape_token class.FarEscape escape_is.Itself l c = Some (token.Range l.first c l.at)
class_escape_token m s l c = None

abbrev pub item_tokens_of : ClassState → ClassKind → Lexer → ℕ → List Token
item_tokens_of class.Opened class_is.Dash l c = token.Item 45 ∷ []
item_tokens_of class.First class_is.Dash l c = token.Item 45 ∷ []
item_tokens_of class.Items class_is.Close l c = token.ClassEnd ∷ []
item_tokens_of class.One class_is.Plain l c = token.Item l.first ∷ []
item_tokens_of class.One class_is.Backslash l c = token.Item l.first ∷ []
item_tokens_of class.One class_is.Close l c = token.Item l.first ∷ token.ClassEnd ∷ []
item_tokens_of class.Dash class_is.Plain l c = token.Range l.first c l.at ∷ []
item_tokens_of class.Dash class_is.Close l c = token.Item l.first ∷ token.Item 45 ∷ token.ClassEnd ∷ []
item_tokens_of class.Last class_is.Close l c = token.Item 45 ∷ token.ClassEnd ∷ []
item_tokens_of m s l c = []

abbrev pub class_emitted : ClassState → Lexer → ℕ → List Token
class_emitted class.Opened l c = if c == 94 then token.Exclude ∷ [] else item_tokens_of class.Opened (class_kind c) l c
class_emitted class.Escape l c = option_list (class_escape_token class.Escape (escape_kind c) l c)
class_emitted class.FarEscape l c = option_list (class_escape_token class.FarEscape (escape_kind c) l c)
class_emitted m l c = item_tokens_of m (class_kind c) l c

abbrev pub emitted_in : ScannerState → Lexer → ℕ → ℕ → List Token
emitted_in scanner_state.Marked l c at = []
emitted_in scanner_state.Escape l c at = option_list (escape_token (escape_kind c) c)
emitted_in scanner_state.CountOpened l c at = option_list (count_token_in scanner_state.CountOpened (count_kind c) l)
emitted_in scanner_state.CountLeast l c at = option_list (count_token_in scanner_state.CountLeast (count_kind c) l)
emitted_in scanner_state.CountComma l c at = option_list (count_token_in scanner_state.CountComma (count_kind c) l)
emitted_in scanner_state.CountMost l c at = option_list (count_token_in scanner_state.CountMost (count_kind c) l)
emitted_in (scanner_state.Class m before) l c at = class_emitted m l c
emitted_in m l c at = option_list (outside_token m (char_kind c) c at)

-- the tokens that a character ends
abbrev pub emitted : Lexer → ℕ → ℕ → List Token
emitted l c at = emitted_in l.scanner_state l c at
