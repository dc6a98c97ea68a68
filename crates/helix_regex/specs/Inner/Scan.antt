-- How a scanner of patterns goes on after each character. Only the crate's private clauses cite it.
use Rattle.std.specs.Prelude.{ℕ, zero, suc, ◌+◌, ◌==◌, ◌&&◌, if◌then◌else◌, Bool, true, false, Option, Some, None}
use Rattle.helix_regex.specs.declared.char_kind.CharKind.{CharKind}
use Rattle.helix_regex.specs.declared.char_kind.CharKind.TheVariants as kind_is
use Rattle.helix_regex.specs.declared.char_kind.EscapeKind.{EscapeKind}
use Rattle.helix_regex.specs.declared.char_kind.EscapeKind.TheVariants as escape_is
use Rattle.helix_regex.specs.declared.char_kind.CountKind.{CountKind}
use Rattle.helix_regex.specs.declared.char_kind.CountKind.TheVariants as count_is
use Rattle.helix_regex.specs.declared.char_kind.ClassKind.{ClassKind}
use Rattle.helix_regex.specs.declared.char_kind.ClassKind.TheVariants as class_is
use Rattle.helix_regex.specs.declared.scanner_state.ScannerState.{ScannerState}
use Rattle.helix_regex.specs.declared.scanner_state.ScannerState.TheVariants as scanner_state
use Rattle.helix_regex.specs.declared.scanner_state.ClassState.{ClassState}
use Rattle.helix_regex.specs.declared.scanner_state.ClassState.TheVariants as class
use Rattle.helix_regex.specs.declared.scanner_state.Advance.{Advance}
use Rattle.helix_regex.specs.declared.scanner_state.Advance.TheVariants as advance
use Rattle.helix_regex.specs.declared.scan.Position.{Position}
use Rattle.helix_base.specs.Digits.{is_digit}
use Rattle.helix_regex.specs.Characters.{is_literal, is_punct, is_set_letter, is_class_char}

abbrev pub char_kind : ℕ → CharKind
char_kind c = if is_literal c then kind_is.Literal
    else if c == 92 then kind_is.Backslash
    else if c == 94 then kind_is.Caret
    else if c == 36 then kind_is.Dollar
    else if c == 46 then kind_is.Dot
    else if c == 124 then kind_is.Bar
    else if c == 63 then kind_is.Question
    else if c == 42 then kind_is.Star
    else if c == 43 then kind_is.Plus
    else if c == 40 then kind_is.Open
    else if c == 41 then kind_is.Close
    else if c == 91 then kind_is.Bracket
    else if c == 123 then kind_is.Brace
    else kind_is.Other

abbrev pub escape_kind : ℕ → EscapeKind
escape_kind c = if is_punct c then escape_is.Itself else if is_set_letter c then escape_is.Set else escape_is.Other

abbrev pub count_kind : ℕ → CountKind
count_kind c = if is_digit c then count_is.Digit else if c == 44 then count_is.Comma else if c == 125
    then count_is.Close else count_is.Other

abbrev pub class_kind : ℕ → ClassKind
class_kind c = if is_class_char c then class_is.Plain
    else if c == 92 then class_is.Backslash
    else if c == 45 then class_is.Dash
    else if c == 93 then class_is.Close
    else class_is.Other

abbrev pub stay_if : Bool → ScannerState → Advance
stay_if true next = advance.Stay next
stay_if false next = advance.Refuse

abbrev pub settled_advance : CharKind → Advance
settled_advance kind_is.Literal = advance.Stay scanner_state.Atom
settled_advance kind_is.Dot = advance.Stay scanner_state.Atom
settled_advance kind_is.Backslash = advance.Stay scanner_state.Escape
settled_advance kind_is.Caret = advance.Stay scanner_state.Ready
settled_advance kind_is.Dollar = advance.Stay scanner_state.Ready
settled_advance kind_is.Bar = advance.Stay scanner_state.Ready
settled_advance kind_is.Open = advance.Open scanner_state.Opened
settled_advance kind_is.Close = advance.Close scanner_state.Atom
settled_advance kind_is.Bracket = advance.Stay (scanner_state.Class class.Opened 91)
settled_advance _ = advance.Refuse

abbrev pub opened_advance : CharKind → Advance
opened_advance kind_is.Question = advance.Stay scanner_state.Marked
opened_advance s = settled_advance s

abbrev pub atom_advance : CharKind → Advance
atom_advance kind_is.Star = advance.Stay scanner_state.Quantified
atom_advance kind_is.Plus = advance.Stay scanner_state.Quantified
atom_advance kind_is.Question = advance.Stay scanner_state.Quantified
atom_advance kind_is.Brace = advance.Stay scanner_state.CountOpened
atom_advance s = settled_advance s

abbrev pub quantifier_advance : CharKind → Advance
quantifier_advance kind_is.Question = advance.Stay scanner_state.Ready
quantifier_advance s = settled_advance s

abbrev pub escape_advance : EscapeKind → Advance
escape_advance escape_is.Other = advance.Refuse
escape_advance _ = advance.Stay scanner_state.Atom

abbrev pub count_advance : ScannerState → CountKind → Advance
count_advance scanner_state.CountOpened count_is.Digit = advance.Stay scanner_state.CountLeast
count_advance scanner_state.CountLeast count_is.Digit = advance.Stay scanner_state.CountLeast
count_advance scanner_state.CountLeast count_is.Comma = advance.Stay scanner_state.CountComma
count_advance scanner_state.CountLeast count_is.Close = advance.Stay scanner_state.Quantified
count_advance scanner_state.CountComma count_is.Digit = advance.Stay scanner_state.CountMost
count_advance scanner_state.CountComma count_is.Close = advance.Stay scanner_state.Quantified
count_advance scanner_state.CountMost count_is.Digit = advance.Stay scanner_state.CountMost
count_advance scanner_state.CountMost count_is.Close = advance.Stay scanner_state.Quantified
count_advance _ _ = advance.Refuse

abbrev pub in_class : ClassState → ℕ → Advance
in_class next c = advance.Stay (scanner_state.Class next c)

abbrev pub class_escape_advance : ClassState → EscapeKind → ℕ → Advance
class_escape_advance class.Escape escape_is.Itself c = in_class class.One c
class_escape_advance class.Escape escape_is.Set c = in_class class.Items c
class_escape_advance class.FarEscape escape_is.Itself c = in_class class.Items c
class_escape_advance _ _ c = advance.Refuse

abbrev pub item_advance : ClassState → ClassKind → ℕ → Advance
item_advance class.Opened class_is.Plain c = in_class class.One c
item_advance class.Opened class_is.Backslash c = in_class class.Escape c
item_advance class.Opened class_is.Dash c = in_class class.Items c
item_advance class.First class_is.Plain c = in_class class.One c
item_advance class.First class_is.Backslash c = in_class class.Escape c
item_advance class.First class_is.Dash c = in_class class.Items c
item_advance class.Items class_is.Plain c = in_class class.One c
item_advance class.Items class_is.Backslash c = in_class class.Escape c
item_advance class.Items class_is.Dash c = in_class class.Last c
item_advance class.Items class_is.Close c = advance.Stay scanner_state.Atom
item_advance class.One class_is.Plain c = in_class class.One c
item_advance class.One class_is.Backslash c = in_class class.Escape c
item_advance class.One class_is.Dash c = in_class class.Dash c
item_advance class.One class_is.Close c = advance.Stay scanner_state.Atom
item_advance class.Dash class_is.Plain c = in_class class.Items c
item_advance class.Dash class_is.Backslash c = in_class class.FarEscape c
item_advance class.Dash class_is.Close c = advance.Stay scanner_state.Atom
item_advance class.Last class_is.Close c = advance.Stay scanner_state.Atom
item_advance _ _ c = advance.Refuse

abbrev pub class_advance : ClassState → ℕ → Advance
class_advance class.Opened c = if c == 94 then in_class class.First c else item_advance class.Opened (class_kind c) c
class_advance class.Escape c = class_escape_advance class.Escape (escape_kind c) c
class_advance class.FarEscape c = class_escape_advance class.FarEscape (escape_kind c) c
class_advance m c = item_advance m (class_kind c) c

abbrev pub scanner_step : ScannerState → ℕ → Advance
scanner_step scanner_state.Ready c = settled_advance (char_kind c)
scanner_step scanner_state.Opened c = opened_advance (char_kind c)
scanner_step scanner_state.Atom c = atom_advance (char_kind c)
scanner_step scanner_state.Quantified c = quantifier_advance (char_kind c)
scanner_step scanner_state.Marked c = stay_if (c == 58) scanner_state.Ready
scanner_step scanner_state.Escape c = escape_advance (escape_kind c)
scanner_step (scanner_state.Class m before) c = if before == 38 && c == 38 then advance.Refuse else class_advance m c
scanner_step m c = count_advance m (count_kind c)

-- a scanner's position after one more character, or none where it is refused
abbrev pub moved : Advance → ℕ → Option Position
moved advance.Refuse d = None
moved (advance.Stay m) d = Some (record { scanner_state = m; depth = d })
moved (advance.Open m) d = Some (record { scanner_state = m; depth = d + 1 })
moved (advance.Close m) zero = None
moved (advance.Close m) (suc d) = Some (record { scanner_state = m; depth = d })

abbrev pub position_step : Position → ℕ → Option Position
position_step p c = moved (scanner_step p.scanner_state c) p.depth

-- a pattern may end in this scanner state, where no group is open
abbrev pub may_end : ScannerState → Bool
may_end scanner_state.Ready = true
may_end scanner_state.Atom = true
may_end scanner_state.Quantified = true
may_end _ = false
