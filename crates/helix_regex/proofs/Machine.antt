-- How a pattern is put together, character by character. Only the crate's private clauses cite it.
use Rattle.std.specs.Prelude.{ℕ, ◌==◌, ◌&&◌, Bool, true, false, Option, Some, None, List, [], ◌∷◌, ◌++◌}
use Rattle.helix_regex.specs.declared.char_kind.CharKind.{CharKind}
use Rattle.helix_regex.specs.declared.char_kind.CharKind.TheVariants as kind_is
use Rattle.helix_regex.specs.declared.char_kind.EscapeKind.{EscapeKind}
use Rattle.helix_regex.specs.declared.char_kind.EscapeKind.TheVariants as escape_is
use Rattle.helix_regex.specs.declared.char_kind.CountKind.{CountKind}
use Rattle.helix_regex.specs.declared.char_kind.CountKind.TheVariants as count_is
use Rattle.helix_regex.specs.declared.char_kind.ClassKind.{ClassKind}
use Rattle.helix_regex.specs.declared.char_kind.ClassKind.TheVariants as class_is
use Rattle.helix_regex.specs.declared.scanner_state.ScannerState.{ScannerState}
use Rattle.helix_regex.specs.declared.scanner_state.ScannerState.TheVariants as scanner_state
use Rattle.helix_regex.specs.declared.scanner_state.ClassState.{ClassState}
use Rattle.helix_regex.specs.declared.scanner_state.ClassState.TheVariants as class_state
use Rattle.helix_regex.specs.Pattern.{End, plain, escaped, Item, single, range, set_item, dash, Single, literal, dot, escape, set, class, Count, star, plus, question, exactly, at_least, between, Quant, once, times, Pattern, end, bar, caret, dollar, one, group}
use Rattle.helix_regex.specs.Inner.Scan.{char_kind, escape_kind, count_kind, class_kind}

-- one pattern after another
abbrev pub append : Pattern → Pattern → Pattern
append end more = more
append (bar p) more = bar (append p more)
append (caret p) more = caret (append p more)
append (dollar p) more = dollar (append p more)
append (one s q p) more = one s q (append p more)
append (group bare inner q p) more = group bare inner q (append p more)

pub data Atom : Type 0 where
  alone : Single → Atom
  grouped : Bool → Pattern → Atom

abbrev pub piece : Atom → Quant → Pattern
piece (alone s) q = one s q end
piece (grouped bare inner) q = group bare inner q end

-- what was read last: what nothing can be said of, the `(` of a group, an atom, or an atom with its quantifier
pub data Last : Type 0 where
  nothing : Last
  opened : Last
  atom : Atom → Last
  repeated : Atom → Count → Last

-- what is read, with what was last
abbrev pub settled : Last → Pattern → Pattern
settled nothing b = b
settled opened b = b
settled (atom a) b = append b (piece a once)
settled (repeated a count) b = append b (piece a (times count false))

-- an open group: what is before it, and whether it begins with `(?:`
abbrev pub Frame : Type 0
Frame = Pattern × Bool

-- inside of a count, with its digits so far
pub data Counting : Type 0 where
  count_opened : Counting
  count_least : List ℕ → Counting
  count_comma : List ℕ → Counting
  count_most : List ℕ → List ℕ → Counting

-- inside of a class, with its items so far
pub data InClass : Type 0 where
  class_opened : InClass
  class_first : InClass
  class_items : Bool → List Item → InClass
  class_one : Bool → List Item → End → InClass
  class_dash : Bool → List Item → End → InClass
  class_last : Bool → List Item → InClass
  class_escape : Bool → List Item → InClass
  class_far : Bool → List Item → End → InClass

pub data State : Type 0 where
  outside : Last → Pattern → List Frame → State
  marked : List Frame → State
  escaping : Pattern → List Frame → State
  counting : Counting → Atom → Pattern → List Frame → State
  in_class : InClass → ℕ → Pattern → List Frame → State

abbrev pub start : State
start = outside nothing end []

abbrev pub with_mark : List Frame → List Frame
with_mark [] = []
with_mark ((b, bare) ∷ fs) = (b, true) ∷ fs

abbrev pub close : Pattern → List Frame → Option State
close b [] = None
close b ((before, bare) ∷ fs) = Some (outside (atom (grouped bare b)) before fs)

abbrev pub settled_step : Pattern → List Frame → CharKind → ℕ → Option State
settled_step b fs kind_is.Literal c = Some (outside (atom (alone (literal c))) b fs)
settled_step b fs kind_is.Dot c = Some (outside (atom (alone dot)) b fs)
settled_step b fs kind_is.Backslash c = Some (escaping b fs)
settled_step b fs kind_is.Caret c = Some (outside nothing (append b (caret end)) fs)
settled_step b fs kind_is.Dollar c = Some (outside nothing (append b (dollar end)) fs)
settled_step b fs kind_is.Bar c = Some (outside nothing (append b (bar end)) fs)
settled_step b fs kind_is.Open c = Some (outside opened end ((b, false) ∷ fs))
settled_step b fs kind_is.Close c = close b fs
settled_step b fs kind_is.Bracket c = Some (in_class class_opened 91 b fs)
settled_step b fs _ c = None

abbrev pub outside_step : Last → Pattern → List Frame → CharKind → ℕ → Option State
outside_step opened b fs kind_is.Question c = Some (marked fs)
outside_step (atom a) b fs kind_is.Star c = Some (outside (repeated a star) b fs)
outside_step (atom a) b fs kind_is.Plus c = Some (outside (repeated a plus) b fs)
outside_step (atom a) b fs kind_is.Question c = Some (outside (repeated a question) b fs)
outside_step (atom a) b fs kind_is.Brace c = Some (counting count_opened a b fs)
outside_step (repeated a count) b fs kind_is.Question c =
    Some (outside nothing (append b (piece a (times count true))) fs)
outside_step last b fs s c = settled_step (settled last b) fs s c

abbrev pub marked_step : Bool → List Frame → Option State
marked_step true fs = Some (outside nothing end (with_mark fs))
marked_step false fs = None

abbrev pub escape_step : Pattern → List Frame → EscapeKind → ℕ → Option State
escape_step b fs escape_is.Itself c = Some (outside (atom (alone (escape c))) b fs)
escape_step b fs escape_is.Set c = Some (outside (atom (alone (set c))) b fs)
escape_step b fs escape_is.Other c = None

abbrev pub count_step : Counting → Atom → Pattern → List Frame → CountKind → ℕ → Option State
count_step count_opened a b fs count_is.Digit c = Some (counting (count_least (c ∷ [])) a b fs)
count_step (count_least ds) a b fs count_is.Digit c = Some (counting (count_least (ds ++ c ∷ [])) a b fs)
count_step (count_least ds) a b fs count_is.Comma c = Some (counting (count_comma ds) a b fs)
count_step (count_least ds) a b fs count_is.Close c = Some (outside (repeated a (exactly ds)) b fs)
count_step (count_comma ds) a b fs count_is.Digit c = Some (counting (count_most ds (c ∷ [])) a b fs)
count_step (count_comma ds) a b fs count_is.Close c = Some (outside (repeated a (at_least ds)) b fs)
count_step (count_most ds es) a b fs count_is.Digit c = Some (counting (count_most ds (es ++ c ∷ [])) a b fs)
count_step (count_most ds es) a b fs count_is.Close c = Some (outside (repeated a (between ds es)) b fs)
count_step _ a b fs _ c = None

-- inside of a class, a character is refused, leads on, or ends the class
pub data ClassMove : Type 0 where
  refuse : ClassMove
  go : InClass → ClassMove
  done : Bool → List Item → ClassMove

abbrev pub first_move : Bool → ClassKind → ℕ → ClassMove
first_move n class_is.Plain c = go (class_one n [] (plain c))
first_move n class_is.Backslash c = go (class_escape n [])
first_move n class_is.Dash c = go (class_items n (dash ∷ []))
first_move n _ c = refuse

abbrev pub items_move : Bool → List Item → ClassKind → ℕ → ClassMove
items_move n is class_is.Plain c = go (class_one n is (plain c))
items_move n is class_is.Backslash c = go (class_escape n is)
items_move n is class_is.Dash c = go (class_last n is)
items_move n is class_is.Close c = done n is
items_move n is class_is.Other c = refuse

abbrev pub one_move : Bool → List Item → End → ClassKind → ℕ → ClassMove
one_move n is e class_is.Dash c = go (class_dash n is e)
one_move n is e s c = items_move n (is ++ single e ∷ []) s c

abbrev pub dash_move : Bool → List Item → End → ClassKind → ℕ → ClassMove
dash_move n is e class_is.Plain c = go (class_items n (is ++ range e (plain c) ∷ []))
dash_move n is e class_is.Backslash c = go (class_far n is e)
dash_move n is e class_is.Close c = done n (is ++ single e ∷ dash ∷ [])
dash_move n is e _ c = refuse

abbrev pub last_move : Bool → List Item → ClassKind → ClassMove
last_move n is class_is.Close = done n (is ++ dash ∷ [])
last_move n is _ = refuse

abbrev pub class_escape_move : Bool → List Item → EscapeKind → ℕ → ClassMove
class_escape_move n is escape_is.Itself c = go (class_one n is (escaped c))
class_escape_move n is escape_is.Set c = go (class_items n (is ++ set_item c ∷ []))
class_escape_move n is escape_is.Other c = refuse

abbrev pub far_move : Bool → List Item → End → EscapeKind → ℕ → ClassMove
far_move n is e escape_is.Itself c = go (class_items n (is ++ range e (escaped c) ∷ []))
far_move n is e _ c = refuse

abbrev pub opened_move : Bool → ℕ → ClassMove
opened_move true c = go class_first
opened_move false c = first_move false (class_kind c) c

abbrev pub class_move : InClass → ℕ → ClassMove
class_move class_opened c = opened_move (c == 94) c
class_move class_first c = first_move true (class_kind c) c
class_move (class_items n is) c = items_move n is (class_kind c) c
class_move (class_one n is e) c = one_move n is e (class_kind c) c
class_move (class_dash n is e) c = dash_move n is e (class_kind c) c
class_move (class_last n is) c = last_move n is (class_kind c)
class_move (class_escape n is) c = class_escape_move n is (escape_kind c) c
class_move (class_far n is e) c = far_move n is e (escape_kind c) c

-- a second `&` beside another is refused
abbrev pub class_step : Bool → ClassMove → ℕ → Pattern → List Frame → Option State
class_step true move c b fs = None
class_step false refuse c b fs = None
class_step false (go k) c b fs = Some (in_class k c b fs)
class_step false (done n is) c b fs = Some (outside (atom (alone (class n is))) b fs)

abbrev pub step : State → ℕ → Option State
step (outside last b fs) c = outside_step last b fs (char_kind c) c
step (marked fs) c = marked_step (c == 58) fs
step (escaping b fs) c = escape_step b fs (escape_kind c) c
step (counting k a b fs) c = count_step k a b fs (count_kind c) c
step (in_class k before b fs) c = class_step (before == 38 && c == 38) (class_move k c) c b fs

abbrev pub on_some : Option State → (State → Option State) → Option State
on_some None f = None
on_some (Some s) f = f s

-- where a text leads
unfoldable pub run : State → List ℕ → Option State
run s [] = Some s
run s (c ∷ cs) = on_some (step s c) (λ next. run next cs)

-- what a scanner keeps of a state
abbrev pub state_past : Last → ScannerState
state_past nothing = scanner_state.Ready
state_past opened = scanner_state.Opened
state_past (atom a) = scanner_state.Atom
state_past (repeated a count) = scanner_state.Quantified

abbrev pub count_state : Counting → ScannerState
count_state count_opened = scanner_state.CountOpened
count_state (count_least ds) = scanner_state.CountLeast
count_state (count_comma ds) = scanner_state.CountComma
count_state (count_most ds es) = scanner_state.CountMost

abbrev pub class_state_of : InClass → ClassState
class_state_of class_opened = class_state.Opened
class_state_of class_first = class_state.First
class_state_of (class_items n is) = class_state.Items
class_state_of (class_one n is e) = class_state.One
class_state_of (class_dash n is e) = class_state.Dash
class_state_of (class_last n is) = class_state.Last
class_state_of (class_escape n is) = class_state.Escape
class_state_of (class_far n is e) = class_state.FarEscape

abbrev pub scanner_state_of : State → ScannerState
scanner_state_of (outside last b fs) = state_past last
scanner_state_of (marked fs) = scanner_state.Marked
scanner_state_of (escaping b fs) = scanner_state.Escape
scanner_state_of (counting k a b fs) = count_state k
scanner_state_of (in_class k before b fs) = scanner_state.Class (class_state_of k) before

abbrev pub frames_of : State → List Frame
frames_of (outside last b fs) = fs
frames_of (marked fs) = fs
frames_of (escaping b fs) = fs
frames_of (counting k a b fs) = fs
frames_of (in_class k before b fs) = fs
