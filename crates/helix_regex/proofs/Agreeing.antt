-- What a scanner keeps is enough to know whether the next character is refused.
use Rattle.std.proofs.Common.{◌≡◌, ℕ, zero, suc, ◌==◌, ◌&&◌, Bool, true, false, Option, Some, None, List, [], ◌∷◌, length, refl, cond}
use Rattle.helix_regex.specs.declared.char_kind.CharKind.{CharKind}
use Rattle.helix_regex.specs.declared.char_kind.CharKind.TheVariants as kind_is
use Rattle.helix_regex.specs.declared.char_kind.EscapeKind.{EscapeKind}
use Rattle.helix_regex.specs.declared.char_kind.EscapeKind.TheVariants as escape_is
use Rattle.helix_regex.specs.declared.char_kind.CountKind.{CountKind}
use Rattle.helix_regex.specs.declared.char_kind.CountKind.TheVariants as count_is
use Rattle.helix_regex.specs.declared.char_kind.ClassKind.{ClassKind}
use Rattle.helix_regex.specs.declared.char_kind.ClassKind.TheVariants as class_is
use Rattle.helix_regex.specs.declared.scanner_state.ScannerState.{ScannerState}
use Rattle.helix_regex.specs.declared.scanner_state.ScannerState.TheVariants as scanner_state
use Rattle.helix_regex.specs.declared.scanner_state.ClassState.TheVariants as class_state
use Rattle.helix_regex.specs.declared.scanner_state.Advance.{Advance}
use Rattle.helix_regex.specs.declared.scanner_state.Advance.TheVariants as advance
use Rattle.helix_regex.specs.Pattern.{Pattern, Item, End}
use Rattle.helix_regex.specs.Inner.Scan.{char_kind, escape_kind, count_kind, class_kind, scanner_step, settled_advance, opened_advance, atom_advance, quantifier_advance, escape_advance, count_advance, class_advance, class_escape_advance, item_advance, stay_if}
use Rattle.helix_regex.proofs.Machine.{Atom, nothing, opened, atom, repeated, settled, Frame, Counting, count_opened, count_least, count_comma, count_most, InClass, class_opened, class_first, class_items, class_one, class_dash, class_last, class_escape, class_far, State, outside, marked, escaping, counting, in_class, with_mark, settled_step, outside_step, marked_step, escape_step, count_step, ClassMove, first_move, items_move, one_move, dash_move, last_move, class_escape_move, far_move, opened_move, class_move, class_step, step, scanner_state_of, frames_of, count_state, class_state_of}

abbrev pub depth_of : State → ℕ
depth_of s = length (frames_of s)

abbrev pub At : ScannerState → ℕ → State → Type 0
At m d s = (scanner_state_of s ≡ m) × (depth_of s ≡ d)

-- what a character does to a state is what it does to a scanner state, at that depth of groups
abbrev pub Agrees : Option State → Advance → ℕ → Type 0
Agrees (Some s) (advance.Stay m) d = At m d s
Agrees (Some s) (advance.Open m) d = At m (suc d) s
Agrees (Some s) (advance.Close m) (suc d) = At m d s
Agrees (Some s) _ d = ⊥
Agrees None advance.Refuse d = Unit {0}
Agrees None (advance.Close m) zero = Unit {0}
Agrees None _ d = ⊥

settled_agrees : (b : Pattern) (fs : List Frame) (s : CharKind) (c : ℕ)
    → Agrees (settled_step b fs s c) (settled_advance s) (length fs)
settled_agrees b fs kind_is.Literal c = (refl, refl)
settled_agrees b fs kind_is.Dot c = (refl, refl)
settled_agrees b fs kind_is.Backslash c = (refl, refl)
settled_agrees b fs kind_is.Caret c = (refl, refl)
settled_agrees b fs kind_is.Dollar c = (refl, refl)
settled_agrees b fs kind_is.Bar c = (refl, refl)
settled_agrees b fs kind_is.Open c = (refl, refl)
settled_agrees b [] kind_is.Close c = tt
settled_agrees b ((p, bare) ∷ fs) kind_is.Close c = (refl, refl)
settled_agrees b fs kind_is.Bracket c = (refl, refl)
settled_agrees b fs _ c = tt

nothing_agrees : (b : Pattern) (fs : List Frame) (s : CharKind) (c : ℕ)
    → Agrees (outside_step nothing b fs s c) (settled_advance s) (length fs)
nothing_agrees b fs s c = settled_agrees b fs s c

opened_agrees : (b : Pattern) (fs : List Frame) (s : CharKind) (c : ℕ)
    → Agrees (outside_step opened b fs s c) (opened_advance s) (length fs)
opened_agrees b fs kind_is.Question c = (refl, refl)
opened_agrees b fs s c = settled_agrees b fs s c

atom_agrees : (a : Atom) (b : Pattern) (fs : List Frame) (s : CharKind) (c : ℕ)
    → Agrees (outside_step (atom a) b fs s c) (atom_advance s) (length fs)
atom_agrees a b fs kind_is.Star c = (refl, refl)
atom_agrees a b fs kind_is.Plus c = (refl, refl)
atom_agrees a b fs kind_is.Question c = (refl, refl)
atom_agrees a b fs kind_is.Brace c = (refl, refl)
atom_agrees a b fs s c = settled_agrees (settled (atom a) b) fs s c

repeated_agrees : (a : Atom) (count : _) (b : Pattern) (fs : List Frame) (s : CharKind) (c : ℕ)
    → Agrees (outside_step (repeated a count) b fs s c) (quantifier_advance s) (length fs)
repeated_agrees a count b fs kind_is.Question c = (refl, refl)
repeated_agrees a count b fs s c = settled_agrees (settled (repeated a count) b) fs s c

length-with_mark : (fs : List Frame) → length (with_mark fs) ≡ length fs
length-with_mark [] = refl
length-with_mark ((b, bare) ∷ fs) = refl

marked_agrees : (test : Bool) (fs : List Frame)
    → Agrees (marked_step test fs) (stay_if test scanner_state.Ready) (length fs)
marked_agrees true fs = (refl, length-with_mark fs)
marked_agrees false fs = tt

escape_agrees : (b : Pattern) (fs : List Frame) (s : EscapeKind) (c : ℕ)
    → Agrees (escape_step b fs s c) (escape_advance s) (length fs)
escape_agrees b fs escape_is.Itself c = (refl, refl)
escape_agrees b fs escape_is.Set c = (refl, refl)
escape_agrees b fs escape_is.Other c = tt

count_agrees : (k : Counting) (a : Atom) (b : Pattern) (fs : List Frame) (s : CountKind) (c : ℕ)
    → Agrees (count_step k a b fs s c) (count_advance (count_state k) s) (length fs)
count_agrees count_opened a b fs count_is.Digit c = (refl, refl)
count_agrees count_opened a b fs _ c = tt
count_agrees (count_least ds) a b fs count_is.Digit c = (refl, refl)
count_agrees (count_least ds) a b fs count_is.Comma c = (refl, refl)
count_agrees (count_least ds) a b fs count_is.Close c = (refl, refl)
count_agrees (count_least ds) a b fs count_is.Other c = tt
count_agrees (count_comma ds) a b fs count_is.Digit c = (refl, refl)
count_agrees (count_comma ds) a b fs count_is.Close c = (refl, refl)
count_agrees (count_comma ds) a b fs _ c = tt
count_agrees (count_most ds es) a b fs count_is.Digit c = (refl, refl)
count_agrees (count_most ds es) a b fs count_is.Close c = (refl, refl)
count_agrees (count_most ds es) a b fs _ c = tt

-- a move of a class and what it does to the scanner state
abbrev MovesAs : ClassMove → Advance → ℕ → Type 0
MovesAs move a c = (b : Pattern) (fs : List Frame) → Agrees (class_step false move c b fs) a (length fs)

first_agrees : (n : Bool) (s : ClassKind) (c : ℕ) → MovesAs (first_move n s c) (item_advance class_state.First s c) c
first_agrees n class_is.Plain c b fs = (refl, refl)
first_agrees n class_is.Backslash c b fs = (refl, refl)
first_agrees n class_is.Dash c b fs = (refl, refl)
first_agrees n _ c b fs = tt

as_first : (s : ClassKind) (c : ℕ) → MovesAs (first_move false s c) (item_advance class_state.Opened s c) c
as_first class_is.Plain c b fs = (refl, refl)
as_first class_is.Backslash c b fs = (refl, refl)
as_first class_is.Dash c b fs = (refl, refl)
as_first _ c b fs = tt

opened_class_agrees : (test : Bool) (c : ℕ)
    → MovesAs (opened_move test c) (cond test (advance.Stay (scanner_state.Class class_state.First c))
    (item_advance class_state.Opened (class_kind c) c)) c
opened_class_agrees true c b fs = (refl, refl)
opened_class_agrees false c b fs = as_first (class_kind c) c b fs

items_agrees : (n : Bool) (is : List Item) (s : ClassKind) (c : ℕ)
    → MovesAs (items_move n is s c) (item_advance class_state.Items s c) c
items_agrees n is class_is.Other c b fs = tt
items_agrees n is _ c b fs = (refl, refl)

one_agrees : (n : Bool) (is : List Item) (e : End) (s : ClassKind) (c : ℕ)
    → MovesAs (one_move n is e s c) (item_advance class_state.One s c) c
one_agrees n is e class_is.Other c b fs = tt
one_agrees n is e _ c b fs = (refl, refl)

dash_agrees : (n : Bool) (is : List Item) (e : End) (s : ClassKind) (c : ℕ)
    → MovesAs (dash_move n is e s c) (item_advance class_state.Dash s c) c
dash_agrees n is e class_is.Plain c b fs = (refl, refl)
dash_agrees n is e class_is.Backslash c b fs = (refl, refl)
dash_agrees n is e class_is.Close c b fs = (refl, refl)
dash_agrees n is e _ c b fs = tt

last_agrees : (n : Bool) (is : List Item) (s : ClassKind) (c : ℕ)
    → MovesAs (last_move n is s) (item_advance class_state.Last s c) c
last_agrees n is class_is.Close c b fs = (refl, refl)
last_agrees n is _ c b fs = tt

class_escape_agrees : (n : Bool) (is : List Item) (s : EscapeKind) (c : ℕ)
    → MovesAs (class_escape_move n is s c) (class_escape_advance class_state.Escape s c) c
class_escape_agrees n is escape_is.Other c b fs = tt
class_escape_agrees n is _ c b fs = (refl, refl)

far_agrees : (n : Bool) (is : List Item) (e : End) (s : EscapeKind) (c : ℕ)
    → MovesAs (far_move n is e s c) (class_escape_advance class_state.FarEscape s c) c
far_agrees n is e escape_is.Itself c b fs = (refl, refl)
far_agrees n is e _ c b fs = tt

move_agrees : (k : InClass) (c : ℕ) → MovesAs (class_move k c) (class_advance (class_state_of k) c) c
move_agrees class_opened c = opened_class_agrees (c == 94) c
move_agrees class_first c = first_agrees true (class_kind c) c
move_agrees (class_items n is) c = items_agrees n is (class_kind c) c
move_agrees (class_one n is e) c = one_agrees n is e (class_kind c) c
move_agrees (class_dash n is e) c = dash_agrees n is e (class_kind c) c
move_agrees (class_last n is) c = last_agrees n is (class_kind c) c
move_agrees (class_escape n is) c = class_escape_agrees n is (escape_kind c) c
move_agrees (class_far n is e) c = far_agrees n is e (escape_kind c) c

guarded : (test : Bool) (move : ClassMove) (a : Advance) (c : ℕ) (b : Pattern) (fs : List Frame)
    → Agrees (class_step false move c b fs) a (length fs)
    → Agrees (class_step test move c b fs) (cond test advance.Refuse a) (length fs)
guarded true move a c b fs h = tt
guarded false move a c b fs h = h

pub agrees : (s : State) (c : ℕ) → Agrees (step s c) (scanner_step (scanner_state_of s) c) (depth_of s)
agrees (outside nothing b fs) c = nothing_agrees b fs (char_kind c) c
agrees (outside opened b fs) c = opened_agrees b fs (char_kind c) c
agrees (outside (atom a) b fs) c = atom_agrees a b fs (char_kind c) c
agrees (outside (repeated a count) b fs) c = repeated_agrees a count b fs (char_kind c) c
agrees (marked fs) c = marked_agrees (c == 58) fs
agrees (escaping b fs) c = escape_agrees b fs (escape_kind c) c
agrees (counting count_opened a b fs) c = count_agrees count_opened a b fs (count_kind c) c
agrees (counting (count_least ds) a b fs) c = count_agrees (count_least ds) a b fs (count_kind c) c
agrees (counting (count_comma ds) a b fs) c = count_agrees (count_comma ds) a b fs (count_kind c) c
agrees (counting (count_most ds es) a b fs) c = count_agrees (count_most ds es) a b fs (count_kind c) c
agrees (in_class k before b fs) c = guarded (before == 38 && c == 38) (class_move k c)
    (class_advance (class_state_of k) c) c b fs (move_agrees k c b fs)
