-- The tokens of a class, character by character.
use Rattle.std.proofs.Common.{◌≡◌, ℕ, ◌+◌, Bool, true, false, ◌==◌, List, [], ◌∷◌, ◌++◌, length, refl, sym, ◌∙◌, ap, append_assoc, arith, length-append, cond}
use Rattle.std.proofs.lemmas.List.{append-nil}
use Rattle.helix_regex.specs.declared.token.Token.{Token}
use Rattle.helix_regex.specs.declared.token.Token.TheVariants as token
use Rattle.helix_regex.specs.declared.lexer.Lexer.{Lexer}
use Rattle.helix_regex.specs.declared.char_kind.ClassKind.{ClassKind}
use Rattle.helix_regex.specs.declared.char_kind.ClassKind.TheVariants as class_is
use Rattle.helix_regex.specs.declared.char_kind.EscapeKind.{EscapeKind}
use Rattle.helix_regex.specs.declared.char_kind.EscapeKind.TheVariants as escape_is
use Rattle.helix_regex.specs.declared.scanner_state.ScannerState.{ScannerState}
use Rattle.helix_regex.specs.declared.scanner_state.ScannerState.TheVariants as scanner_state
use Rattle.helix_regex.specs.declared.scanner_state.ClassState.{ClassState}
use Rattle.helix_regex.specs.declared.scanner_state.ClassState.TheVariants as class
use Rattle.helix_regex.specs.Pattern.{End, plain, escaped, Item, single, range, set_item, dash, end_text, items_text}
use Rattle.helix_regex.specs.Meaning.{code_of}
use Rattle.helix_regex.specs.Inner.Scan.{class_kind, escape_kind, class_advance, item_advance, class_escape_advance, in_class as to_class}
use Rattle.helix_regex.proofs.Machine.{InClass, class_opened, class_first, class_items, class_one, class_dash, class_last, class_escape, class_far, ClassMove, refuse, go, done, first_move, items_move, one_move, dash_move, last_move, class_escape_move, far_move, opened_move, class_move, class_state_of}
use Rattle.helix_regex.specs.Inner.Tokens.{item_token, item_tokens, exclusion, items_at}
use Rattle.helix_regex.specs.Inner.Lexing.{option_list, lexer_next, state_after, class_escape_token, item_tokens_of, class_emitted}
use Rattle.helix_regex.proofs.ClassSound.{class_so_far, caret_text}
use Rattle.helix_regex.proofs.TokenTexts.{item_tokens-push}

-- the items of a class that are read to their ends
abbrev pub items_read : ℕ → Bool → List Item → List Token
items_read at n is = exclusion n ++ item_tokens (items_at at n) is

-- the tokens after the mark of a class that begins at an offset
abbrev pub class_tokens : ℕ → InClass → List Token
class_tokens at class_opened = []
class_tokens at class_first = token.Exclude ∷ []
class_tokens at (class_items n is) = items_read at n is
class_tokens at (class_one n is e) = items_read at n is
class_tokens at (class_dash n is e) = items_read at n is
class_tokens at (class_last n is) = items_read at n is
class_tokens at (class_escape n is) = items_read at n is
class_tokens at (class_far n is e) = items_read at n is

-- what a lexer keeps of an item that it is in, after these characters
abbrev pub ClassKept : InClass → Lexer → ℕ → Type 0
ClassKept (class_one n is e) l i = (l.first ≡ code_of e) × (l.at + length (end_text e) ≡ i)
ClassKept (class_dash n is e) l i = (l.first ≡ code_of e) × (l.at + length (end_text e) + 1 ≡ i)
ClassKept (class_far n is e) l i = (l.first ≡ code_of e) × (l.at + length (end_text e) + 2 ≡ i)
ClassKept (class_escape n is) l i = l.at + 1 ≡ i
ClassKept _ l i = Unit {0}

-- a move of a class, and the tokens after it
abbrev pub ClassLexes : ClassMove → Lexer → ℕ → ℕ → List Token → Type 0
ClassLexes refuse l at i ts = Unit {0}
ClassLexes (go k) l at i ts = ClassKept k l i × (class_tokens at k ≡ ts)
ClassLexes (done n is) l at i ts = items_read at n is ++ token.ClassEnd ∷ [] ≡ ts

-- where an item is
item_place : (at : ℕ) (n : Bool) (is : List Item)
    → items_at at n + length (items_text is) ≡ at + 1 + length (caret_text n ++ items_text is)
item_place at true is = omega (arith, length-append (caret_text true) (items_text is))
item_place at false is = omega arith

items_push : (at : ℕ) (n : Bool) (is : List Item) (i : Item)
    → items_read at n (is ++ i ∷ []) ≡ items_read at n is ++ item_token (items_at at n + length (items_text is)) i ∷ []
items_push at n is i = ap (λ t. exclusion n ++ t) (item_tokens-push is i (items_at at n))
    ∙ sym (append_assoc (exclusion n) (item_tokens (items_at at n) is)
    (item_token (items_at at n + length (items_text is)) i ∷ []))

-- the lexer in a scanner state
abbrev pub in_state : ScannerState → Lexer → Lexer
in_state m l = record { scanner_state = m; at = l.at; first = l.first; least = l.least; most = l.most }

-- after one more character
abbrev pub class_next : ClassState → ℕ → Lexer → (ℕ → ScannerState → ScannerState) → ℕ → ℕ → Lexer
class_next m before l f c i = lexer_next (in_state (scanner_state.Class m before) l)
    (f c (scanner_state.Class m before)) c i

abbrev by_item : ClassState → ClassKind → ℕ → ScannerState → ScannerState
by_item m s c old = state_after old (item_advance m s c)

abbrev by_escape : ClassState → EscapeKind → ℕ → ScannerState → ScannerState
by_escape m s c old = state_after old (class_escape_advance m s c)

opened_lexes : (s : ClassKind) (c at i before : ℕ) (l : Lexer)
    → ClassLexes (first_move false s c) (class_next class.Opened before l (by_item class.Opened s) c i) at (i + 1)
    (item_tokens_of class.Opened s l c)
opened_lexes class_is.Plain c at i before l = ((refl, refl), refl)
opened_lexes class_is.Backslash c at i before l = (refl, refl)
opened_lexes class_is.Dash c at i before l = (tt, refl)
opened_lexes _ c at i before l = tt

first_lexes : (s : ClassKind) (c at i before : ℕ) (l : Lexer)
    → ClassLexes (first_move true s c) (class_next class.First before l (by_item class.First s) c i) at (i + 1)
    (token.Exclude ∷ item_tokens_of class.First s l c)
first_lexes class_is.Plain c at i before l = ((refl, refl), refl)
first_lexes class_is.Backslash c at i before l = (refl, refl)
first_lexes class_is.Dash c at i before l = (tt, refl)
first_lexes _ c at i before l = tt

items_lexes : (n : Bool) (is : List Item) (s : ClassKind) (c at i before : ℕ) (l : Lexer)
    → ClassLexes (items_move n is s c) (class_next class.Items before l (by_item class.Items s) c i) at (i + 1)
    (items_read at n is ++ item_tokens_of class.Items s l c)
items_lexes n is class_is.Plain c at i before l = ((refl, refl), sym (append-nil (items_read at n is)))
items_lexes n is class_is.Backslash c at i before l = (refl, sym (append-nil (items_read at n is)))
items_lexes n is class_is.Dash c at i before l = (tt, sym (append-nil (items_read at n is)))
items_lexes n is class_is.Close c at i before l = refl
items_lexes n is class_is.Other c at i before l = tt

single_read : (at : ℕ) (n : Bool) (is : List Item) (e : End) (first : ℕ) → first ≡ code_of e
    → items_read at n (is ++ single e ∷ []) ≡ items_read at n is ++ token.Item first ∷ []
single_read at n is e first f = items_push at n is (single e)
    ∙ ap (λ x. items_read at n is ++ token.Item x ∷ []) (sym f)

dash_read : (at : ℕ) (n : Bool) (is : List Item)
    → items_read at n (is ++ dash ∷ []) ++ token.ClassEnd ∷ []
    ≡ items_read at n is ++ token.Item 45 ∷ token.ClassEnd ∷ []
dash_read at n is = ap (λ t. t ++ token.ClassEnd ∷ []) (items_push at n is dash)
    ∙ append_assoc (items_read at n is) (token.Item 45 ∷ []) (token.ClassEnd ∷ [])

one_lexes : (n : Bool) (is : List Item) (e : End) (s : ClassKind) (c at i before : ℕ) (l : Lexer)
    → ClassKept (class_one n is e) l i
    → ClassLexes (one_move n is e s c) (class_next class.One before l (by_item class.One s) c i) at (i + 1)
    (items_read at n is ++ item_tokens_of class.One s l c)
one_lexes n is e class_is.Dash c at i before l k = ((k.0, ap (λ x. x + 1) k.1), sym (append-nil (items_read at n is)))
one_lexes n is e class_is.Plain c at i before l k = ((refl, refl), single_read at n is e l.first k.0)
one_lexes n is e class_is.Backslash c at i before l k = (refl, single_read at n is e l.first k.0)
one_lexes n is e class_is.Close c at i before l k =
    ap (λ t. t ++ token.ClassEnd ∷ []) (single_read at n is e l.first k.0)
    ∙ append_assoc (items_read at n is) (token.Item l.first ∷ []) (token.ClassEnd ∷ [])
one_lexes n is e class_is.Other c at i before l k = tt

range_read : (at : ℕ) (n : Bool) (is : List Item) (e f : End) (first place : ℕ) → first ≡ code_of e
    → place ≡ items_at at n + length (items_text is)
    → items_read at n (is ++ range e f ∷ []) ≡ items_read at n is ++ token.Range first (code_of f) place ∷ []
range_read at n is e f first place a b = items_push at n is (range e f)
    ∙ (ap (λ x. items_read at n is ++ token.Range x (code_of f) (items_at at n + length (items_text is)) ∷ []) (sym a)
    ∙ ap (λ x. items_read at n is ++ token.Range first (code_of f) x ∷ []) (sym b))

-- where the first end of a range is
first_place : (at : ℕ) (n : Bool) (is : List Item) (t : List ℕ) (place i : ℕ) → place + length t ≡ i
    → i ≡ at + 1 + length (caret_text n ++ (items_text is ++ t)) → place ≡ items_at at n + length (items_text is)
first_place at n is t place i e f =
    let a : length (caret_text n ++ (items_text is ++ t))
    ≡ length (caret_text n) + (length (items_text is) + length t) =
    length-append (caret_text n) (items_text is ++ t)
    ∙ ap (λ x. length (caret_text n) + x) (length-append (items_text is) t) in
    let b : items_at at n + length (items_text is)
    ≡ at + 1 + (length (caret_text n) + length (items_text is)) =
    item_place at n is ∙ ap (λ x. at + 1 + x) (length-append (caret_text n) (items_text is)) in
    omega arith

dash_lexes : (n : Bool) (is : List Item) (e : End) (s : ClassKind) (c at i before : ℕ) (l : Lexer)
    → ClassKept (class_dash n is e) l i → i ≡ at + 1 + length (class_so_far (class_dash n is e))
    → ClassLexes (dash_move n is e s c) (class_next class.Dash before l (by_item class.Dash s) c i) at (i + 1)
    (items_read at n is ++ item_tokens_of class.Dash s l c)
dash_lexes n is e class_is.Plain c at i before l k p = (
  tt,
  range_read at n is e (plain c) l.first l.at k.0
      (first_place at n is (end_text e ++ 45 ∷ []) l.at i (omega (arith, k.1, length-append (end_text e) (45 ∷ []))) p),
)
dash_lexes n is e class_is.Backslash c at i before l k p =
    ((k.0, omega (arith, k.1)), sym (append-nil (items_read at n is)))
dash_lexes n is e class_is.Close c at i before l k p =
    ap (λ x. items_read at n x ++ token.ClassEnd ∷ []) (sym (append_assoc is (single e ∷ []) (dash ∷ [])))
    ∙ (dash_read at n (is ++ single e ∷ [])
    ∙ (ap (λ t. t ++ token.Item 45 ∷ token.ClassEnd ∷ []) (single_read at n is e l.first k.0)
    ∙ append_assoc (items_read at n is) (token.Item l.first ∷ []) (token.Item 45 ∷ token.ClassEnd ∷ [])))
dash_lexes n is e _ c at i before l k p = tt

last_lexes : (n : Bool) (is : List Item) (s : ClassKind) (c at i before : ℕ) (l : Lexer)
    → ClassLexes (last_move n is s) (class_next class.Last before l (by_item class.Last s) c i) at (i + 1)
    (items_read at n is ++ item_tokens_of class.Last s l c)
last_lexes n is class_is.Close c at i before l = dash_read at n is
last_lexes n is _ c at i before l = tt

escape_lexes : (n : Bool) (is : List Item) (s : EscapeKind) (c at i before : ℕ) (l : Lexer)
    → ClassKept (class_escape n is) l i
    → ClassLexes (class_escape_move n is s c) (class_next class.Escape before l (by_escape class.Escape s) c i) at
    (i + 1) (items_read at n is ++ option_list (class_escape_token class.Escape s l c))
escape_lexes n is escape_is.Itself c at i before l k = ((refl, omega (arith, k)), sym (append-nil (items_read at n is)))
escape_lexes n is escape_is.Set c at i before l k = (tt, items_push at n is (set_item c))
escape_lexes n is escape_is.Other c at i before l k = tt

far_lexes : (n : Bool) (is : List Item) (e : End) (s : EscapeKind) (c at i before : ℕ) (l : Lexer)
    → ClassKept (class_far n is e) l i → i ≡ at + 1 + length (class_so_far (class_far n is e))
    → ClassLexes (far_move n is e s c) (class_next class.FarEscape before l (by_escape class.FarEscape s) c i) at
    (i + 1) (items_read at n is ++ option_list (class_escape_token class.FarEscape s l c))
far_lexes n is e escape_is.Itself c at i before l k p = (
  tt,
  range_read at n is e (escaped c) l.first l.at k.0
      (first_place at n is (end_text e ++ 45 ∷ 92 ∷ []) l.at i (omega (
        arith,
        k.1,
        length-append (end_text e) (45 ∷ 92 ∷ []),
      )) p),
)
far_lexes n is e _ c at i before l k p = tt

opened_caret : (test : Bool) (c at i before : ℕ) (l : Lexer)
    → ClassLexes (opened_move test c) (lexer_next (in_state (scanner_state.Class class.Opened before) l)
    (state_after (scanner_state.Class class.Opened before)
    (cond test (to_class class.First c) (item_advance class.Opened (class_kind c) c))) c i) at (i + 1)
    (cond test (token.Exclude ∷ []) (item_tokens_of class.Opened (class_kind c) l c))
opened_caret true c at i before l = (tt, refl)
opened_caret false c at i before l = opened_lexes (class_kind c) c at i before l

pub class_lexes : (k : InClass) (c at i before : ℕ) (l : Lexer) → ClassKept k l i → i ≡ at + 1 + length (class_so_far k)
    → ClassLexes (class_move k c) (lexer_next (in_state (scanner_state.Class (class_state_of k) before) l)
    (state_after (scanner_state.Class (class_state_of k) before) (class_advance (class_state_of k) c)) c i) at (i + 1)
    (class_tokens at k ++ class_emitted (class_state_of k) l c)
class_lexes class_opened c at i before l k p = opened_caret (c == 94) c at i before l
class_lexes class_first c at i before l k p = first_lexes (class_kind c) c at i before l
class_lexes (class_items n is) c at i before l k p = items_lexes n is (class_kind c) c at i before l
class_lexes (class_one n is e) c at i before l k p = one_lexes n is e (class_kind c) c at i before l k
class_lexes (class_dash n is e) c at i before l k p = dash_lexes n is e (class_kind c) c at i before l k p
class_lexes (class_last n is) c at i before l k p = last_lexes n is (class_kind c) c at i before l
class_lexes (class_escape n is) c at i before l k p = escape_lexes n is (escape_kind c) c at i before l k
class_lexes (class_far n is e) c at i before l k p = far_lexes n is e (escape_kind c) c at i before l k p
