-- Each character of a pattern ends its tokens.
use Rattle.std.proofs.Common.{◌≡◌, ℕ, ◌+◌, Bool, true, false, ◌==◌, ◌&&◌, Some, None, List, [], ◌∷◌, ◌++◌, length, refl, sym, ◌∙◌, ap, subst, append_assoc, arith, length-append, cond}
use Rattle.std.proofs.lemmas.List.{append-nil}
use Rattle.helix_regex.specs.declared.token.Token.{Token}
use Rattle.helix_regex.specs.declared.token.Token.TheVariants as token
use Rattle.helix_regex.specs.declared.lexer.Lexer.{Lexer}
use Rattle.helix_regex.specs.declared.char_kind.CountKind.{CountKind}
use Rattle.helix_regex.specs.declared.char_kind.CountKind.TheVariants as count_is
use Rattle.helix_regex.specs.declared.scanner_state.ScannerState.TheVariants as scanner_state
use Rattle.helix_regex.specs.declared.scanner_state.Advance.TheVariants as advance
use Rattle.helix_regex.specs.Pattern.{class, exactly, at_least, between, once, Pattern, pattern_text}
use Rattle.helix_regex.specs.Inner.Scan.{char_kind, escape_kind, count_kind, class_advance}
use Rattle.helix_regex.proofs.Machine.{append, Atom, alone, piece, nothing, opened, atom, repeated, Frame, Counting, count_opened, count_least, count_comma, count_most, InClass, class_opened, class_first, class_items, class_one, class_dash, class_last, class_escape, class_far, State, outside, marked, escaping, counting, in_class, count_step, ClassMove, refuse, go, done, class_move, class_step, step, scanner_state_of, class_state_of}
use Rattle.helix_regex.specs.Inner.Tokens.{exclusion, single_tokens, capped}
use Rattle.helix_regex.specs.Inner.Lexing.{option_list, state_after, lexer_next, lexer_step, count_token_in, class_emitted, emitted}
use Rattle.helix_regex.proofs.Sound.{frames_text, written, Fine}
use Rattle.helix_regex.proofs.ClassSound.{class_so_far}
use Rattle.helix_regex.proofs.TokenTexts.{body, size, body-append, capped-push}
use Rattle.helix_regex.proofs.ClassLexed.{in_state, items_read, class_tokens, ClassKept, ClassLexes, class_lexes}
use Rattle.helix_regex.specs.Inner.Lexing.{digit_or, with_digit}
use Rattle.helix_regex.proofs.Machine.{count_state}
use Rattle.helix_regex.proofs.Lexed.{state_tokens, Kept, Lexes, settled_lexes, atom_lexes, repeated_lexes, opened_lexes, marked_lexes, escape_lexes, more_in, more_far, closes, count_next}

digits_on : (s : CountKind) (a b : ℕ) → s ≡ count_is.Digit → digit_or s a b ≡ a
digits_on s a b e = ap (λ x. digit_or x a b) e

count_lexes : (k : Counting) (a : Atom) (b : Pattern) (fs : List Frame) (s : CountKind) (c i : ℕ) (l : Lexer)
    → count_kind c ≡ s
    → Kept (counting k a b fs) l i → i ≡ length (written (counting k a b fs))
    → Lexes (count_step k a b fs s c) (count_next (count_state k) l s c i) (i + 1)
    (body fs (append b (piece a once)) ++ option_list (count_token_in (count_state k) s l))
count_lexes count_opened a b fs count_is.Digit c i l g kept e =
    ((refl, more_in l.at i 123 [] c kept.1), sym (append-nil (body fs (append b (piece a once)))))
count_lexes count_opened a b fs _ c i l g kept e = tt
count_lexes (count_least ds) a b fs count_is.Digit c i l g kept e = (
  (
    digits_on (count_kind c) (with_digit l.least c) l.least g ∙ (ap (λ x. with_digit x c) kept.0 ∙ capped-push ds c),
    more_in l.at i 123 ds c kept.1,
  ),
  sym (append-nil (body fs (append b (piece a once)))),
)
count_lexes (count_least ds) a b fs count_is.Comma c i l g kept e = (
  (ap (λ x. digit_or x (with_digit l.least c) l.least) g ∙ kept.0, more_in l.at i 123 ds 44 kept.1),
  sym (append-nil (body fs (append b (piece a once)))),
)
count_lexes (count_least ds) a b fs count_is.Close c i l g kept e = (
  tt,
  closes (count_least ds) a b fs i l (exactly ds) (token.Repeat l.least (Some l.least) l.at) kept e
      (ap (λ x. token.Repeat x (Some x) l.at) kept.0),
)
count_lexes (count_least ds) a b fs count_is.Other c i l g kept e = tt
count_lexes (count_comma ds) a b fs count_is.Digit c i l g kept e =
    (((kept.0, refl), more_far l.at i 123 44 ds [] c kept.1), sym (append-nil (body fs (append b (piece a once)))))
count_lexes (count_comma ds) a b fs count_is.Close c i l g kept e = (
  tt,
  closes (count_comma ds) a b fs i l (at_least ds) (token.Repeat l.least None l.at) kept e
      (ap (λ x. token.Repeat x None l.at) kept.0),
)
count_lexes (count_comma ds) a b fs _ c i l g kept e = tt
count_lexes (count_most ds es) a b fs count_is.Digit c i l g kept e = (
  (
    (
      kept.0.0,
      digits_on (count_kind c) (with_digit l.most c) l.most g
          ∙ (ap (λ x. with_digit x c) kept.0.1 ∙ capped-push es c),
    ),
    more_far l.at i 123 44 ds es c kept.1,
  ),
  sym (append-nil (body fs (append b (piece a once)))),
)
count_lexes (count_most ds es) a b fs count_is.Close c i l g kept e = (
  tt,
  closes (count_most ds es) a b fs i l (between ds es) (token.Repeat l.least (Some l.most) l.at) kept e
      (ap (λ x. token.Repeat x (Some l.most) l.at) kept.0.0
      ∙ ap (λ x. token.Repeat (capped ds) (Some x) l.at) kept.0.1),
)
count_lexes (count_most ds es) a b fs _ c i l g kept e = tt

-- where a class's items begin
class_place : (k : InClass) (before : ℕ) (b : Pattern) (fs : List Frame) (i : ℕ)
    → i ≡ length (written (in_class k before b fs)) → i ≡ size fs b + 1 + length (class_so_far k)
class_place k before b fs i e =
    let x : length (written (in_class k before b fs)) ≡ size fs b + length (91 ∷ class_so_far k) =
    ap length (sym (append_assoc (frames_text fs) (pattern_text b) (91 ∷ class_so_far k)))
    ∙ length-append (frames_text fs ++ pattern_text b) (91 ∷ class_so_far k) in
    omega arith

class_token : (b : List Token) (x y : List Token) → b ++ token.ClassStart ∷ (x ++ y) ≡ (b ++ token.ClassStart ∷ x) ++ y
class_token b x y = sym (append_assoc b (token.ClassStart ∷ x) y)

class_closed : (fs : List Frame) (b : Pattern) (n : Bool) (is : _)
    → body fs (append b (piece (alone (class n is)) once))
    ≡ body fs b ++ token.ClassStart ∷ (items_read (size fs b) n is ++ token.ClassEnd ∷ [])
class_closed fs b n is = body-append fs b (piece (alone (class n is)) once)
    ∙ (ap (λ t. body fs b ++ t) (append-nil (single_tokens (size fs b) (class n is)))
    ∙ ap (λ t. body fs b ++ token.ClassStart ∷ t) (sym (append_assoc (exclusion n) _ (token.ClassEnd ∷ []))))

by_class : (m : ClassMove) (c i : ℕ) (b : Pattern) (fs : List Frame) (l : Lexer) (x y : List Token)
    → ClassLexes m l (size fs b) i (x ++ y)
    → Lexes (class_step false m c b fs) l i ((body fs b ++ token.ClassStart ∷ x) ++ y)
by_class refuse c i b fs l x y h = tt
by_class (go k) c i b fs l x y h = (h.0, ap (λ t. body fs b ++ token.ClassStart ∷ t) h.1 ∙ class_token (body fs b) x y)
by_class (done n is) c i b fs l x y h =
    (tt, class_closed fs b n is ∙ (ap (λ t. body fs b ++ token.ClassStart ∷ t) h ∙ class_token (body fs b) x y))

in_class_lexes : (k : InClass) (test : Bool) (before : ℕ) (b : Pattern) (fs : List Frame) (c i : ℕ) (l : Lexer)
    → ClassKept k l i → i ≡ size fs b + 1 + length (class_so_far k)
    → Lexes (class_step test (class_move k c) c b fs)
    (lexer_next (in_state (scanner_state.Class (class_state_of k) before) l)
    (state_after (scanner_state.Class (class_state_of k) before)
    (cond test advance.Refuse (class_advance (class_state_of k) c))) c i) (i + 1)
    ((body fs b ++ token.ClassStart ∷ class_tokens (size fs b) k) ++ class_emitted (class_state_of k) l c)
in_class_lexes k true before b fs c i l kept e = tt
in_class_lexes k false before b fs c i l kept e =
    by_class (class_move k c) c (i + 1) b fs _ (class_tokens (size fs b) k) (class_emitted (class_state_of k) l c)
    (class_lexes k c (size fs b) i before l kept e)

abbrev StepLexes : State → ℕ → ℕ → Lexer → Type 0
StepLexes s c i l = Lexes (step s c) (lexer_step l c i) (i + 1) (state_tokens s ++ emitted l c i)

class_emits : (k : InClass) (before : ℕ) (b : Pattern) (fs : List Frame) (c i : ℕ) (l : Lexer) → ClassKept k l i
    → i ≡ length (written (in_class k before b fs))
    → StepLexes (in_class k before b fs) c i (in_state (scanner_state.Class (class_state_of k) before) l)
class_emits class_opened before b fs c i l kept e =
    in_class_lexes class_opened (before == 38 && c == 38) before b fs c i
    (in_state (scanner_state.Class (class_state_of class_opened) before) l) kept
    (class_place class_opened before b fs i e)
class_emits class_first before b fs c i l kept e =
    in_class_lexes class_first (before == 38 && c == 38) before b fs c i
    (in_state (scanner_state.Class (class_state_of class_first) before) l) kept
    (class_place class_first before b fs i e)
class_emits (class_items n is) before b fs c i l kept e =
    in_class_lexes (class_items n is) (before == 38 && c == 38) before b fs c i
    (in_state (scanner_state.Class (class_state_of (class_items n is)) before) l) kept
    (class_place (class_items n is) before b fs i e)
class_emits (class_one n is x) before b fs c i l kept e =
    in_class_lexes (class_one n is x) (before == 38 && c == 38) before b fs c i
    (in_state (scanner_state.Class (class_state_of (class_one n is x)) before) l) kept
    (class_place (class_one n is x) before b fs i e)
class_emits (class_dash n is x) before b fs c i l kept e =
    in_class_lexes (class_dash n is x) (before == 38 && c == 38) before b fs c i
    (in_state (scanner_state.Class (class_state_of (class_dash n is x)) before) l) kept
    (class_place (class_dash n is x) before b fs i e)
class_emits (class_last n is) before b fs c i l kept e =
    in_class_lexes (class_last n is) (before == 38 && c == 38) before b fs c i
    (in_state (scanner_state.Class (class_state_of (class_last n is)) before) l) kept
    (class_place (class_last n is) before b fs i e)
class_emits (class_escape n is) before b fs c i l kept e =
    in_class_lexes (class_escape n is) (before == 38 && c == 38) before b fs c i
    (in_state (scanner_state.Class (class_state_of (class_escape n is)) before) l) kept
    (class_place (class_escape n is) before b fs i e)
class_emits (class_far n is x) before b fs c i l kept e =
    in_class_lexes (class_far n is x) (before == 38 && c == 38) before b fs c i
    (in_state (scanner_state.Class (class_state_of (class_far n is x)) before) l) kept
    (class_place (class_far n is x) before b fs i e)

step_in_state : (s : State) (c i : ℕ) (l : Lexer) → Fine s → Kept s l i → i ≡ length (written s)
    → StepLexes s c i (in_state (scanner_state_of s) l)
step_in_state (outside nothing b fs) c i l fine kept e = settled_lexes b fs (char_kind c) c i (i + 1) _ e
step_in_state (outside opened b fs) c i l fine kept e = opened_lexes b fs (char_kind c) c i (i + 1) _ e fine.2.0
step_in_state (outside (atom a) b fs) c i l fine kept e = atom_lexes a b fs (char_kind c) c i l e
step_in_state (outside (repeated a count) b fs) c i l fine kept e =
    repeated_lexes a count b fs (char_kind c) c i (i + 1) _ e
step_in_state (marked fs) c i l fine kept e = marked_lexes (c == 58) fs (i + 1) _
step_in_state (escaping b fs) c i l fine kept e = escape_lexes b fs (escape_kind c) c (i + 1) _
step_in_state (counting count_opened a b fs) c i l fine kept e =
    count_lexes count_opened a b fs (count_kind c) c i (in_state scanner_state.CountOpened l) refl kept e
step_in_state (counting (count_least ds) a b fs) c i l fine kept e =
    count_lexes (count_least ds) a b fs (count_kind c) c i (in_state scanner_state.CountLeast l) refl kept e
step_in_state (counting (count_comma ds) a b fs) c i l fine kept e =
    count_lexes (count_comma ds) a b fs (count_kind c) c i (in_state scanner_state.CountComma l) refl kept e
step_in_state (counting (count_most ds es) a b fs) c i l fine kept e =
    count_lexes (count_most ds es) a b fs (count_kind c) c i (in_state scanner_state.CountMost l) refl kept e
step_in_state (in_class k before b fs) c i l fine kept e = class_emits k before b fs c i l kept e

pub step_lexes : (s : State) (c i : ℕ) (l : Lexer) → l.scanner_state ≡ scanner_state_of s → Fine s → Kept s l i
    → i ≡ length (written s) → StepLexes s c i l
step_lexes s c i l m fine kept e = subst (StepLexes s c i) (ap (λ x. in_state x l) (sym m))
    (step_in_state s c i l fine kept e)
