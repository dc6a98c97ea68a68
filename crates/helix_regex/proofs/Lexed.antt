-- The tokens of a prefix of a pattern.
use Rattle.std.proofs.Common.{◌≡◌, ℕ, ◌+◌, Bool, true, false, Option, Some, None, List, [], ◌∷◌, ◌++◌, length, refl, sym, ◌∙◌, ap, append_assoc, arith, length-append}
use Rattle.std.proofs.lemmas.List.{append-nil}
use Rattle.helix_regex.specs.declared.token.Token.{Token}
use Rattle.helix_regex.specs.declared.token.Token.TheVariants as token
use Rattle.helix_regex.specs.declared.lexer.Lexer.{Lexer}
use Rattle.helix_regex.specs.declared.char_kind.CharKind.{CharKind}
use Rattle.helix_regex.specs.declared.char_kind.CharKind.TheVariants as kind_is
use Rattle.helix_regex.specs.declared.char_kind.EscapeKind.{EscapeKind}
use Rattle.helix_regex.specs.declared.char_kind.EscapeKind.TheVariants as escape_is
use Rattle.helix_regex.specs.declared.char_kind.CountKind.{CountKind}
use Rattle.helix_regex.specs.declared.scanner_state.ScannerState.{ScannerState}
use Rattle.helix_regex.specs.declared.scanner_state.ScannerState.TheVariants as scanner_state
use Rattle.helix_regex.specs.Pattern.{literal, dot, escape, set, Count, star, plus, question, once, Pattern, end, bar, caret, dollar, group, opening, pattern_text}
use Rattle.helix_regex.specs.Inner.Scan.{atom_advance, count_advance}
use Rattle.helix_regex.proofs.Machine.{append, Atom, alone, piece, opened, atom, repeated, settled, Frame, Counting, count_opened, count_least, count_comma, count_most, State, outside, marked, escaping, counting, in_class, with_mark, close, settled_step, outside_step, marked_step, escape_step}
use Rattle.helix_regex.specs.Inner.Tokens.{count_token, tokens, capped}
use Rattle.helix_regex.specs.Inner.Lexing.{option_list, state_after, lexer_next, outside_token, escape_token}
use Rattle.helix_regex.proofs.Texts.{atom_text}
use Rattle.helix_regex.proofs.Sound.{frames_text, counting_text, written, with_atom}
use Rattle.helix_regex.proofs.TokenTexts.{frames_tokens, body, size, body-append, body-counted}
use Rattle.helix_regex.proofs.ClassLexed.{in_state, class_tokens, ClassKept}

-- the tokens up to a state
abbrev pub state_tokens : State → List Token
state_tokens (outside last b fs) = body fs (settled last b)
state_tokens (marked fs) = frames_tokens fs
state_tokens (escaping b fs) = body fs b
state_tokens (counting k a b fs) = body fs (append b (piece a once))
state_tokens (in_class k before b fs) = body fs b ++ token.ClassStart ∷ class_tokens (size fs b) k

-- what a lexer keeps of a state after the characters read
abbrev pub Numbers : Counting → Lexer → Type 0
Numbers count_opened l = Unit {0}
Numbers (count_least ds) l = l.least ≡ capped ds
Numbers (count_comma ds) l = l.least ≡ capped ds
Numbers (count_most ds es) l = (l.least ≡ capped ds) × (l.most ≡ capped es)

abbrev pub Kept : State → Lexer → ℕ → Type 0
Kept (counting k a b fs) l i = Numbers k l × (l.at + length (counting_text k) ≡ i)
Kept (in_class k before b fs) l i = ClassKept k l i
Kept _ l i = Unit {0}

-- a step, and the tokens after it
abbrev pub Lexes : Option State → Lexer → ℕ → List Token → Type 0
Lexes None l i ts = Unit {0}
Lexes (Some s) l i ts = Kept s l i × (state_tokens s ≡ ts)

pub joined : (f b t : List Token) → (f ++ b) ++ token.Open ∷ (t ++ token.Close ∷ [])
    ≡ ((f ++ (b ++ token.Open ∷ [])) ++ t) ++ token.Close ∷ []
joined f b t = simp append_assoc

pub close_lexes : (b : Pattern) (fs : List Frame) (l : Lexer) (i : ℕ)
    → Lexes (close b fs) l i (body fs b ++ token.Close ∷ [])
close_lexes b [] l i = tt
close_lexes b ((before, bare) ∷ fs) l i =
    let place : size fs before + length (opening bare) ≡ length (frames_text ((before, bare) ∷ fs)) =
    sym (length-append (frames_text fs ++ pattern_text before) (opening bare))
    ∙ ap length (append_assoc (frames_text fs) (pattern_text before) (opening bare)) in (
      tt,
      body-append fs before (group bare b once end)
          ∙ (ap (λ n. body fs before ++ token.Open ∷ (tokens n b ++ token.Close ∷ [])) place
          ∙ joined (frames_tokens fs) (tokens (length (frames_text fs)) before)
          (tokens (length (frames_text ((before, bare) ∷ fs))) b)),
    )

pub settled_lexes : (b : Pattern) (fs : List Frame) (s : CharKind) (c i j : ℕ) (l : Lexer) → i ≡ size fs b
    → Lexes (settled_step b fs s c) l j (body fs b ++ option_list (outside_token scanner_state.Ready s c i))
settled_lexes b fs kind_is.Literal c i j l e = (tt, body-append fs b (piece (alone (literal c)) once))
settled_lexes b fs kind_is.Dot c i j l e = (tt, body-append fs b (piece (alone dot) once))
settled_lexes b fs kind_is.Backslash c i j l e = (tt, sym (append-nil (body fs b)))
settled_lexes b fs kind_is.Caret c i j l e =
    (tt, body-append fs b (caret end) ∙ ap (λ n. body fs b ++ token.Caret n ∷ []) (sym e))
settled_lexes b fs kind_is.Dollar c i j l e =
    (tt, body-append fs b (dollar end) ∙ ap (λ n. body fs b ++ token.Dollar n ∷ []) (sym e))
settled_lexes b fs kind_is.Bar c i j l e =
    (tt, body-append fs b (bar end) ∙ ap (λ n. body fs b ++ token.Bar n ∷ []) (sym e))
settled_lexes b fs kind_is.Open c i j l e = (
  tt,
  append-nil (frames_tokens ((b, false) ∷ fs))
      ∙ sym (append_assoc (frames_tokens fs) (tokens (length (frames_text fs)) b) (token.Open ∷ [])),
)
settled_lexes b fs kind_is.Close c i j l e = close_lexes b fs l j
settled_lexes b fs kind_is.Bracket c i j l e = (tt, refl)
settled_lexes b fs kind_is.Star c i j l e = tt
settled_lexes b fs kind_is.Plus c i j l e = tt
settled_lexes b fs kind_is.Question c i j l e = tt
settled_lexes b fs kind_is.Brace c i j l e = tt
settled_lexes b fs kind_is.Other c i j l e = tt

-- where a quantifier begins
atom_end : (a : Atom) (b : Pattern) (fs : List Frame) → size fs (settled (atom a) b) ≡ size fs b + length (atom_text a)
atom_end a b fs = ap length (with_atom a b fs ∙ sym (append_assoc (frames_text fs) (pattern_text b) (atom_text a)))
    ∙ length-append (frames_text fs ++ pattern_text b) (atom_text a)

mark_lexes : (a : Atom) (b : Pattern) (fs : List Frame) (count : Count) (i : ℕ) → i ≡ size fs (settled (atom a) b)
    → body fs (settled (repeated a count) b) ≡ body fs (settled (atom a) b) ++ count_token i count ∷ []
mark_lexes a b fs count i e = body-counted fs b a count false
    ∙ ap (λ n. body fs (settled (atom a) b) ++ count_token n count ∷ []) (sym (e ∙ atom_end a b fs))

pub atom_lexes : (a : Atom) (b : Pattern) (fs : List Frame) (s : CharKind) (c i : ℕ) (l : Lexer)
    → i ≡ size fs (settled (atom a) b)
    → Lexes (outside_step (atom a) b fs s c)
    (lexer_next (in_state scanner_state.Atom l) (state_after scanner_state.Atom (atom_advance s)) c i) (i + 1)
    (body fs (settled (atom a) b) ++ option_list (outside_token scanner_state.Atom s c i))
atom_lexes a b fs kind_is.Star c i l e = (tt, mark_lexes a b fs star i e)
atom_lexes a b fs kind_is.Plus c i l e = (tt, mark_lexes a b fs plus i e)
atom_lexes a b fs kind_is.Question c i l e = (tt, mark_lexes a b fs question i e)
atom_lexes a b fs kind_is.Brace c i l e = ((tt, refl), sym (append-nil (body fs (settled (atom a) b))))
atom_lexes a b fs s c i l e = settled_lexes (settled (atom a) b) fs s c i (i + 1)
    (lexer_next (in_state scanner_state.Atom l) (state_after scanner_state.Atom (atom_advance s)) c i) e

pub repeated_lexes : (a : Atom) (count : Count) (b : Pattern) (fs : List Frame) (s : CharKind) (c i j : ℕ) (l : Lexer)
    → i ≡ size fs (settled (repeated a count) b)
    → Lexes (outside_step (repeated a count) b fs s c) l j
    (body fs (settled (repeated a count) b) ++ option_list (outside_token scanner_state.Quantified s c i))
repeated_lexes a count b fs kind_is.Question c i j l e = (
  tt,
  body-counted fs b a count true ∙ (sym (body-counted fs b a count false)
      ∙ sym (append-nil (body fs (settled (repeated a count) b)))),
)
repeated_lexes a count b fs s c i j l e = settled_lexes (settled (repeated a count) b) fs s c i j l e

pub opened_lexes : (b : Pattern) (fs : List Frame) (s : CharKind) (c i j : ℕ) (l : Lexer) → i ≡ size fs b → b ≡ end
    → Lexes (outside_step opened b fs s c) l j (body fs b ++ option_list (outside_token scanner_state.Opened s c i))
opened_lexes b fs kind_is.Question c i j l e f =
    (tt, sym (append-nil (body fs b) ∙ (ap (body fs) f ∙ append-nil (frames_tokens fs))))
opened_lexes b fs s c i j l e f = settled_lexes b fs s c i j l e

with_mark_tokens : (fs : List Frame) → frames_tokens (with_mark fs) ≡ frames_tokens fs
with_mark_tokens [] = refl
with_mark_tokens ((b, bare) ∷ fs) = refl

pub marked_lexes : (test : Bool) (fs : List Frame) (j : ℕ) (l : Lexer)
    → Lexes (marked_step test fs) l j (frames_tokens fs ++ [])
marked_lexes false fs j l = tt
marked_lexes true fs j l = (tt, ap (λ t. t ++ []) (with_mark_tokens fs))

pub escape_lexes : (b : Pattern) (fs : List Frame) (s : EscapeKind) (c j : ℕ) (l : Lexer)
    → Lexes (escape_step b fs s c) l j (body fs b ++ option_list (escape_token s c))
escape_lexes b fs escape_is.Itself c j l = (tt, body-append fs b (piece (alone (escape c)) once))
escape_lexes b fs escape_is.Set c j l = (tt, body-append fs b (piece (alone (set c)) once))
escape_lexes b fs escape_is.Other c j l = tt

-- where the `{` of a count is
pub four : (f b a k : List ℕ) → f ++ (b ++ (a ++ k)) ≡ ((f ++ b) ++ a) ++ k
four f b a k = simp append_assoc

pub count_place : (k : Counting) (a : Atom) (b : Pattern) (fs : List Frame) (i at : ℕ)
    → at + length (counting_text k) ≡ i → i ≡ length (written (counting k a b fs))
    → at ≡ size fs b + length (atom_text a)
count_place k a b fs i at e f =
    let x : length (written (counting k a b fs)) ≡ size fs b + length (atom_text a) + length (counting_text k) =
    ap length (four (frames_text fs) (pattern_text b) (atom_text a) (counting_text k))
    ∙ (length-append ((frames_text fs ++ pattern_text b) ++ atom_text a) (counting_text k)
    ∙ ap (λ n. n + length (counting_text k)) (length-append (frames_text fs ++ pattern_text b) (atom_text a))) in
    omega arith

more : (at i : ℕ) (t : List ℕ) (c : ℕ) → at + length t ≡ i → at + length (t ++ c ∷ []) ≡ i + 1
more at i t c e = omega (arith, length-append t (c ∷ []))

pub more_in : (at i d : ℕ) (t : List ℕ) (c : ℕ) → at + length (d ∷ t) ≡ i → at + length (d ∷ (t ++ c ∷ [])) ≡ i + 1
more_in at i d t c e = omega (arith, length-append t (c ∷ []))

pub more_far : (at i d e : ℕ) (s t : List ℕ) (c : ℕ) → at + length (d ∷ (s ++ e ∷ t)) ≡ i
    → at + length (d ∷ (s ++ e ∷ (t ++ c ∷ []))) ≡ i + 1
more_far at i d e s t c f = omega (
  arith,
  length-append s (e ∷ t),
  length-append s (e ∷ (t ++ c ∷ [])),
  length-append t (c ∷ []),
)

pub closes : (k : Counting) (a : Atom) (b : Pattern) (fs : List Frame) (i : ℕ) (l : Lexer) (count : Count) (t : Token)
    → Kept (counting k a b fs) l i → i ≡ length (written (counting k a b fs))
    → t ≡ count_token l.at count → body fs (settled (repeated a count) b) ≡ body fs (append b (piece a once)) ++ t ∷ []
closes k a b fs i l count t kept e f = body-counted fs b a count false
    ∙ ap (λ x. body fs (append b (piece a once)) ++ x ∷ [])
    (sym (f ∙ ap (λ n. count_token n count) (count_place k a b fs i l.at kept.1 e)))

abbrev pub count_next : ScannerState → Lexer → CountKind → ℕ → ℕ → Lexer
count_next m l s c i = lexer_next (in_state m l) (state_after m (count_advance m s)) c i
