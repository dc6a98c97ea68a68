-- The syntax error of a text.
use Rattle.std.proofs.Common.{◌≡◌, ℕ, ◌+◌, ◌≤◌, ◌<◌, Some, None, List, [], ◌∷◌, ◌++◌, length, take, drop, get_or, sym, ◌∙◌, ap, subst, arith, append_assoc}
use Rattle.std.proofs.lemmas.List.{append-nil, take-append-drop, drop_more, take-take, get_or-take, length-take-le, take_all}
use Rattle.helix_json.specs.declared.value.Json.{Json}
use Rattle.helix_json.specs.declared.token.Token.{Token}
use Rattle.helix_json.specs.Text.{SpellsText}
use Rattle.helix_json.specs.Broken.{IsJsonText}
use Rattle.helix_base.specs.Syntax.{IsViablePrefix, IsSyntaxErrorAt}
use Rattle.helix_json.specs.Inner.Lexer.{Lex, between, lex, lex_end}
use Rattle.helix_json.specs.Inner.Machine.{Reading}
use Rattle.helix_json.specs.Inner.Scan.{HasRead}
use Rattle.helix_json.proofs.Viable.{viable, Refuses, refuses_all, value_tokens}

-- no text of the grammar begins so
abbrev pub NoneBegins : List ℕ → ℕ → Type 0
NoneBegins prefix c = (rest : List ℕ) (v : Json) → ¬ (SpellsText (prefix ++ c ∷ rest) v)

pub split_at : (text : List ℕ) (at : ℕ) → at < length text
    → text ≡ take at text ++ get_or text at 0 ∷ drop (at + 1) text
split_at text at within = sym (take-append-drop at text) ∙ ap (λ l. take at text ++ l) (drop_more text at 0 within)

longer : (text : List ℕ) (at more : ℕ) → at < more → more ≤ length text
    → (rest : List ℕ) × (take more text ≡ take at text ++ get_or text at 0 ∷ rest)
longer text at more below within =
    let len : length (take more text) ≡ more = length-take-le more text within in (
      drop (at + 1) (take more text),
      split_at (take more text) at (omega arith)
          ∙ (ap (λ l. l ++ get_or (take more text) at 0 ∷ drop (at + 1) (take more text))
          (take-take at more text (omega arith))
          ∙ ap (λ c. take at text ++ c ∷ drop (at + 1) (take more text)) (get_or-take more text at 0 below)),
    )

pub fails_at : (text : List ℕ) (at : ℕ) → at < length text → IsViablePrefix IsJsonText (take at text)
    → NoneBegins (take at text) (get_or text at 0) → IsSyntaxErrorAt IsJsonText text at
fails_at text at within prefix none = record {
  no_member = λ (v, spells). none (drop (at + 1) text) v (subst (λ t. SpellsText t v) (split_at text at within) spells);
  within = omega arith;
  viable = prefix;
  longest = λ more below most goes. let (rest, member) = goes in let (v, spells) = member in
      let (tail, is) = longer text at more below most in
      none (tail ++ rest) v (subst (λ t. SpellsText t v) (ap (λ l. l ++ rest) is
      ∙ append_assoc (take at text) (get_or text at 0 ∷ tail) rest) spells);
}

pub fails_at_end : (text : List ℕ) (at : ℕ) → at ≡ length text → IsViablePrefix IsJsonText (take at text)
    → ((v : Json) → ¬ (SpellsText text v)) → IsSyntaxErrorAt IsJsonText text at
fails_at_end text at is prefix none = record {
  no_member = λ (v, spells). none v spells;
  within = omega arith;
  viable = prefix;
  longest = λ more below most goes. absurd (omega arith);
}

-- inside of a token
pub token_fails : (text : List ℕ) (at : ℕ) (ds : List Token) (r : Reading) (l : Lex) → at < length text
    → HasRead (take at text) ds r l
    → Refuses r l (get_or text at 0) → IsSyntaxErrorAt IsJsonText text at
token_fails text at ds r l within has why = fails_at text at within (viable (take at text) ds r l has)
    (refuses_all (take at text) ds r l (get_or text at 0) (λ rest. has.reads (get_or text at 0 ∷ rest)) has.leads why)

pub whole_text : (text : List ℕ) (at : ℕ) → at ≡ length text → take at text ≡ text
whole_text text at is = take_all at text (omega arith)

pub token_ends : (text : List ℕ) (at : ℕ) (ds : List Token) (r : Reading) (l : Lex) → at ≡ length text
    → HasRead (take at text) ds r l
    → lex_end l ≡ None → IsSyntaxErrorAt IsJsonText text at
unfolding lex
token_ends text at ds r l is has none = fails_at_end text at is (viable (take at text) ds r l has) (λ v spells.
    let whole : take at text ++ [] ≡ text = append-nil (take at text) ∙ whole_text text at is in
    let (us, e, go) = value_tokens text [] ds r l (ap (λ t. lex t between) (sym whole)
    ∙ has.reads []) has.leads v spells in
    let f : None ≡ Some us = sym none ∙ e in cc)
