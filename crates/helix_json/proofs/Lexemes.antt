-- One character more of a token.
use Rattle.std.proofs.Common.{◌≡◌, ℕ, ◌+◌, ◌-◌, ◌≤◌, ◌<◌, true, false, Some, None, List, [], ◌∷◌, ◌++◌, length, take, drop, get_or, slice_range, IsTrue, refl, sym, ◌∙◌, ap, subst, arith}
use Rattle.std.proofs.lemmas.List.{append-nil, take_more, get_or-drop, length-drop}
use Rattle.helix_json.specs.declared.token.Token.{Token}
use Rattle.helix_json.specs.declared.token.Token.TheVariants as token
use Rattle.helix_json.specs.declared.string.StringState.{StringState}
use Rattle.helix_json.specs.declared.string.StringState.TheVariants as state
use Rattle.helix_json.specs.declared.string.StringMove.TheVariants as move
use Rattle.helix_json.specs.declared.digits.NumberState.{NumberState}
use Rattle.helix_json.specs.Broken.{IsJsonText}
use Rattle.helix_base.specs.Syntax.{IsSyntaxErrorAt}
use Rattle.helix_json.specs.Inner.NumberSteps.{kind_of, number_step, number_ends}
use Rattle.helix_json.specs.Inner.StringSteps.{Fine, string_step}
use Rattle.helix_json.specs.Inner.Lexer.{Lex, between, in_string, in_number, lex_step, string_move, number_move, end_number, end_tokens, between_step}
use Rattle.helix_json.specs.Inner.Machine.{Reading, step}
use Rattle.helix_json.specs.Inner.Scan.{may_go, FineLex, HasRead}
use Rattle.helix_json.specs.Inner.Lexeme.{ReadsNumber}
use Rattle.helix_base.specs.Inner.ScalarLaws.{scalar_at}
use Rattle.std.specs.Str.{all_scalars}
use Rattle.helix_json.proofs.StringSafe.{go_fine}
use Rattle.helix_json.proofs.Endings.{run_one}
use Rattle.helix_json.proofs.Viable.{read_more, no_character}
use Rattle.helix_json.proofs.SyntaxErrors.{token_fails, token_ends}

module _ (text : List ℕ) (at : ℕ) (ds : List Token) (r : Reading) (l : Lex) (within : at < length text)
    (has : HasRead (take at text) ds r l) where
  pub inside_more : (next : Lex) → lex_step l (get_or text at 0) ≡ Some ([], next) → may_go r next ≡ true → FineLex next
      → HasRead (take (at + 1) text) ds r next
  inside_more next is may fine = subst (λ d. HasRead (take (at + 1) text) d r next) (append-nil ds)
      (subst (λ f. HasRead f (ds ++ []) r next) (sym (take_more text at 0 within))
      (read_more (take at text) ds [] r r l next (get_or text at 0) (λ rest. has.reads (get_or text at 0 ∷ rest))
      has.leads is refl may fine))

  pub inside_ends : (t : Token) (q : Reading) → lex_step l (get_or text at 0) ≡ Some (t ∷ [], between)
      → step r t ≡ Some q → HasRead (take (at + 1) text) (ds ++ t ∷ []) q between
  inside_ends t q is go = subst (λ f. HasRead f (ds ++ t ∷ []) q between) (sym (take_more text at 0 within))
      (read_more (take at text) ds (t ∷ []) r q l between (get_or text at 0)
      (λ rest. has.reads (get_or text at 0 ∷ rest)) has.leads is (run_one r q t go) refl tt)

-- strings
module _ (text : List ℕ) (at : ℕ) (ds : List Token) (r : Reading) (sofar : List ℕ) (s : StringState)
    (has : HasRead (take at text) ds r (in_string sofar s)) where
  pub string_goes : at < length text → (next : StringState) → Fine next
      → move.Go next ≡ string_step s (get_or text at 0) → HasRead (take (at + 1) text) ds r (in_string sofar next)
  string_goes within next fine is = inside_more text at ds r (in_string sofar s) within has (in_string sofar next)
      (ap (string_move sofar) (sym is)) has.goes fine

  pub string_gives : at < length text → (d : ℕ) → move.Give d ≡ string_step s (get_or text at 0)
      → HasRead (take (at + 1) text) ds r (in_string (sofar ++ d ∷ []) state.Plain)
  string_gives within d is = inside_more text at ds r (in_string sofar s) within has
      (in_string (sofar ++ d ∷ []) state.Plain) (ap (string_move sofar) (sym is)) has.goes tt

  pub string_closes : at < length text → (q : Reading) → move.Close ≡ string_step s (get_or text at 0)
      → step r (token.Str sofar) ≡ Some q
      → HasRead (take (at + 1) text) (ds ++ token.Str sofar ∷ []) q between
  string_closes within q is go = inside_ends text at ds r (in_string sofar s) within has (token.Str sofar) q
      (ap (string_move sofar) (sym is)) go

  pub string_refuses : at < length text → move.Refuse ≡ string_step s (get_or text at 0)
      → IsSyntaxErrorAt IsJsonText text at
  string_refuses within is = token_fails text at ds r (in_string sofar s) within has
      (no_character (ap (string_move sofar) (sym is)))

  pub string_stops : at ≡ length text → IsSyntaxErrorAt IsJsonText text at
  string_stops is = token_ends text at ds r (in_string sofar s) is has refl

-- numbers
pub slice_more : (text : List ℕ) (from at : ℕ) → from ≤ at → at < length text
    → slice_range text from (at + 1) ≡ slice_range text from at ++ get_or text at 0 ∷ []
slice_more text from at low within =
    let size : length (drop from text) ≡ length text - from = length-drop from text in
    let one : at + 1 - from ≡ (at - from) + 1 = omega arith in
    let same : from + (at - from) ≡ at = omega arith in
    ap (λ n. take n (drop from text)) one ∙ (take_more (drop from text) (at - from) 0 (omega arith)
    ∙ ap (λ c. take (at - from) (drop from text) ++ c ∷ []) (get_or-drop from text (at - from) 0
    ∙ ap (λ i. get_or text i 0) same))

module _ (text : List ℕ) (at : ℕ) (ds : List Token) (r : Reading) (sofar : List ℕ) (n : NumberState)
    (has : HasRead (take at text) ds r (in_number sofar n)) where
  pub number_goes : at < length text → (next : NumberState) → number_step n (kind_of (get_or text at 0)) ≡ Some next
      → HasRead (take (at + 1) text) ds r (in_number (sofar ++ get_or text at 0 ∷ []) next)
  number_goes within next is = inside_more text at ds r (in_number sofar n) within has
      (in_number (sofar ++ get_or text at 0 ∷ []) next)
      (ap (λ o. number_move sofar n o (get_or text at 0)) is) has.goes tt

  pub number_refuses : at < length text → number_step n (kind_of (get_or text at 0)) ≡ None → number_ends n ≡ false
      → IsSyntaxErrorAt IsJsonText text at
  number_refuses within is ends = token_fails text at ds r (in_number sofar n) within has
      (no_character (ap (λ o. number_move sofar n o (get_or text at 0)) is
      ∙ ap (λ b. end_number sofar b (between_step (get_or text at 0))) ends))

  pub number_stops : at ≡ length text → number_ends n ≡ false → IsSyntaxErrorAt IsJsonText text at
  number_stops is ends = token_ends text at ds r (in_number sofar n) is has (ap (end_tokens sofar) ends)

-- for the loop that reads a number
pub number_on : (text : List ℕ) (i at : ℕ) (ds : List Token) (r : Reading) (n next : NumberState) → at ≤ i
    → i < length text
    → number_step n (kind_of (get_or text i 0)) ≡ Some next
    → HasRead (take i text) ds r (in_number (slice_range text at i) n)
    → HasRead (take (i + 1) text) ds r (in_number (slice_range text at (i + 1)) next)
number_on text i at ds r n next low within is has =
    subst (λ t. HasRead (take (i + 1) text) ds r (in_number t next)) (sym (slice_more text at i low within))
    (number_goes text i ds r (slice_range text at i) n has within next is)

pub number_end : (text : List ℕ) (from i : ℕ) (first last : NumberState) → i ≡ length text → from ≤ i
    → ((at : ℕ) (ds : List Token) (r : Reading) → at < from
    → HasRead (take from text) ds r (in_number (slice_range text at from) first)
    → HasRead (take i text) ds r (in_number (slice_range text at i) last))
    → ReadsNumber text from first last (length text)
number_end text from i first last is low reads = record {
  forth = omega arith;
  within = omega arith;
  reads = λ at ds r below has. subst (λ k. HasRead (take k text) ds r (in_number (slice_range text at k) last)) is
      (reads at ds r below has);
  stops = λ more. absurd (omega arith);
}

-- for the loop that reads a string
abbrev pub StringSoFar : List ℕ → ℕ → ℕ → List ℕ → StringState → Type 0
StringSoFar text from i sofar s = Fine s
    × ((ds : List Token) (r : Reading) → HasRead (take from text) ds r (in_string [] state.Plain)
    → HasRead (take i text) ds r (in_string sofar s))

module _ (text : List ℕ) (from i : ℕ) (sofar : List ℕ) (s : StringState) (scalars : IsTrue (all_scalars text))
    (within : i < length text) (so_far : StringSoFar text from i sofar s) where
  pub string_went : (same : List ℕ) (now next : StringState) → move.Go next ≡ string_step s (get_or text i 0)
      → same ≡ sofar → now ≡ next → StringSoFar text from (i + 1) same now
  string_went same now next is text_is state_is =
      let fine : Fine next = go_fine s next (get_or text i 0) so_far.0 (scalar_at text i scalars within) is in
      subst (λ t. StringSoFar text from (i + 1) t now) (sym text_is)
      (subst (λ n. StringSoFar text from (i + 1) sofar n) (sym state_is)
      (fine, λ ds r has. string_goes text i ds r sofar s (so_far.1 ds r has) within next fine is))

  pub string_gave : (more : List ℕ) (now : StringState) (d : ℕ) → move.Give d ≡ string_step s (get_or text i 0)
      → more ≡ sofar ++ d ∷ [] → now ≡ state.Plain
      → StringSoFar text from (i + 1) more now
  string_gave more now d is text_is state_is =
      subst (λ t. StringSoFar text from (i + 1) t now) (sym text_is)
      (subst (λ n. StringSoFar text from (i + 1) (sofar ++ d ∷ []) n) (sym state_is)
      (tt, λ ds r has. string_gives text i ds r sofar s (so_far.1 ds r has) within d is))
