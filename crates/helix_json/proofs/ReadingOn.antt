-- Between two tokens: what a character there begins.
use Rattle.std.proofs.Common.{◌≡◌, ℕ, ◌+◌, ◌≤◌, ◌<◌, true, Some, None, List, [], ◌∷◌, ◌++◌, length, take, get_or, refl, sym, ◌∙◌, ap, subst, arith}
use Rattle.std.proofs.lemmas.List.{append-nil, take_more}
use Rattle.helix_json.specs.declared.token.Token.{Token}
use Rattle.helix_json.specs.declared.token.Token.TheVariants as token
use Rattle.helix_json.specs.declared.digits.NumberState.{NumberState}
use Rattle.helix_json.specs.Broken.{IsJsonText}
use Rattle.helix_base.specs.Syntax.{IsSyntaxErrorAt}
use Rattle.helix_json.specs.Inner.NumberSteps.{kind_of, number_step, number_ends}
use Rattle.helix_json.specs.Inner.Lexer.{Lex, between, in_number, lex, prepend, on_emission, between_step, number_move, end_number, end_tokens}
use Rattle.helix_json.specs.Inner.Machine.{Reading, value, run, step}
use Rattle.helix_json.specs.Inner.Scan.{may_go, FineLex, HasRead}
use Rattle.helix_json.specs.Inner.Progress.{IsReadTo}
use Rattle.helix_json.proofs.Machine.{run-append}
use Rattle.helix_json.proofs.LexingNumbers.{with_first}
use Rattle.helix_json.proofs.Endings.{run_one}
use Rattle.helix_json.proofs.Viable.{viable, Refuses, refuses_all, read_more, read_start, prepend_both}
use Rattle.helix_json.proofs.SyntaxErrors.{fails_at}

pub read_to : (text : List ℕ) (at : ℕ) (ds : List Token) (r : Reading) → at ≤ length text
    → HasRead (take at text) ds r between → IsReadTo text at ds r
unfolding lex
read_to text at ds r within has = record {
  within = within;
  alone = ap (λ t. lex t between) (sym (append-nil (take at text))) ∙ (has.reads [] ∙ ap (λ l. Some l) (append-nil ds));
  on = λ below rest. has.reads (get_or text at 0 ∷ rest);
  leads = has.leads;
  viable = viable (take at text) ds r between has;
}

pub read_to_start : (text : List ℕ) → IsReadTo text 0 [] (value [])
read_to_start text = read_to text 0 [] (value []) (omega arith) read_start

number_goes : (c : ℕ) (rest sofar : List ℕ) (n : NumberState) → number_ends n ≡ true → number_step n (kind_of c) ≡ None
    → lex (c ∷ rest) (in_number sofar n) ≡ prepend (token.Number sofar ∷ []) (lex (c ∷ rest) between)
unfolding lex
number_goes c rest sofar n ends none = ap (λ o. on_emission (number_move sofar n o c) (λ l. lex rest l)) none
    ∙ (ap (λ b. on_emission (end_number sofar b (between_step c)) (λ l. lex rest l)) ends
    ∙ with_first (token.Number sofar) (between_step c) (λ l. lex rest l))

pub read_to_number : (text : List ℕ) (at : ℕ) (ds : List Token) (r q : Reading) (sofar : List ℕ) (n : NumberState)
    → at ≤ length text
    → HasRead (take at text) ds r (in_number sofar n) → number_ends n ≡ true
    → (at < length text → number_step n (kind_of (get_or text at 0)) ≡ None)
    → step r (token.Number sofar) ≡ Some q → IsReadTo text at (ds ++ token.Number sofar ∷ []) q
unfolding lex
read_to_number text at ds r q sofar n within has ends stops is = record {
  within = within;
  alone = ap (λ t. lex t between) (sym (append-nil (take at text)))
      ∙ (has.reads [] ∙ ap (λ b. prepend ds (end_tokens sofar b)) ends);
  on = λ below rest. has.reads (get_or text at 0 ∷ rest)
      ∙ (ap (prepend ds) (number_goes (get_or text at 0) rest sofar n ends (stops below))
      ∙ prepend_both ds (token.Number sofar ∷ []) (lex (get_or text at 0 ∷ rest) between));
  leads = run-append ds (token.Number sofar ∷ []) (value []) r has.leads ∙ run_one r q (token.Number sofar) is;
  viable = viable (take at text) ds r (in_number sofar n) has;
}

module _ (text : List ℕ) (at : ℕ) (ds : List Token) (r : Reading) (within : at < length text)
    (is_read : IsReadTo text at ds r) where
  -- one character, which ends tokens and leads on
  pub goes_on : (ts : List Token) (q : Reading) (next : Lex) → between_step (get_or text at 0) ≡ Some (ts, next)
      → run r ts ≡ Some q
      → may_go q next ≡ true → FineLex next → HasRead (take (at + 1) text) (ds ++ ts) q next
  goes_on ts q next is go may fine = subst (λ f. HasRead f (ds ++ ts) q next) (sym (take_more text at 0 within))
      (read_more (take at text) ds ts r q between next (get_or text at 0) (is_read.on within) is_read.leads is go may
      fine)

  -- one that begins a token
  pub begins : (next : Lex) → between_step (get_or text at 0) ≡ Some ([], next) → may_go r next ≡ true → FineLex next
      → HasRead (take (at + 1) text) ds r next
  begins next is may fine = subst (λ l. HasRead (take (at + 1) text) l r next) (append-nil ds)
      (goes_on [] r next is refl may fine)

  pub refused : Refuses r between (get_or text at 0) → IsSyntaxErrorAt IsJsonText text at
  refused why = fails_at text at within is_read.viable
      (refuses_all (take at text) ds r between (get_or text at 0) (is_read.on within) is_read.leads why)
