-- The tokens of a text that writes a pattern.
use Rattle.std.proofs.Common.{◌≡◌, ◌≢◌, ℕ, zero, suc, ◌+◌, ◌-◌, ◌<◌, ◌≤◌, Option, Some, None, List, [], ◌∷◌, ◌++◌, length, take, drop, get_or, refl, sym, ◌∙◌, ap, subst, append_assoc, arith}
use Rattle.std.proofs.lemmas.List.{take_more, take_all, length-take-le}
use Rattle.std.proofs.Math.Seq.{take-length}
use Rattle.helix_regex.specs.declared.token.Token.{Token}
use Rattle.helix_regex.specs.declared.lexer.Lexer.{Lexer}
use Rattle.helix_regex.specs.declared.scanner_state.ScannerState.{ScannerState}
use Rattle.helix_regex.specs.declared.scanner_state.ScannerState.TheVariants as scanner_state
use Rattle.helix_regex.specs.declared.scanner_state.Advance.{Advance}
use Rattle.helix_regex.specs.declared.scanner_state.Advance.TheVariants as advance
use Rattle.helix_regex.specs.Pattern.{Pattern, Writes}
use Rattle.helix_regex.specs.Inner.Scan.{scanner_step}
use Rattle.helix_regex.proofs.Machine.{State, start, step, run, scanner_state_of}
use Rattle.helix_regex.specs.Inner.Tokens.{tokens}
use Rattle.helix_regex.specs.Inner.Lexing.{state_after, lexer_step, emitted}
use Rattle.helix_regex.proofs.Agreeing.{Agrees, agrees, depth_of}
use Rattle.helix_regex.proofs.Sound.{written, Fine, Leaves}
use Rattle.helix_regex.proofs.SoundSteps.{step_leaves}
use Rattle.helix_regex.proofs.ReadingPatterns.{reads_all, all_read, at_place, after, begin}
use Rattle.helix_regex.proofs.Scanned.{run-append, none_after, run_one, prefix_of}
use Rattle.helix_regex.proofs.Lexed.{state_tokens, Kept, Lexes}
use Rattle.helix_regex.proofs.LexedSteps.{step_lexes}

pub record Lexed (prefix : List ℕ) (l : Lexer) (ts : List Token) : Type 0 where
  pub state : State
  pub fine : Fine state
  pub reads : run start prefix ≡ Some state
  pub is : written state ≡ prefix
  pub scanner_state : l.scanner_state ≡ scanner_state_of state
  pub kept : Kept state l (length prefix)
  pub tokens : ts ≡ state_tokens state

pub lexed_start : Lexed [] (record { scanner_state = scanner_state.Ready; at = 0; first = 0; least = 0; most = 0 }) []
unfolding run
lexed_start = record {
  state = start;
  fine = (tt, tt, tt);
  reads = refl;
  is = refl;
  scanner_state = refl;
  kept = tt;
  tokens = refl;
}

some_state : (o : Option State) → o ≢ None → (t : State) × (o ≡ Some t)
some_state None h = absurd (h refl)
some_state (Some t) h = (t, refl)

-- a character of a pattern is not refused
goes_on : (codes : List ℕ) (p : Pattern) (i : ℕ) (s : State) → Writes codes p → i < length codes
    → run start (take i codes) ≡ Some s → (t : State) × (step s (get_or codes i 0) ≡ Some t)
goes_on codes p i s w lt e = some_state (step s (get_or codes i 0)) (λ none.
    let rest : List ℕ = take (length codes - (i + 1)) (drop (i + 1) codes) in
    let f : run start codes ≡ None = ap (run start) (sym (take-length codes)
    ∙ (prefix_of codes i (length codes) lt (omega arith) ∙ append_assoc (take i codes) (get_or codes i 0 ∷ []) rest))
    ∙ (run-append (take i codes) (get_or codes i 0 ∷ rest) start s e ∙ none_after s (get_or codes i 0) rest none) in
    let g : None ≡ Some (at_place (after begin p) []) = sym f ∙ (ap (run start) w.is ∙ reads_all p w.fits) in cc)

state_goes : (t : State) (a : Advance) (d : ℕ) (m : ScannerState) → Agrees (Some t) a d
    → state_after m a ≡ scanner_state_of t
state_goes t advance.Refuse d m h = absurd h
state_goes t (advance.Stay n) d m h = sym h.0
state_goes t (advance.Open n) d m h = sym h.0
state_goes t (advance.Close n) zero m h = absurd h
state_goes t (advance.Close n) (suc d) m h = sym h.0

pub lexed_next : (codes : List ℕ) (p : Pattern) (i : ℕ) (l : Lexer) (ts next : List Token) → Writes codes p
    → i < length codes → Lexed (take i codes) l ts
    → next ≡ ts ++ emitted l (get_or codes i 0) i → Lexed (take (i + 1) codes) (lexer_step l (get_or codes i 0) i) next
lexed_next codes p i l ts next w lt h e =
    let c : ℕ = get_or codes i 0 in
    let (t, is) = goes_on codes p i h.state w lt h.reads in
    let long : length (take i codes) ≡ i = length-take-le i codes (omega arith) in
    let left : Leaves (Some t) (written h.state ++ c ∷ []) = subst (λ o. Leaves o (written h.state ++ c ∷ [])) is
    (step_leaves h.state c h.fine) in
    let place : i ≡ length (written h.state) = sym (ap length h.is ∙ long) in
    let lexes : Lexes (Some t) (lexer_step l c i) (i + 1) (state_tokens h.state ++ emitted l c i) =
    subst (λ o. Lexes o (lexer_step l c i) (i + 1) (state_tokens h.state ++ emitted l c i)) is
    (step_lexes h.state c i l h.scanner_state h.fine (subst (Kept h.state l) long h.kept) place) in
    let more : take (i + 1) codes ≡ take i codes ++ c ∷ [] = take_more codes i 0 lt in
    let longer : length (take (i + 1) codes) ≡ i + 1 = length-take-le (i + 1) codes (omega arith) in
    record {
      state = t;
      fine = left.0;
      reads = ap (run start) more ∙ (run-append (take i codes) (c ∷ []) start h.state h.reads
          ∙ (run_one h.state c ∙ is));
      is = left.1 ∙ (ap (λ x. x ++ c ∷ []) h.is ∙ sym more);
      scanner_state = ap (λ m. state_after m (scanner_step m c)) h.scanner_state
          ∙ state_goes t (scanner_step (scanner_state_of h.state) c) (depth_of h.state) (scanner_state_of h.state)
          (subst (λ o. Agrees o (scanner_step (scanner_state_of h.state) c) (depth_of h.state)) is (agrees h.state c));
      kept = subst (Kept t (lexer_step l c i)) (sym longer) lexes.0;
      tokens = e ∙ (ap (λ x. x ++ emitted l c i) h.tokens ∙ sym lexes.1);
    }

same_state : (s t : State) → Some s ≡ Some t → s ≡ t
same_state s t e = cc

pub lexed_all : (codes : List ℕ) (p : Pattern) (i : ℕ) (l : Lexer) (ts : List Token) → Writes codes p → length codes ≤ i
    → Lexed (take i codes) l ts → ts ≡ tokens 0 p
lexed_all codes p i l ts w le h =
    let same : h.state ≡ at_place (after begin p) [] = same_state _ _ (sym h.reads
    ∙ (ap (run start) (take_all i codes le ∙ w.is) ∙ reads_all p w.fits)) in
    h.tokens ∙ (ap state_tokens same ∙ ap (tokens 0) (all_read p))

pub lexed_more : (codes : List ℕ) (p : Pattern) (i : ℕ) (l m : Lexer) (ts next : List Token) → Writes codes p
    → i < length codes → Lexed (take i codes) l ts
    → next ≡ ts ++ emitted l (get_or codes i 0) i → m ≡ lexer_step l (get_or codes i 0) i
    → Lexed (take (i + 1) codes) m next
lexed_more codes p i l m ts next w lt h e f =
    subst (λ x. Lexed (take (i + 1) codes) x next) (sym f) (lexed_next codes p i l ts next w lt h e)
