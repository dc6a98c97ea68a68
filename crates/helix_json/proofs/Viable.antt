-- What has been read and not refused can end in a value; what is refused begins none.
use Rattle.std.proofs.Common.{◌≡◌, ℕ, true, false, Option, Some, None, List, [], ◌∷◌, ◌++◌, refl, sym, ◌∙◌, ap, subst, append_assoc}
use Rattle.helix_json.specs.declared.value.Json.{Json}
use Rattle.helix_json.specs.declared.token.Token.{Token}
use Rattle.helix_json.specs.declared.token.Token.TheVariants as token
use Rattle.helix_json.specs.Text.{SpellsText}
use Rattle.helix_json.specs.Tokens.{tokens}
use Rattle.helix_json.specs.Broken.{IsJsonText}
use Rattle.helix_base.specs.Syntax.{IsViablePrefix}
use Rattle.helix_json.specs.Inner.Lexer.{Lex, between, in_string, in_number, in_word, lex, lex_step, on_emission, prepend, word_token}
use Rattle.helix_json.specs.Inner.Machine.{Reading, value, after, run, step, on_some}
use Rattle.helix_json.specs.Inner.Scan.{may_go, FineLex, HasRead}
use Rattle.helix_json.proofs.Machine.{run_tokens, run-append}
use Rattle.helix_json.proofs.TokensRead.{tokens_from}
use Rattle.helix_json.proofs.Finishes.{finish, finishes}
use Rattle.helix_json.proofs.Strings.{prepend_nil}
use Rattle.helix_json.proofs.Lexing.{lexes_value}
use Rattle.helix_json.proofs.FirstToken.{Goes}
use Rattle.helix_json.proofs.Sound.{sound, some_is}
use Rattle.helix_json.proofs.Endings.{ends, not_some, string_same, number_same}

prepend_start : (o : Option (List Token)) → o ≡ prepend [] o
prepend_start o = sym (prepend_nil o)

pub read_start : HasRead [] [] (value []) between
read_start = record { reads = λ rest. prepend_start (lex rest between); leads = refl; goes = refl; fine = tt }

-- tokens that lead to a value, read from a text, make it spell the value
pub spells_from : (text : List ℕ) (ts : List Token) (v : Json) → lex text between ≡ Some ts
    → run (value []) ts ≡ Some (after v []) → SpellsText text v
spells_from text ts v reads leads = subst (Goes between text) (sym (tokens_from ts v leads))
    (sound text between ts reads)

pub viable : (prefix : List ℕ) (ds : List Token) (r : Reading) (l : Lex) → HasRead prefix ds r l
    → IsViablePrefix IsJsonText prefix
viable prefix ds r l has =
    let (q, ts, go, text, reads) = ends r l has.goes has.fine in
    let (v, finished) = finishes q in (
      text,
      (
        v,
        spells_from (prefix ++ text) (ds ++ (ts ++ finish q)) v
            (has.reads text ∙ ap (prepend ds) reads)
            (run-append ds (ts ++ finish q) (value []) r has.leads ∙ (run-append ts (finish q) r q go ∙ finished)),
      ),
    )

pub prepend_both : (a b : List Token) (o : Option (List Token)) → prepend a (prepend b o) ≡ prepend (a ++ b) o
prepend_both a b None = refl
prepend_both a b (Some us) = ap (λ l. Some l) (sym (append_assoc a b us))

pub unprepend_all : (ds : List Token) (o : Option (List Token)) (ts : List Token) → prepend ds o ≡ Some ts
    → (us : List Token) × (o ≡ Some us) × (ts ≡ ds ++ us)
unprepend_all ds None ts e = cc
unprepend_all ds (Some us) ts e = (us, refl, sym (some_is (ds ++ us) ts e))

-- a text that goes on with a character is read as tokens, and on from that character
abbrev pub ReadsOn : List ℕ → ℕ → List Token → Lex → Type 0
ReadsOn prefix c ds l = (rest : List ℕ) → lex (prefix ++ c ∷ rest) between ≡ prepend ds (lex (c ∷ rest) l)

-- one more character
pub read_more : (prefix : List ℕ) (ds ts : List Token) (r q : Reading) (l next : Lex) (c : ℕ) → ReadsOn prefix c ds l
    → run (value []) ds ≡ Some r
    → lex_step l c ≡ Some (ts, next) → run r ts ≡ Some q → may_go q next ≡ true → FineLex next
    → HasRead (prefix ++ c ∷ []) (ds ++ ts) q next
unfolding lex
read_more prefix ds ts r q l next c reads leads is go may fine = record {
  reads = λ rest. ap (λ t. lex t between) (append_assoc prefix (c ∷ []) rest)
      ∙ (reads rest ∙ (ap (λ e. prepend ds (on_emission e (λ k. lex rest k))) is ∙ prepend_both ds ts (lex rest next)));
  leads = run-append ds ts (value []) r leads ∙ go;
  goes = may;
  fine = fine;
}

none_on : (o : Option Reading) (ts us : List Token) → on_some o (λ q. run q ts) ≡ None
    → ((q : Reading) → run q ts ≡ None → run q (ts ++ us) ≡ None)
    → on_some o (λ q. run q (ts ++ us)) ≡ None
none_on None ts us e ih = refl
none_on (Some q) ts us e ih = ih q e

none_more : (ts us : List Token) (r : Reading) → run r ts ≡ None → run r (ts ++ us) ≡ None
none_more [] us r e = cc
none_more (t ∷ ts) us r e = none_on (step r t) ts us e (λ q. none_more ts us q)

-- why a character is refused
pub data Refuses (r : Reading) (l : Lex) (c : ℕ) : Type 0 where
  no_character : lex_step l c ≡ None → Refuses r l c
  no_tokens : (ts : List Token) (next : Lex) → lex_step l c ≡ Some (ts, next) → run r ts ≡ None → Refuses r l c
  no_token : (ts : List Token) (q : Reading) (next : Lex) → lex_step l c ≡ Some (ts, next) → run r ts ≡ Some q
      → may_go q next ≡ false → Refuses r l c

-- a token that may not come there leads to no value
no_going : (q : Reading) (next : Lex) (rest : List ℕ) (us : List Token) → may_go q next ≡ false
    → lex rest next ≡ Some us → run q us ≡ None
no_going q between rest us may e = cc
no_going q (in_string sofar s) rest us may e =
    let (inner, more, string, others, split, chars, prefix, cuts) = sound rest (in_string sofar s) us e in
    ap (run q) prefix ∙ ap (λ o. on_some o (λ k. run k others))
    (not_some (step q (token.Str (sofar ++ string))) (string_same q (sofar ++ string) [] ∙ may))
no_going q (in_number sofar n) rest us may e =
    let (digits, more, others, split, ok, prefix, cuts) = sound rest (in_number sofar n) us e in
    ap (run q) prefix ∙ ap (λ o. on_some o (λ k. run k others))
    (not_some (step q (token.Number (sofar ++ digits))) (number_same q (sofar ++ digits) [] ∙ may))
no_going q (in_word w ws) rest us may e =
    let (more, others, split, prefix, cuts) = sound rest (in_word w ws) us e in
    ap (run q) prefix ∙ ap (λ o. on_some o (λ k. run k others)) (not_some (step q (word_token w)) may)

-- what the tokens of a value are, read on after some of them
pub value_tokens : (text rest : List ℕ) (ds : List Token) (r : Reading) (l : Lex)
    → lex text between ≡ prepend ds (lex rest l) → run (value []) ds ≡ Some r
    → (v : Json) → SpellsText text v → (us : List Token) × (lex rest l ≡ Some us) × (run r us ≡ Some (after v []))
value_tokens text rest ds r l reads leads v spells =
    let (us, is, prefix_is) = unprepend_all ds (lex rest l) (tokens v) (sym reads ∙ lexes_value text v spells) in
    (us, is, sym (run-append ds us (value []) r leads) ∙ (ap (run (value [])) (sym prefix_is) ∙ run_tokens v))

pub refuses_all : (prefix : List ℕ) (ds : List Token) (r : Reading) (l : Lex) (c : ℕ) → ReadsOn prefix c ds l
    → run (value []) ds ≡ Some r → Refuses r l c
    → (rest : List ℕ) (v : Json) → ¬ (SpellsText (prefix ++ c ∷ rest) v)
unfolding lex
refuses_all prefix ds r l c reads leads (no_character is) rest v spells =
    let (us, e, go) = value_tokens (prefix ++ c ∷ rest) (c ∷ rest) ds r l (reads rest) leads v spells in
    let f : None ≡ Some us = sym (ap (λ m. on_emission m (λ k. lex rest k)) is) ∙ e in cc
refuses_all prefix ds r l c reads leads (no_tokens ts next is none) rest v spells =
    let (us, e, go) = value_tokens (prefix ++ c ∷ rest) (c ∷ rest) ds r l (reads rest) leads v spells in
    let (others, f, g) = unprepend_all ts (lex rest next) us (sym (ap (λ m. on_emission m (λ k. lex rest k)) is) ∙ e) in
    let h : None ≡ Some (after v []) = sym (none_more ts others r none) ∙ (ap (run r) (sym g) ∙ go) in cc
refuses_all prefix ds r l c reads leads (no_token ts q next is led may) rest v spells =
    let (us, e, go) = value_tokens (prefix ++ c ∷ rest) (c ∷ rest) ds r l (reads rest) leads v spells in
    let (others, f, g) = unprepend_all ts (lex rest next) us (sym (ap (λ m. on_emission m (λ k. lex rest k)) is) ∙ e) in
    let h : None ≡ Some (after v []) = sym (no_going q next rest others may f)
    ∙ (sym (run-append ts others r q led) ∙ (ap (run r) (sym g) ∙ go)) in cc
