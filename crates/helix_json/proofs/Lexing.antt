-- A text of tokens that lead to a value is cut in one way.
use Rattle.std.proofs.Common.{◌≡◌, ℕ, true, Option, Some, None, List, [], ◌∷◌, ◌++◌, refl, sym, ◌∙◌, ap, subst, append_assoc}
use Rattle.std.proofs.lemmas.List.{append-nil}
use Rattle.helix_json.specs.declared.value.Json.{Json}
use Rattle.helix_json.specs.declared.value.Json as json
use Rattle.helix_json.specs.declared.token.Token.{Token}
use Rattle.helix_json.specs.declared.token.Token.TheVariants as token
use Rattle.helix_json.specs.declared.class.Mark.{Mark}
use Rattle.helix_json.specs.declared.class.Mark.TheVariants as mark
use Rattle.helix_json.specs.declared.string.StringState.TheVariants as state
use Rattle.helix_json.specs.declared.digits.NumberState.{NumberState}
use Rattle.helix_json.specs.declared.digits.NumberState.TheVariants as number
use Rattle.helix_json.specs.declared.digits.NumberCharacter.TheVariants as kind
use Rattle.helix_json.specs.Inner.NumberSteps.{kind_of, number_step, if_some, accepts}
use Rattle.helix_json.specs.Text.{AreBlanks, SpellsToken, Cuts, SpellsText}
use Rattle.helix_json.specs.Tokens.{tokens}
use Rattle.helix_json.specs.Inner.Lexer.{between, in_string, lex, on_emission, prepend, by_class, mark_token, begin_number}
use Rattle.helix_json.specs.Inner.Machine.{Reading, value, first_item, first_key, key, colon, after, Frame, in_list, in_object, run, step, on_some}
use Rattle.helix_json.proofs.Machine.{run_tokens, tokens_same}
use Rattle.helix_json.proofs.NumberGrammar.{means}
use Rattle.helix_json.proofs.NumberReading.{tail_to}
use Rattle.helix_json.proofs.Strings.{prepend_nil, chars_read}
use Rattle.helix_json.proofs.LexingNumbers.{mark_code, blank_cases, number_class, blanks_skip, EndsNumber, number_read}

-- the first token is read
abbrev pub Stops : Token → List ℕ → Type 0
Stops (token.Number n) r = EndsNumber r
Stops _ r = Unit {0}

begin_read : (c : ℕ) (cs r : List ℕ) (o : Option NumberState) → number_step number.Nothing (kind_of c) ≡ o
    → if_some o (λ next. accepts next cs) ≡ true → EndsNumber r
    → lex (c ∷ cs ++ r) between ≡ prepend (token.Number (c ∷ cs) ∷ []) (lex r between)
unfolding lex
begin_read c cs r None is e stops = cc
begin_read c cs r (Some n) is e stops =
    ap (λ k. on_emission (by_class k c) (λ l. lex (cs ++ r) l)) (number_class c (kind_of c) n (means c) is)
    ∙ (ap (λ o. on_emission (begin_number c o) (λ l. lex (cs ++ r) l)) is
    ∙ (prepend_nil _ ∙ number_read cs r (c ∷ []) n e stops))

whole_read : (text r : List ℕ) → accepts number.Nothing text ≡ true → EndsNumber r
    → lex (text ++ r) between ≡ prepend (token.Number text ∷ []) (lex r between)
unfolding accepts
whole_read [] r e stops = cc
whole_read (c ∷ cs) r e stops = begin_read c cs r (number_step number.Nothing (kind_of c)) refl e stops

four_nils : (o : Option (List Token)) → prepend [] (prepend [] (prepend [] o)) ≡ o
four_nils o = prepend_nil _ ∙ (prepend_nil _ ∙ prepend_nil o)

pub token_read : (t : Token) (piece r : List ℕ) → SpellsToken piece t → Stops t r
    → lex (piece ++ r) between ≡ prepend (t ∷ []) (lex r between)
unfolding lex
token_read token.OpenList piece r is stops = ap (λ p. lex (p ++ r) between) is
token_read token.CloseList piece r is stops = ap (λ p. lex (p ++ r) between) is
token_read token.OpenObject piece r is stops = ap (λ p. lex (p ++ r) between) is
token_read token.CloseObject piece r is stops = ap (λ p. lex (p ++ r) between) is
token_read token.Comma piece r is stops = ap (λ p. lex (p ++ r) between) is
token_read token.Colon piece r is stops = ap (λ p. lex (p ++ r) between) is
token_read token.Null piece r is stops = ap (λ p. lex (p ++ r) between) is ∙ four_nils _
token_read token.True piece r is stops = ap (λ p. lex (p ++ r) between) is ∙ four_nils _
token_read token.False piece r is stops = ap (λ p. lex (p ++ r) between) is ∙ (prepend_nil _ ∙ four_nils _)
token_read (token.Number n) piece r (is, number_is) stops =
    ap (λ p. lex (p ++ r) between) is ∙ whole_read n r (tail_to n number.Nothing number_is) stops
token_read (token.Str s) piece r (inner, is, chars) stops = ap (λ p. lex (p ++ r) between) is
    ∙ (prepend_nil _ ∙ (ap (λ l. lex l (in_string [] state.Plain)) (append_assoc inner (34 ∷ []) r)
    ∙ chars_read s inner r [] chars))

-- after a number comes a structural character
abbrev pub IsMark : Token → Type 0
IsMark t = (m : Mark) × (t ≡ mark_token m)

mark_ends : (m : Mark) (piece : List ℕ) → SpellsToken piece (mark_token m) → piece ≡ mark_code m ∷ []
mark_ends mark.OpenList piece is = is
mark_ends mark.CloseList piece is = is
mark_ends mark.OpenObject piece is = is
mark_ends mark.CloseObject piece is = is
mark_ends mark.Comma piece is = is
mark_ends mark.Colon piece is = is

mark_kind : (m : Mark) → kind_of (mark_code m) ≡ kind.Other
mark_kind mark.OpenList = refl
mark_kind mark.CloseList = refl
mark_kind mark.OpenObject = refl
mark_kind mark.CloseObject = refl
mark_kind mark.Comma = refl
mark_kind mark.Colon = refl

blanks_end : (w : List ℕ) → AreBlanks w → EndsNumber w
blanks_end [] h = tt
blanks_end (c ∷ w) h = blank_cases c h.0

blanks_end_before : (w r : List ℕ) → AreBlanks w → EndsNumber r → EndsNumber (w ++ r)
blanks_end_before [] r h e = e
blanks_end_before (c ∷ w) r h e = blank_cases c h.0

mark_follows : (m : Mark) (t : Token) (ts : List Token) (text : List ℕ) → t ≡ mark_token m → Cuts text (t ∷ ts)
    → EndsNumber text
mark_follows m t ts text e (w, piece, rest, is, blanks, spells, others) =
    let one : piece ≡ mark_code m ∷ [] = mark_ends m piece (subst (SpellsToken piece) e spells) in
    subst EndsNumber (sym is) (blanks_end_before w (piece ++ rest) blanks
    (subst (λ p. EndsNumber (p ++ rest)) (sym one) (mark_kind m)))

pub after_number : (x : Json) (fs : List Frame) (t : Token) (s : Reading) → step (after x fs) t ≡ Some s → IsMark t
after_number x [] t s e = cc
after_number x (in_list xs ∷ fs) token.Comma s e = (mark.Comma, refl)
after_number x (in_list xs ∷ fs) token.CloseList s e = (mark.CloseList, refl)
after_number x (in_list xs ∷ fs) _ s e = cc
after_number x (in_object ms k ∷ fs) token.Comma s e = (mark.Comma, refl)
after_number x (in_object ms k ∷ fs) token.CloseObject s e = (mark.CloseObject, refl)
after_number x (in_object ms k ∷ fs) _ s e = cc

led_to : (a b : Reading) → Some a ≡ Some b → a ≡ b
led_to a b e = cc

pub number_leads : (r : Reading) (n : List ℕ) (s : Reading) → step r (token.Number n) ≡ Some s
    → (x : Json) × (fs : List Frame) × (after x fs ≡ s)
number_leads (value fs) n s e = (json.Number n, fs, led_to (after (json.Number n) fs) s e)
number_leads (first_item fs) n s e = (
  json.Number n,
  in_list [] ∷ fs,
  led_to (after (json.Number n) (in_list [] ∷ fs)) s e,
)
number_leads (first_key fs) n s e = cc
number_leads (key ms fs) n s e = cc
number_leads (colon ms k fs) n s e = cc
number_leads (after x []) n s e = cc
number_leads (after x (in_list xs ∷ fs)) n s e = cc
number_leads (after x (in_object ms k ∷ fs)) n s e = cc

step_some : (o : Option Reading) (ts : List Token) (q : Reading) → on_some o (λ next. run next ts) ≡ Some q
    → (s : Reading) × (o ≡ Some s) × (run s ts ≡ Some q)
step_some None ts q e = cc
step_some (Some s) ts q e = (s, refl, e)

number_stops : (x : Json) (fs : List Frame) (ts : List Token) (rest : List ℕ) (q : Reading)
    → run (after x fs) ts ≡ Some q → Cuts rest ts → EndsNumber rest
number_stops x fs [] rest q e cuts = blanks_end rest cuts
number_stops x fs (t ∷ ts) rest q e cuts =
    let (s, is, goes) = step_some (step (after x fs) t) ts q e in
    let (m, same) = after_number x fs t s is in mark_follows m t ts rest same cuts

pub stops_after : (r : Reading) (t : Token) (s : Reading) (ts : List Token) (rest : List ℕ) (q : Reading)
    → step r t ≡ Some s → run s ts ≡ Some q → Cuts rest ts → Stops t rest
stops_after r (token.Number n) s ts rest q is goes cuts =
    let (x, fs, same) = number_leads r n s is in number_stops x fs ts rest q (ap (λ l. run l ts) same ∙ goes) cuts
stops_after r _ s ts rest q is goes cuts = tt

-- tokens that lead somewhere are read back from each text that they are cut from
pub lexes : (ts : List Token) (text : List ℕ) (r q : Reading) → run r ts ≡ Some q → Cuts text ts
    → lex text between ≡ Some ts
unfolding lex
lexes [] text r q e blanks = ap (λ l. lex l between) (sym (append-nil text)) ∙ blanks_skip text [] blanks
lexes (t ∷ ts) text r q e (w, piece, rest, is, blanks, spells, others) =
    let (s, go, goes) = step_some (step r t) ts q e in
    ap (λ l. lex l between) is ∙ (blanks_skip w (piece ++ rest) blanks
    ∙ (token_read t piece rest spells (stops_after r t s ts rest q go goes others)
    ∙ ap (prepend (t ∷ [])) (lexes ts rest s q goes others)))

pub lexes_value : (text : List ℕ) (v : Json) → SpellsText text v → lex text between ≡ Some (tokens v)
lexes_value text v spells = lexes (tokens v) text (value []) (after v []) (run_tokens v) spells

some_same : (a b : List Token) → Some a ≡ Some b → a ≡ b
some_same a b e = cc

-- a text has at most one value
pub one_value : (text : List ℕ) (v w : Json) → SpellsText text v → SpellsText text w → v ≡ w
one_value text v w a b = tokens_same v w
    (some_same (tokens v) (tokens w) (sym (lexes_value text v a) ∙ lexes_value text w b))
