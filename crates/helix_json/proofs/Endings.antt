-- What is being read can end, and then a value.
use Rattle.std.proofs.Common.{◌≡◌, ℕ, ◌+◌, ◌≤◌, ◌*◌, zero, suc, Bool, true, false, ◌==◌, ◌&&◌, nat_le, nat_lt, cond, Option, Some, None, is_some, List, [], ◌∷◌, ◌++◌, codes, refl, ◌∙◌, ap, subst, arith}
use Rattle.std.proofs.lemmas.Bool.{eq-eqb, cond-true}
use Rattle.helix_json.specs.declared.value.Json.{Json}
use Rattle.helix_json.specs.declared.token.Token.{Token}
use Rattle.helix_json.specs.declared.token.Token.TheVariants as token
use Rattle.helix_json.specs.declared.class.Word.{Word}
use Rattle.helix_json.specs.declared.string.StringState.{StringState}
use Rattle.helix_json.specs.declared.string.StringState.TheVariants as state
use Rattle.helix_json.specs.declared.string.StringMove.{StringMove}
use Rattle.helix_json.specs.declared.string.StringMove.TheVariants as move
use Rattle.helix_json.specs.declared.digits.NumberState.{NumberState}
use Rattle.helix_json.specs.declared.digits.NumberState.TheVariants as number
use Rattle.helix_json.specs.Inner.NumberSteps.{accepts}
use Rattle.helix_json.specs.Inner.Lexer.{Lex, between, in_string, in_number, in_word, lex, on_emission, prepend, word_token, word_move}
use Rattle.helix_json.specs.Inner.Machine.{Reading, value, first_item, first_key, key, colon, after, Frame, in_list, in_object, run, step, on_some}
use Rattle.helix_json.specs.Inner.Scan.{may_go, FineLex}
use Rattle.helix_json.proofs.Finishes.{closers, finish}
use Rattle.helix_json.proofs.Strings.{prepend_nil, lex_go, lex_give}
use Rattle.helix_json.proofs.LexingNumbers.{EndsNumber, number_read}
use Rattle.helix_json.proofs.Lexing.{number_leads}
use Rattle.helix_json.specs.Inner.StringSteps.{Fine, string_step}

-- each string can end
abbrev pub EndsString : StringState → List ℕ → Type 0
EndsString s sofar = (piece string : List ℕ)
    × ((r : List ℕ) → lex (piece ++ r) (in_string sofar s) ≡ prepend (token.Str string ∷ []) (lex r between))

ends_plain : (sofar : List ℕ) → EndsString state.Plain sofar
unfolding lex
ends_plain sofar = (34 ∷ [], sofar, λ r. refl)

ends_go : (c : ℕ) (s next : StringState) (sofar : List ℕ) → string_step s c ≡ move.Go next → EndsString next sofar
    → EndsString s sofar
ends_go c s next sofar e (piece, string, reads) =
    (c ∷ piece, string, λ r. lex_go c (piece ++ r) sofar s next e ∙ reads r)

ends_give : (c d : ℕ) (s : StringState) (sofar : List ℕ) → string_step s c ≡ move.Give d → EndsString s sofar
ends_give c d s sofar e = let (piece, string, reads) = ends_plain (sofar ++ d ∷ []) in
    (c ∷ piece, string, λ r. lex_give c d (piece ++ r) sofar s e ∙ reads r)

ends_low : (high n v : ℕ) (sofar : List ℕ) → n ≤ 3 → EndsString (state.Low high n v) sofar
ends_low high zero v sofar few = ends_go 68 (state.Low high 0 v) (state.Low high 1 (v * 16 + 13)) sofar refl
    (ends_go 67 (state.Low high 1 (v * 16 + 13)) (state.Low high 2 ((v * 16 + 13) * 16 + 12)) sofar refl
    (ends_go 48 (state.Low high 2 ((v * 16 + 13) * 16 + 12)) (state.Low high 3 (((v * 16 + 13) * 16 + 12) * 16 + 0))
    sofar refl
    (ends_give 48 _ (state.Low high 3 (((v * 16 + 13) * 16 + 12) * 16 + 0)) sofar refl)))
ends_low high (suc zero) v sofar few = ends_go 67 (state.Low high 1 v) (state.Low high 2 (v * 16 + 12)) sofar refl
    (ends_go 48 (state.Low high 2 (v * 16 + 12)) (state.Low high 3 ((v * 16 + 12) * 16 + 0)) sofar refl
    (ends_give 48 _ (state.Low high 3 ((v * 16 + 12) * 16 + 0)) sofar refl))
ends_low high (suc (suc zero)) v sofar few = ends_go 48 (state.Low high 2 v) (state.Low high 3 (v * 16 + 0)) sofar refl
    (ends_give 48 _ (state.Low high 3 (v * 16 + 0)) sofar refl)
ends_low high (suc (suc (suc zero))) v sofar few = ends_give 48 _ (state.Low high 3 v) sofar refl
ends_low high (suc (suc (suc (suc n)))) v sofar few = absurd (omega arith)

ends_high : (high : ℕ) (sofar : List ℕ) → EndsString (state.High high) sofar
ends_high high sofar = ends_go 92 (state.High high) (state.HighBackslash high) sofar refl
    (ends_go 117 (state.HighBackslash high) (state.Low high 0 0) sofar refl (ends_low high 0 0 sofar (omega arith)))

three_by : (b : Bool) (v : ℕ) (sofar : List ℕ)
    → string_step (state.Unit 3 v) 48 ≡ cond b (move.Go (state.High (v * 16 + 0))) (move.Give (v * 16 + 0))
    → EndsString (state.Unit 3 v) sofar
three_by true v sofar e = ends_go 48 (state.Unit 3 v) (state.High (v * 16 + 0)) sofar e (ends_high (v * 16 + 0) sofar)
three_by false v sofar e = ends_give 48 (v * 16 + 0) (state.Unit 3 v) sofar e

ends_three : (v : ℕ) (sofar : List ℕ) → EndsString (state.Unit 3 v) sofar
ends_three v sofar = three_by (nat_le 0xD800 (v * 16 + 0) && nat_lt (v * 16 + 0) 0xDC00) v sofar refl

one_by : (b : Bool) (x y : StringMove) → cond (b && false) x y ≡ y
one_by true x y = refl
one_by false x y = refl

ends_one : (v : ℕ) (sofar : List ℕ) → EndsString (state.Unit 1 v) sofar
ends_one v sofar = ends_go 48 (state.Unit 1 v) (state.Unit 2 (v * 16 + 0)) sofar
    (one_by (v == 13) move.Refuse (move.Go (state.Unit 2 (v * 16 + 0))))
    (ends_go 48 (state.Unit 2 (v * 16 + 0)) (state.Unit 3 ((v * 16 + 0) * 16 + 0)) sofar refl
    (ends_three ((v * 16 + 0) * 16 + 0) sofar))

ends_unit : (n v : ℕ) (sofar : List ℕ) → n ≤ 3 → EndsString (state.Unit n v) sofar
ends_unit zero v sofar few = ends_go 48 (state.Unit 0 v) (state.Unit 1 (v * 16 + 0)) sofar refl
    (ends_one (v * 16 + 0) sofar)
ends_unit (suc zero) v sofar few = ends_one v sofar
ends_unit (suc (suc zero)) v sofar few =
    ends_go 48 (state.Unit 2 v) (state.Unit 3 (v * 16 + 0)) sofar refl (ends_three (v * 16 + 0) sofar)
ends_unit (suc (suc (suc zero))) v sofar few = ends_three v sofar
ends_unit (suc (suc (suc (suc n)))) v sofar few = absurd (omega arith)

pub ends_string : (s : StringState) (sofar : List ℕ) → Fine s → EndsString s sofar
ends_string state.Plain sofar fine = ends_plain sofar
ends_string state.Backslash sofar fine = ends_give 34 34 state.Backslash sofar refl
ends_string (state.Unit n v) sofar fine = ends_unit n v sofar fine.few
ends_string (state.High high) sofar fine = ends_high high sofar
ends_string (state.HighBackslash high) sofar fine =
    ends_go 117 (state.HighBackslash high) (state.Low high 0 0) sofar refl (ends_low high 0 0 sofar (omega arith))
ends_string (state.Low high n v) sofar fine = ends_low high n v sofar fine.1.few

-- each number can end
number_end : (n : NumberState) → (digits : List ℕ) × (accepts n digits ≡ true)
unfolding accepts
number_end number.Nothing = (48 ∷ [], refl)
number_end number.Minus = (48 ∷ [], refl)
number_end number.Zero = ([], refl)
number_end number.Whole = ([], refl)
number_end number.Point = (48 ∷ [], refl)
number_end number.Fraction = ([], refl)
number_end number.Mark = (48 ∷ [], refl)
number_end number.Sign = (48 ∷ [], refl)
number_end number.Exponent = ([], refl)

pub word_step : (w : Word) (d e : ℕ) (es : List ℕ) → word_move w d (d ∷ e ∷ es) ≡ Some ([], in_word w (e ∷ es))
word_step w d e es = cond-true (d == d) _ _ (eq-eqb d d refl)

word_last : (w : Word) (d : ℕ) → word_move w d (d ∷ []) ≡ Some (word_token w ∷ [], between)
word_last w d = cond-true (d == d) _ _ (eq-eqb d d refl)

pub word_read : (w : Word) (d : ℕ) (ds r : List ℕ)
    → lex (d ∷ ds ++ r) (in_word w (d ∷ ds)) ≡ prepend (word_token w ∷ []) (lex r between)
unfolding lex
word_read w d [] r = ap (λ m. on_emission m (λ l. lex r l)) (word_last w d)
word_read w d (e ∷ ds) r = ap (λ m. on_emission m (λ l. lex (e ∷ ds ++ r) l)) (word_step w d e ds)
    ∙ (prepend_nil _ ∙ word_read w e ds r)

-- a text of what can follow
abbrev closing_text : List Frame → List ℕ
closing_text [] = []
closing_text (in_list xs ∷ fs) = 93 ∷ closing_text fs
closing_text (in_object ms k ∷ fs) = 125 ∷ closing_text fs

abbrev finish_text : Reading → List ℕ
finish_text (value fs) = codes "null" ++ closing_text fs
finish_text (first_item fs) = 93 ∷ closing_text fs
finish_text (first_key fs) = 125 ∷ closing_text fs
finish_text (key ms fs) = codes "\"\":null}" ++ closing_text fs
finish_text (colon ms k fs) = codes ":null}" ++ closing_text fs
finish_text (after x fs) = closing_text fs

closing_read : (fs : List Frame) → lex (closing_text fs) between ≡ Some (closers fs)
unfolding lex
closing_read [] = refl
closing_read (in_list xs ∷ fs) = ap (prepend (token.CloseList ∷ [])) (closing_read fs)
closing_read (in_object ms k ∷ fs) = ap (prepend (token.CloseObject ∷ [])) (closing_read fs)

null_text : (o : Option (List Token)) (ts : List Token) → o ≡ Some ts
    → prepend [] (prepend [] (prepend [] (prepend (token.Null ∷ []) o))) ≡ Some (token.Null ∷ ts)
null_text o ts e = ap (λ x. prepend [] (prepend [] (prepend [] (prepend (token.Null ∷ []) x)))) e

finish_read : (r : Reading) → lex (finish_text r) between ≡ Some (finish r)
unfolding lex
finish_read (value fs) = null_text _ _ (closing_read fs)
finish_read (first_item fs) = ap (prepend (token.CloseList ∷ [])) (closing_read fs)
finish_read (first_key fs) = ap (prepend (token.CloseObject ∷ [])) (closing_read fs)
finish_read (key ms fs) = ap (λ x. prepend [] (prepend (token.Str [] ∷ []) (prepend (token.Colon ∷ []) x)))
    (null_text _ _ (ap (prepend (token.CloseObject ∷ [])) (closing_read fs)))
finish_read (colon ms k fs) = ap (prepend (token.Colon ∷ []))
    (null_text _ _ (ap (prepend (token.CloseObject ∷ [])) (closing_read fs)))
finish_read (after x fs) = closing_read fs

closing_ends : (fs : List Frame) → EndsNumber (closing_text fs)
closing_ends [] = tt
closing_ends (in_list xs ∷ fs) = refl
closing_ends (in_object ms k ∷ fs) = refl

is_some_some : (o : Option Reading) → is_some o ≡ true → (q : Reading) × (o ≡ Some q)
is_some_some None e = cc
is_some_some (Some q) e = (q, refl)

pub not_some : (o : Option Reading) → is_some o ≡ false → o ≡ None
not_some None e = refl
not_some (Some q) e = cc

-- which string it is, and which number, does not matter
pub string_same : (r : Reading) (s t : List ℕ) → is_some (step r (token.Str s)) ≡ is_some (step r (token.Str t))
string_same (value fs) s t = refl
string_same (first_item fs) s t = refl
string_same (first_key fs) s t = refl
string_same (key ms fs) s t = refl
string_same (colon ms k fs) s t = refl
string_same (after x []) s t = refl
string_same (after x (in_list xs ∷ fs)) s t = refl
string_same (after x (in_object ms k ∷ fs)) s t = refl

pub number_same : (r : Reading) (s t : List ℕ) → is_some (step r (token.Number s)) ≡ is_some (step r (token.Number t))
number_same (value fs) s t = refl
number_same (first_item fs) s t = refl
number_same (first_key fs) s t = refl
number_same (key ms fs) s t = refl
number_same (colon ms k fs) s t = refl
number_same (after x []) s t = refl
number_same (after x (in_list xs ∷ fs)) s t = refl
number_same (after x (in_object ms k ∷ fs)) s t = refl

-- the token that is being read can end, and then the value
abbrev pub Ends : Reading → Lex → Type 0
Ends r l = (q : Reading) × (ts : List Token) × (run r ts ≡ Some q) × (text : List ℕ)
    × (lex text l ≡ Some (ts ++ finish q))

pub run_one : (r q : Reading) (t : Token) → step r t ≡ Some q → run r (t ∷ []) ≡ Some q
run_one r q t e = ap (λ o. on_some o (λ next. run next [])) e

ends_after : (q : Reading) (x : Json) (fs : List Frame) → after x fs ≡ q → EndsNumber (finish_text q)
ends_after q x fs e = subst (λ l. EndsNumber (finish_text l)) e (closing_ends fs)

pub ends : (r : Reading) (l : Lex) → may_go r l ≡ true → FineLex l → Ends r l
ends r between go fine = (r, [], refl, finish_text r, finish_read r)
ends r (in_string sofar s) go fine =
    let (piece, string, reads) = ends_string s sofar fine in
    let (q, is) = is_some_some (step r (token.Str string)) (string_same r string [] ∙ go) in (
      q,
      token.Str string ∷ [],
      run_one r q (token.Str string) is,
      piece ++ finish_text q,
      reads (finish_text q) ∙ ap (prepend (token.Str string ∷ [])) (finish_read q),
    )
ends r (in_number sofar n) go fine =
    let (digits, ok) = number_end n in
    let (q, is) = is_some_some (step r (token.Number (sofar ++ digits))) (number_same r (sofar ++ digits) [] ∙ go) in
    let (x, fs, same) = number_leads r (sofar ++ digits) q is in (
      q,
      token.Number (sofar ++ digits) ∷ [],
      run_one r q (token.Number (sofar ++ digits)) is,
      digits ++ finish_text q,
      number_read digits (finish_text q) sofar n ok (ends_after q x fs same)
          ∙ ap (prepend (token.Number (sofar ++ digits) ∷ [])) (finish_read q),
    )
ends r (in_word w []) go fine = absurd (fine refl)
ends r (in_word w (d ∷ ds)) go fine =
    let (q, is) = is_some_some (step r (word_token w)) go in (
      q,
      word_token w ∷ [],
      run_one r q (word_token w) is,
      d ∷ ds ++ finish_text q,
      word_read w d ds (finish_text q) ∙ ap (prepend (word_token w ∷ [])) (finish_read q),
    )
