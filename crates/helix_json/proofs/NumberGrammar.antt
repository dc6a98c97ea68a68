-- Numbers read one character after the other are the numbers of the grammar.
use Rattle.std.proofs.Common.{◌≡◌, ◌≢◌, ℕ, ◌≤◌, ◌⊎◌, inl, inr, List, [], ◌∷◌, ◌++◌, true, false, IsTrue, ◌==◌, nat_le, ◌&&◌, ◌||◌, refl, ap, arith}
use Rattle.helix_json.specs.declared.digits.NumberState.{NumberState}
use Rattle.helix_json.specs.declared.digits.NumberState.TheVariants as state
use Rattle.helix_json.specs.declared.digits.NumberCharacter.{NumberCharacter}
use Rattle.helix_json.specs.declared.digits.NumberCharacter.TheVariants as kind
use Rattle.helix_json.specs.Numbers.{Exponent, no_exponent, power, Sign, plus, minus, no_sign, IsWhole, IsExponent, fraction_text, exponent_text, sign_text, IsNumber}
use Rattle.helix_base.specs.Digits.{is_digit, AreDigits}
use Rattle.helix_json.specs.Inner.NumberSteps.{kind_of, number_step, number_ends, if_some, accepts}
use Rattle.helix_json.proofs.Choices.{choose}
use Rattle.std.proofs.lemmas.Bool.{and_parts, or_cases, eqb-true, leb-true}
use Rattle.helix_base.specs.Inner.DigitLaws.{digit_within}

-- what a kind says of a character
abbrev pub Means : NumberCharacter → ℕ → Type 0
Means kind.Zero c = c ≡ 48
Means kind.Digit c = (49 ≤ c) × (c ≤ 57)
Means kind.Plus c = c ≡ 43
Means kind.Minus c = c ≡ 45
Means kind.Point c = c ≡ 46
Means kind.Mark c = (c ≡ 69) ⊎ (c ≡ 101)
Means kind.Other c = Unit {0}

pub means : (c : ℕ) → Means (kind_of c) c
means c =
    choose (λ k. Means k c) (c == 48) _ _ (λ e. eqb-true _ _ e) (λ _.
    choose (λ k. Means k c) (nat_le 49 c && nat_le c 57) _ _ (λ e. let h : (nat_le 49 c ≡ true)
    × (nat_le c 57 ≡ true) = and_parts _ _ e in (leb-true _ _ h.0, leb-true _ _ h.1)) (λ _.
    choose (λ k. Means k c) (c == 43) _ _ (λ e. eqb-true _ _ e) (λ _.
    choose (λ k. Means k c) (c == 45) _ _ (λ e. eqb-true _ _ e) (λ _.
    choose (λ k. Means k c) (c == 46) _ _ (λ e. eqb-true _ _ e) (λ _.
    choose (λ k. Means k c) (c == 69 || c == 101) _ _
    (λ e. elim (or_cases _ _ e) [ inl f ↦ inl (eqb-true _ _ f) | inr f ↦ inr (eqb-true _ _ f) ]) (λ _. tt))))))

-- what may follow a state
abbrev pub Tail : NumberState → List ℕ → Type 0
Tail state.Nothing text = IsNumber text
Tail state.Minus text = (whole fraction : List ℕ) × (exponent : Exponent)
    × (text ≡ whole ++ (fraction_text fraction ++ exponent_text exponent)) × IsWhole whole × AreDigits fraction
    × IsExponent exponent
Tail state.Zero text = (fraction : List ℕ) × (exponent : Exponent)
    × (text ≡ fraction_text fraction ++ exponent_text exponent) × AreDigits fraction × IsExponent exponent
Tail state.Whole text = (whole fraction : List ℕ) × (exponent : Exponent)
    × (text ≡ whole ++ (fraction_text fraction ++ exponent_text exponent)) × AreDigits whole × AreDigits fraction
    × IsExponent exponent
Tail state.Point text = (fraction : List ℕ) × (exponent : Exponent) × (text ≡ fraction ++ exponent_text exponent)
    × (fraction ≢ []) × AreDigits fraction × IsExponent exponent
Tail state.Fraction text = (fraction : List ℕ) × (exponent : Exponent) × (text ≡ fraction ++ exponent_text exponent)
    × AreDigits fraction × IsExponent exponent
Tail state.Mark text = (sign : Sign) × (digits : List ℕ) × (text ≡ sign_text sign ++ digits) × (digits ≢ [])
    × AreDigits digits
Tail state.Sign text = (text ≢ []) × AreDigits text
Tail state.Exponent text = AreDigits text

pub some_cons : (c : ℕ) (cs : List ℕ) → (c ∷ cs) ≢ []
some_cons c cs e = cc

-- the end
ends : (s : NumberState) → number_ends s ≡ true → Tail s []
ends state.Zero e = ([], no_exponent, refl, tt, tt)
ends state.Whole e = ([], [], no_exponent, refl, tt, tt, tt)
ends state.Fraction e = ([], no_exponent, refl, tt, tt)
ends state.Exponent e = tt
ends state.Nothing e = cc
ends state.Minus e = cc
ends state.Point e = cc
ends state.Mark e = cc
ends state.Sign e = cc

pub true_not_false : true ≢ false
true_not_false e = cc

digit_from : (c : ℕ) → (49 ≤ c) × (c ≤ 57) → IsTrue (is_digit c)
digit_from c h = digit_within c (omega (arith, h.0)) h.1

zero_digit : (c : ℕ) → c ≡ 48 → IsTrue (is_digit c)
zero_digit c e = digit_within c (omega arith) (omega arith)

-- one more first character
number_from : (text : List ℕ) → Tail state.Minus text → IsNumber text
number_from text (whole, fraction, exponent, is, w, f, e) = (
  record { negative = false; whole = whole; fraction = fraction; exponent = exponent },
  record { are = record { whole = w; fraction = f; exponent = e }; is = is },
)

negative_from : (c : ℕ) (cs : List ℕ) → c ≡ 45 → Tail state.Minus cs → IsNumber (c ∷ cs)
negative_from c cs m (whole, fraction, exponent, is, w, f, e) = (
  record { negative = true; whole = whole; fraction = fraction; exponent = exponent },
  record { are = record { whole = w; fraction = f; exponent = e }; is = cc },
)

minus_zero : (c : ℕ) (cs : List ℕ) → c ≡ 48 → Tail state.Zero cs → Tail state.Minus (c ∷ cs)
minus_zero c cs m (fraction, exponent, is, f, e) =
    (c ∷ [], fraction, exponent, ap (λ t. c ∷ t) is, (zero_digit c m, tt, λ _. refl), f, e)

minus_digit : (c : ℕ) (cs : List ℕ) → (49 ≤ c) × (c ≤ 57) → Tail state.Whole cs → Tail state.Minus (c ∷ cs)
minus_digit c cs m (whole, fraction, exponent, is, w, f, e) =
    (c ∷ whole, fraction, exponent, ap (λ t. c ∷ t) is, (digit_from c m, w, λ z. absurd (omega arith)), f, e)

whole_digit : (c : ℕ) (cs : List ℕ) → IsTrue (is_digit c) → Tail state.Whole cs → Tail state.Whole (c ∷ cs)
whole_digit c cs m (whole, fraction, exponent, is, w, f, e) =
    (c ∷ whole, fraction, exponent, ap (λ t. c ∷ t) is, (m, w), f, e)

whole_from : (text : List ℕ) → Tail state.Zero text → Tail state.Whole text
whole_from text (fraction, exponent, is, f, e) = ([], fraction, exponent, is, tt, f, e)

zero_point : (c : ℕ) (cs : List ℕ) → c ≡ 46 → Tail state.Point cs → Tail state.Zero (c ∷ cs)
zero_point c cs m ([], last, is, some, f, e) = absurd (some refl)
zero_point c cs m (d ∷ ds, last, is, some, f, e) = (d ∷ ds, last, cc, f, e)

zero_mark : (c : ℕ) (cs : List ℕ) → (c ≡ 69) ⊎ (c ≡ 101) → Tail state.Mark cs → Tail state.Zero (c ∷ cs)
zero_mark c cs m (sign, digits, is, some, d) = ([], power c sign digits, ap (λ t. c ∷ t) is, tt, (m, some, d))

point_digit : (c : ℕ) (cs : List ℕ) → IsTrue (is_digit c) → Tail state.Fraction cs → Tail state.Point (c ∷ cs)
point_digit c cs m (fraction, exponent, is, f, e) =
    (c ∷ fraction, exponent, ap (λ t. c ∷ t) is, some_cons c fraction, (m, f), e)

fraction_digit : (c : ℕ) (cs : List ℕ) → IsTrue (is_digit c) → Tail state.Fraction cs → Tail state.Fraction (c ∷ cs)
fraction_digit c cs m (fraction, exponent, is, f, e) = (c ∷ fraction, exponent, ap (λ t. c ∷ t) is, (m, f), e)

fraction_mark : (c : ℕ) (cs : List ℕ) → (c ≡ 69) ⊎ (c ≡ 101) → Tail state.Mark cs → Tail state.Fraction (c ∷ cs)
fraction_mark c cs m (sign, digits, is, some, d) = ([], power c sign digits, ap (λ t. c ∷ t) is, tt, (m, some, d))

mark_plus : (c : ℕ) (cs : List ℕ) → c ≡ 43 → Tail state.Sign cs → Tail state.Mark (c ∷ cs)
mark_plus c cs m (some, d) = (plus, cs, ap (λ k. k ∷ cs) m, some, d)

mark_minus : (c : ℕ) (cs : List ℕ) → c ≡ 45 → Tail state.Sign cs → Tail state.Mark (c ∷ cs)
mark_minus c cs m (some, d) = (minus, cs, ap (λ k. k ∷ cs) m, some, d)

mark_digit : (c : ℕ) (cs : List ℕ) → IsTrue (is_digit c) → AreDigits cs → Tail state.Mark (c ∷ cs)
mark_digit c cs m d = (no_sign, c ∷ cs, refl, some_cons c cs, (m, d))

module _ (c : ℕ) (cs : List ℕ) (ih : (n : NumberState) → accepts n cs ≡ true → Tail n cs) where
  step_back : (s : NumberState) (k : NumberCharacter) → Means k c → if_some (number_step s k) (λ n. accepts n cs) ≡ true
      → Tail s (c ∷ cs)
  step_back state.Nothing kind.Minus m e = negative_from c cs m (ih state.Minus e)
  step_back state.Nothing kind.Zero m e = number_from _ (minus_zero c cs m (ih state.Zero e))
  step_back state.Nothing kind.Digit m e = number_from _ (minus_digit c cs m (ih state.Whole e))
  step_back state.Minus kind.Zero m e = minus_zero c cs m (ih state.Zero e)
  step_back state.Minus kind.Digit m e = minus_digit c cs m (ih state.Whole e)
  step_back state.Zero kind.Point m e = zero_point c cs m (ih state.Point e)
  step_back state.Zero kind.Mark m e = zero_mark c cs m (ih state.Mark e)
  step_back state.Whole kind.Zero m e = whole_digit c cs (zero_digit c m) (ih state.Whole e)
  step_back state.Whole kind.Digit m e = whole_digit c cs (digit_from c m) (ih state.Whole e)
  step_back state.Whole kind.Point m e = whole_from _ (zero_point c cs m (ih state.Point e))
  step_back state.Whole kind.Mark m e = whole_from _ (zero_mark c cs m (ih state.Mark e))
  step_back state.Point kind.Zero m e = point_digit c cs (zero_digit c m) (ih state.Fraction e)
  step_back state.Point kind.Digit m e = point_digit c cs (digit_from c m) (ih state.Fraction e)
  step_back state.Fraction kind.Zero m e = fraction_digit c cs (zero_digit c m) (ih state.Fraction e)
  step_back state.Fraction kind.Digit m e = fraction_digit c cs (digit_from c m) (ih state.Fraction e)
  step_back state.Fraction kind.Mark m e = fraction_mark c cs m (ih state.Mark e)
  step_back state.Mark kind.Plus m e = mark_plus c cs m (ih state.Sign e)
  step_back state.Mark kind.Minus m e = mark_minus c cs m (ih state.Sign e)
  step_back state.Mark kind.Zero m e = mark_digit c cs (zero_digit c m) (ih state.Exponent e)
  step_back state.Mark kind.Digit m e = mark_digit c cs (digit_from c m) (ih state.Exponent e)
  step_back state.Sign kind.Zero m e = (some_cons c cs, (zero_digit c m, ih state.Exponent e))
  step_back state.Sign kind.Digit m e = (some_cons c cs, (digit_from c m, ih state.Exponent e))
  step_back state.Exponent kind.Zero m e = (zero_digit c m, ih state.Exponent e)
  step_back state.Exponent kind.Digit m e = (digit_from c m, ih state.Exponent e)
  step_back _ _ m e = cc

pub tail_from : (text : List ℕ) (s : NumberState) → accepts s text ≡ true → Tail s text
unfolding accepts
tail_from [] s e = ends s e
tail_from (c ∷ cs) s e = step_back c cs (tail_from cs) s (kind_of c) (means c) e
