-- The parts of a number are found one after the other: lemmas for this crate and for those above that read numbers.
use Rattle.std.proofs.Common.{◌≡◌, ◌≢◌, ℕ, ◌+◌, ◌*◌, ◌^◌, ◌≤◌, ◌↔◌, inl, inr, List, [], ◌∷◌, ◌++◌, length, Bool, true, false, refl, sym, ◌∙◌, ap, subst, arith}
use Rattle.helix_json.specs.Numbers.{NumberParts, Exponent, no_exponent, power, plus, minus, no_sign, IsWhole, IsExponent, SpellsNumber, fraction_text, exponent_text, minus_text, power_up, power_down, digits_value, HasUnits}
use Rattle.helix_base.specs.Digits.{AreDigits}
use Rattle.helix_json.specs.Inner.Pieces.{NoDigit, TakesSign, TakesFraction, TakesExponent, ExponentIs, Found, AreUnits}
use Rattle.helix_base.specs.Inner.DigitLaws.{digit_bounds}

-- digits up to the first other character are one list
pub digits_unique : (a b c d : List ℕ) → AreDigits a → NoDigit b → AreDigits c → NoDigit d → a ++ b ≡ c ++ d
    → (a ≡ c) × (b ≡ d)
digits_unique [] b [] d ha hb hc hd e = (refl, e)
digits_unique [] b (y ∷ c) d ha hb hc hd e = absurd (subst NoDigit e hb hc.0)
digits_unique (x ∷ a) b [] d ha hb hc hd e = absurd (subst NoDigit (sym e) hd ha.0)
digits_unique (x ∷ a) b (y ∷ c) d ha hb hc hd e =
    let head : x ≡ y = cc in
    let tail : a ++ b ≡ c ++ d = cc in
    let rest : (a ≡ c) × (b ≡ d) = digits_unique a b c d ha.1 hb hc.1 hd tail in
    ((let p : a ≡ c = rest.0 in cc), rest.1)

pub whole_digits : (cs : List ℕ) → IsWhole cs → AreDigits cs
whole_digits [] h = absurd h
whole_digits (c ∷ cs) h = (h.0, h.1)

pub exponent_no_digit : (e : Exponent) → IsExponent e → NoDigit (exponent_text e)
exponent_no_digit no_exponent h = tt
exponent_no_digit (power mark sign digits) h = λ d.
    let b : (48 ≤ mark) × (mark ≤ 57) = digit_bounds mark d in elim h.0 [ inl e ↦ omega arith | inr e ↦ omega arith ]

pub tail_no_digit : (fraction : List ℕ) (e : Exponent) → IsExponent e
    → NoDigit (fraction_text fraction ++ exponent_text e)
tail_no_digit [] e h = exponent_no_digit e h
tail_no_digit (c ∷ cs) e h = λ d. let b : (48 ≤ 46) × (46 ≤ 57) = digit_bounds 46 d in omega arith

pub no_point : (e : Exponent) → IsExponent e → (more : List ℕ) → exponent_text e ≢ 46 ∷ more
no_point no_exponent h more is = cc
no_point (power mark sign digits) h more is =
    let m : mark ≡ 46 = cc in elim h.0 [ inl e ↦ omega arith | inr e ↦ omega arith ]

fraction_found : (later fraction last : List ℕ) (digits : List ℕ) (e : Exponent) → AreDigits digits → IsExponent e
    → later ≡ fraction_text digits ++ exponent_text e → TakesFraction later fraction last
    → (fraction ≡ digits) × (last ≡ exponent_text e)
fraction_found later fraction last [] e hd he is takes =
    let found : (fraction ≡ []) × (last ≡ later) = takes.1 (λ more f. no_point e he more (sym is ∙ f)) in
    (found.0, found.1 ∙ is)
fraction_found later fraction last (c ∷ cs) e hd he is takes =
    let found : ((c ∷ cs ++ exponent_text e) ≡ fraction ++ last) × AreDigits fraction
    × NoDigit last = takes.0 (c ∷ cs ++ exponent_text e) is in
    digits_unique fraction last (c ∷ cs) (exponent_text e) found.1 found.2 hd (exponent_no_digit e he) (sym found.0)

exponent_found : (e : Exponent) (lowers : Bool) (digits : List ℕ) → IsExponent e
    → TakesExponent (exponent_text e) lowers digits → ExponentIs e lowers digits
exponent_found no_exponent lowers digits h takes =
    let e : digits ≡ [] = takes.1 in record {
      are_digits = subst AreDigits (sym e) tt;
      when_raised = λ _. (ap digits_value (sym e), refl);
      when_lowered = λ is. absurd (let f : lowers ≡ false = takes.0 in cc);
    }
exponent_found (power mark plus ds) true digits h takes = absurd (let e : 43 ≡ 45 = takes.0 in omega arith)
exponent_found (power mark plus ds) false digits h takes =
    let e : digits ≡ ds = takes.1.0 refl in record {
      are_digits = subst AreDigits (sym e) h.2;
      when_raised = λ _. (ap digits_value (sym e), refl);
      when_lowered = λ is. absurd (cc);
    }
exponent_found (power mark minus ds) true digits h takes =
    let e : digits ≡ ds = takes.1 in record {
      are_digits = subst AreDigits (sym e) h.2;
      when_raised = λ is. absurd (cc);
      when_lowered = λ _. (refl, ap digits_value (sym e));
    }
exponent_found (power mark minus ds) false digits h takes = absurd (takes.0 refl)
exponent_found (power mark no_sign []) lowers digits h takes = absurd (h.1 refl)
exponent_found (power mark no_sign (d ∷ ds)) true digits h takes =
    absurd (let e : d ≡ 45 = takes.0 in let k : (48 ≤ d) × (d ≤ 57) = digit_bounds d h.2.0 in omega arith)
exponent_found (power mark no_sign (d ∷ ds)) false digits h takes =
    let k : (48 ≤ d) × (d ≤ 57) = digit_bounds d h.2.0 in
    let e : digits ≡ d ∷ ds = takes.1.1 (λ f. omega arith) in record {
      are_digits = subst AreDigits (sym e) h.2;
      when_raised = λ _. (ap digits_value (sym e), refl);
      when_lowered = λ is. absurd (cc);
    }

sign_found : (text unsigned : List ℕ) (negative is_minus : Bool) (whole tail : List ℕ) → IsWhole whole
    → text ≡ minus_text is_minus ++ (whole ++ tail)
    → TakesSign text negative unsigned → (negative ≡ is_minus) × (unsigned ≡ whole ++ tail)
sign_found text unsigned negative is_minus [] tail h is takes = absurd h
sign_found text unsigned true true (c ∷ whole) tail h is takes = (refl, (let e : text ≡ 45 ∷ unsigned = takes in cc))
sign_found text unsigned true false (c ∷ whole) tail h is takes =
    let e : text ≡ 45 ∷ unsigned = takes in let f : c ≡ 45 = cc in
    absurd (let k : (48 ≤ c) × (c ≤ 57) = digit_bounds c h.0 in omega arith)
sign_found text unsigned false true (c ∷ whole) tail h is takes = absurd (takes.1 (c ∷ whole ++ tail) is)
sign_found text unsigned false false (c ∷ whole) tail h is takes = (refl, sym takes.0 ∙ is)

-- what is found is what the number was written with
pub parts_found : (text unsigned whole later fraction last digits : List ℕ) (negative lowers : Bool)
    → TakesSign text negative unsigned
    → unsigned ≡ whole ++ later → AreDigits whole → NoDigit later → TakesFraction later fraction last
    → TakesExponent last lowers digits
    → (parts : NumberParts) → SpellsNumber text parts → Found parts negative whole fraction lowers digits
parts_found text unsigned whole later fraction last digits negative lowers sign is all stops point exponent parts
    spells =
    let tail : List ℕ = fraction_text parts.fraction ++ exponent_text parts.exponent in
    let first : (negative ≡ parts.negative) × (unsigned ≡ parts.whole ++ tail) =
    sign_found text unsigned negative parts.negative parts.whole tail spells.are.whole spells.is sign in
    let second : (whole ≡ parts.whole) × (later ≡ tail) =
    digits_unique whole later parts.whole tail all stops (whole_digits parts.whole spells.are.whole)
    (tail_no_digit parts.fraction parts.exponent spells.are.exponent) (sym is ∙ first.1) in
    let third : (fraction ≡ parts.fraction) × (last ≡ exponent_text parts.exponent) =
    fraction_found later fraction last parts.fraction parts.exponent spells.are.fraction spells.are.exponent second.1
    point in
    record {
      negative_is = first.0;
      whole_is = second.0;
      fraction_is = third.0;
      exponent_is = exponent_found parts.exponent lowers digits spells.are.exponent
          (let P : List ℕ → Type 0 = λ l. TakesExponent l lowers digits in subst P third.1 exponent);
    }

value_at : (a b c d : List ℕ) (j k : ℕ) → a ≡ b → c ≡ d → j ≡ k
    → digits_value (a ++ c) * 10 ^ j ≡ digits_value (b ++ d) * 10 ^ k
value_at a b c d j k e f g = ap (λ x. digits_value (x ++ c) * 10 ^ j) e
    ∙ (ap (λ x. digits_value (b ++ x) * 10 ^ j) f ∙ ap (λ x. digits_value (b ++ d) * 10 ^ x) g)

power_at : (n j k : ℕ) → j ≡ k → n * 10 ^ j ≡ n * 10 ^ k
power_at n j k e = ap (λ x. n * 10 ^ x) e

length_sum : (a b : List ℕ) {j k : ℕ} → a ≡ b → j ≡ k → length a + j ≡ length b + k
length_sum a b {j} {k} e f = ap (λ x. length x + j) e ∙ ap (λ x. length b + x) f

-- and has those units
pub units_found : (parts : NumberParts) (negative : Bool) (whole fraction digits : List ℕ) (lowers : Bool) (n : ℕ)
    → Found parts negative whole fraction lowers digits
    → HasUnits parts n ↔ AreUnits (digits_value (whole ++ fraction)) (length fraction) lowers (digits_value digits) n
units_found parts negative whole fraction digits true n found =
    let e : (power_up parts.exponent ≡ 0) × (power_down parts.exponent
    ≡ digits_value digits) = found.exponent_is.when_lowered refl in
    let left : digits_value (parts.whole ++ parts.fraction) * 10 ^ (15 + power_up parts.exponent)
    ≡ digits_value (whole ++ fraction) * 10 ^ 15 =
    value_at parts.whole whole parts.fraction fraction (15 + power_up parts.exponent) 15 (sym found.whole_is)
    (sym found.fraction_is) (ap (λ k. 15 + k) e.0) in
    let right : n * 10 ^ (length parts.fraction + power_down parts.exponent)
    ≡ n * 10 ^ (length fraction + digits_value digits) =
    power_at n _ _ (length_sum parts.fraction fraction (sym found.fraction_is) e.1) in
    (λ h. sym left ∙ (h ∙ right), λ h. left ∙ (h ∙ sym right))
units_found parts negative whole fraction digits false n found =
    let e : (power_up parts.exponent ≡ digits_value digits)
    × (power_down parts.exponent ≡ 0) = found.exponent_is.when_raised refl in
    let left : digits_value (parts.whole ++ parts.fraction) * 10 ^ (15 + power_up parts.exponent)
    ≡ digits_value (whole ++ fraction) * 10 ^ (15 + digits_value digits) =
    value_at parts.whole whole parts.fraction fraction (15 + power_up parts.exponent) (15 + digits_value digits)
    (sym found.whole_is) (sym found.fraction_is) (ap (λ k. 15 + k) e.0) in
    let right : n * 10 ^ (length parts.fraction + power_down parts.exponent) ≡ n * 10 ^ length fraction =
    power_at n _ _ (length_sum parts.fraction fraction (sym found.fraction_is) e.1 ∙ omega arith) in
    (λ h. sym left ∙ (h ∙ right), λ h. left ∙ (h ∙ sym right))
