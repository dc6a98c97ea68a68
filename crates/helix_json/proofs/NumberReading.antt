-- Each number of the grammar is read, one character after the other.
use Rattle.std.proofs.Common.{◌≡◌, ◌≢◌, ℕ, ◌+◌, ◌≤◌, ◌<◌, ◌⊎◌, ◌↔◌, inl, inr, List, [], ◌∷◌, ◌++◌, Bool, true, false, Some, None, IsTrue, ◌==◌, nat_le, ◌&&◌, length, drop, get_or, refl, sym, ◌∙◌, ap, subst, arith}
use Rattle.std.proofs.lemmas.List.{at_drop_more, at_drop_all}
use Rattle.helix_json.specs.declared.digits.NumberState.{NumberState}
use Rattle.helix_json.specs.declared.digits.NumberState.TheVariants as state
use Rattle.helix_json.specs.declared.digits.NumberCharacter.TheVariants as kind
use Rattle.helix_json.specs.Numbers.{Exponent, no_exponent, power, Sign, plus, minus, no_sign, IsWhole, IsExponent, fraction_text, exponent_text, sign_text, minus_text, IsNumber}
use Rattle.helix_base.specs.Digits.{is_digit, AreDigits}
use Rattle.helix_json.specs.Inner.NumberSteps.{kind_of, number_step, number_ends, if_some, accepts}
use Rattle.helix_json.proofs.Choices.{choose}
use Rattle.std.proofs.lemmas.Bool.{and_cases, eq-eqb, leb-false}
use Rattle.helix_json.proofs.NumberGrammar.{Means, means, Tail, some_cons, true_not_false, tail_from}
use Rattle.helix_base.specs.Inner.DigitLaws.{digit_bounds}

-- and each number is read
kind_digit : (c : ℕ) → IsTrue (is_digit c) → (kind_of c ≡ kind.Zero) ⊎ (kind_of c ≡ kind.Digit)
kind_digit c d = let b : (48 ≤ c) × (c ≤ 57) = digit_bounds c d in
    choose (λ k. (k ≡ kind.Zero) ⊎ (k ≡ kind.Digit)) (c == 48) _ _ (λ _. inl refl) (λ z.
    choose (λ k. (k ≡ kind.Zero) ⊎ (k ≡ kind.Digit)) (nat_le 49 c && nat_le c 57) _ _ (λ _. inr refl) (λ e.
    absurd (elim (and_cases _ _ e) [
      | inl f ↦ (let g : c < 49 = leb-false _ _ f in let h : c ≡ 48 = omega arith in
          let i : (c == 48) ≡ true = eq-eqb _ _ h in true_not_false (sym i ∙ z))
      | inr f ↦ (let g : 57 < c = leb-false _ _ f in omega arith)
    ])))

kind_mark : (c : ℕ) → (c ≡ 69) ⊎ (c ≡ 101) → kind_of c ≡ kind.Mark
kind_mark c (inl e) = ap kind_of e
kind_mark c (inr e) = ap kind_of e

digit_steps : (s n : NumberState) (c : ℕ) → number_step s kind.Zero ≡ Some n → number_step s kind.Digit ≡ Some n
    → IsTrue (is_digit c) → number_step s (kind_of c) ≡ Some n
digit_steps s n c z d is = elim (kind_digit c is) [
  | inl e ↦ ap (number_step s) e ∙ z
  | inr e ↦ ap (number_step s) e
      ∙ d
]

abbrev Steps : NumberState → ℕ → List ℕ → Type 0
Steps s c cs = (n : NumberState) × (number_step s (kind_of c) ≡ Some n) × Tail n cs

exponent_steps : (s : NumberState) (c : ℕ) (cs : List ℕ) (e : Exponent) → number_step s kind.Mark ≡ Some state.Mark
    → c ∷ cs ≡ exponent_text e → IsExponent e → Steps s c cs
exponent_steps s c cs no_exponent m is h = cc
exponent_steps s c cs (power mark sign digits) m is h =
    let head : c ≡ mark = cc in let tail : cs ≡ sign_text sign ++ digits = cc in (
      state.Mark,
      ap (λ x. number_step s (kind_of x)) head ∙ (ap (number_step s) (kind_mark mark h.0) ∙ m),
      (sign, digits, tail, h.1, h.2),
    )

fraction_steps : (s : NumberState) (c : ℕ) (cs fraction : List ℕ) (e : Exponent)
    → number_step s kind.Mark ≡ Some state.Mark → number_step s kind.Point ≡ Some state.Point
    → c ∷ cs ≡ fraction_text fraction ++ exponent_text e → AreDigits fraction → IsExponent e → Steps s c cs
fraction_steps s c cs [] e m p is f h = exponent_steps s c cs e m is h
fraction_steps s c cs (d ∷ ds) e m p is f h =
    let head : c ≡ 46 = cc in let tail : cs ≡ d ∷ ds ++ exponent_text e = cc in
    (state.Point, ap (λ x. number_step s (kind_of x)) head ∙ p, (d ∷ ds, e, tail, some_cons d ds, f, h))

minus_steps : (s : NumberState) (c : ℕ) (cs whole fraction : List ℕ) (e : Exponent)
    → number_step s kind.Zero ≡ Some state.Zero → number_step s kind.Digit ≡ Some state.Whole
    → c ∷ cs ≡ whole ++ (fraction_text fraction ++ exponent_text e) → IsWhole whole → AreDigits fraction → IsExponent e
    → Steps s c cs
minus_steps s c cs [] fraction e z d is w f h = absurd w
minus_steps s c cs (x ∷ whole) fraction e z d is w f h =
    let head : c ≡ x = cc in let tail : cs ≡ whole ++ (fraction_text fraction ++ exponent_text e) = cc in
    elim (kind_digit x w.0) [
      | inl k ↦ (let m : Means kind.Zero x = subst (λ q. Means q x) k (means x) in let nothing : whole ≡ [] = w.2 m in (
        state.Zero,
        ap (λ y. number_step s (kind_of y)) head ∙ (ap (number_step s) k ∙ z),
        (fraction, e, tail ∙ ap (λ t. t ++ (fraction_text fraction ++ exponent_text e)) nothing, f, h),
      ))
      | inr k ↦ (
        state.Whole,
        ap (λ y. number_step s (kind_of y)) head ∙ (ap (number_step s) k ∙ d),
        (whole, fraction, e, tail, w.1, f, h),
      )
    ]

digits_after : (s : NumberState) (c : ℕ) → number_step s kind.Zero ≡ Some state.Exponent
    → number_step s kind.Digit ≡ Some state.Exponent → (cs : List ℕ) → AreDigits (c ∷ cs) → Steps s c cs
digits_after s c z d cs h = (state.Exponent, digit_steps s state.Exponent c z d h.0, h.1)

mark_steps : (c : ℕ) (cs digits : List ℕ) (sign : Sign) → c ∷ cs ≡ sign_text sign ++ digits → digits ≢ []
    → AreDigits digits → Steps state.Mark c cs
mark_steps c cs digits plus is some d = let head : c ≡ 43 = cc in let tail : cs ≡ digits = cc in (
  state.Sign,
  ap (λ x. number_step state.Mark (kind_of x)) head,
  (λ e. some (sym tail ∙ e), subst AreDigits (sym tail) d),
)
mark_steps c cs digits minus is some d = let head : c ≡ 45 = cc in let tail : cs ≡ digits = cc in (
  state.Sign,
  ap (λ x. number_step state.Mark (kind_of x)) head,
  (λ e. some (sym tail ∙ e), subst AreDigits (sym tail) d),
)
mark_steps c cs digits no_sign is some d = digits_after state.Mark c refl refl cs (subst AreDigits (sym is) d)

nothing_steps : (c : ℕ) (cs : List ℕ) (negative : Bool) (whole fraction : List ℕ) (e : Exponent)
    → c ∷ cs ≡ minus_text negative ++ (whole ++ (fraction_text fraction ++ exponent_text e)) → IsWhole whole
    → AreDigits fraction → IsExponent e → Steps state.Nothing c cs
nothing_steps c cs true whole fraction e is w f h = let head : c ≡ 45 = cc in
    let tail : cs ≡ whole ++ (fraction_text fraction ++ exponent_text e) = cc in
    (state.Minus, ap (λ x. number_step state.Nothing (kind_of x)) head, (whole, fraction, e, tail, w, f, h))
nothing_steps c cs false whole fraction e is w f h = minus_steps state.Nothing c cs whole fraction e refl refl is w f h

nothing_ends : (negative : Bool) (whole tail : List ℕ) → [] ≡ minus_text negative ++ (whole ++ tail) → IsWhole whole → ⊥
nothing_ends true whole tail is w = cc
nothing_ends false [] tail is w = w
nothing_ends false (x ∷ whole) tail is w = cc

step_forth : (s : NumberState) (c : ℕ) (cs : List ℕ) → Tail s (c ∷ cs) → Steps s c cs
step_forth state.Nothing c cs (parts, spells) =
    nothing_steps c cs parts.negative parts.whole parts.fraction parts.exponent spells.is spells.are.whole
    spells.are.fraction spells.are.exponent
step_forth state.Minus c cs (whole, fraction, e, is, w, f, h) =
    minus_steps state.Minus c cs whole fraction e refl refl is w f h
step_forth state.Zero c cs (fraction, e, is, f, h) = fraction_steps state.Zero c cs fraction e refl refl is f h
step_forth state.Whole c cs ([], fraction, e, is, w, f, h) = fraction_steps state.Whole c cs fraction e refl refl is f h
step_forth state.Whole c cs (x ∷ whole, fraction, e, is, w, f, h) =
    let head : c ≡ x = cc in let tail : cs ≡ whole ++ (fraction_text fraction ++ exponent_text e) = cc in (
      state.Whole,
      ap (λ y. number_step state.Whole (kind_of y)) head
          ∙ digit_steps state.Whole state.Whole x refl refl w.0,
      (whole, fraction, e, tail, w.1, f, h),
    )
step_forth state.Point c cs ([], e, is, some, f, h) = absurd (some refl)
step_forth state.Point c cs (x ∷ fraction, e, is, some, f, h) =
    let head : c ≡ x = cc in let tail : cs ≡ fraction ++ exponent_text e = cc in (
      state.Fraction,
      ap (λ y. number_step state.Point (kind_of y)) head
          ∙ digit_steps state.Point state.Fraction x refl refl f.0,
      (fraction, e, tail, f.1, h),
    )
step_forth state.Fraction c cs ([], e, is, f, h) = exponent_steps state.Fraction c cs e refl is h
step_forth state.Fraction c cs (x ∷ fraction, e, is, f, h) =
    let head : c ≡ x = cc in let tail : cs ≡ fraction ++ exponent_text e = cc in (
      state.Fraction,
      ap (λ y. number_step state.Fraction (kind_of y)) head
          ∙ digit_steps state.Fraction state.Fraction x refl refl f.0,
      (fraction, e, tail, f.1, h),
    )
step_forth state.Mark c cs (sign, digits, is, some, d) = mark_steps c cs digits sign is some d
step_forth state.Sign c cs (some, d) = digits_after state.Sign c refl refl cs d
step_forth state.Exponent c cs d = digits_after state.Exponent c refl refl cs d

end_forth : (s : NumberState) → Tail s [] → number_ends s ≡ true
end_forth state.Nothing (parts, spells) = absurd (nothing_ends parts.negative parts.whole _ spells.is spells.are.whole)
end_forth state.Minus (whole, fraction, e, is, w, f, h) = absurd (nothing_ends false whole _ is w)
end_forth state.Zero h = refl
end_forth state.Whole h = refl
end_forth state.Point ([], e, is, some, f, h) = absurd (some refl)
end_forth state.Point (x ∷ fraction, e, is, some, f, h) = cc
end_forth state.Fraction h = refl
end_forth state.Mark (plus, digits, is, some, d) = cc
end_forth state.Mark (minus, digits, is, some, d) = cc
end_forth state.Mark (no_sign, digits, is, some, d) = absurd (some (sym is))
end_forth state.Sign (some, d) = absurd (some refl)
end_forth state.Exponent h = refl

pub tail_to : (text : List ℕ) (s : NumberState) → Tail s text → accepts s text ≡ true
unfolding accepts
tail_to [] s h = end_forth s h
tail_to (c ∷ cs) s h = let (n, e, t) = step_forth s c cs h in
    ap (λ o. if_some o (λ next. accepts next cs)) e ∙ tail_to cs n t

-- for the loop that reads a number
module _ (codes : List ℕ) (i : ℕ) (s : NumberState) (so_far : accepts s (drop i codes) ≡ accepts state.Nothing codes)
  where
    pub loop_step : (n : NumberState) → i < length codes → number_step s (kind_of (get_or codes i 0)) ≡ Some n
        → accepts n (drop (i + 1) codes) ≡ accepts state.Nothing codes
    unfolding accepts
    loop_step n within e = sym (at_drop_more (accepts s) codes i 0 within
        ∙ ap (λ o. if_some o (λ next. accepts next (drop (i + 1) codes))) e) ∙ so_far

    pub loop_refused : i < length codes → number_step s (kind_of (get_or codes i 0)) ≡ None → ¬ (IsNumber codes)
    unfolding accepts
    loop_refused within e number =
        let f : accepts s (drop i codes) ≡ false = at_drop_more (accepts s) codes i 0 within
        ∙ ap (λ o. if_some o (λ next. accepts next (drop (i + 1) codes))) e in
        true_not_false (sym (tail_to codes state.Nothing number) ∙ (sym so_far ∙ f))

    pub loop_end : length codes ≤ i → IsTrue (number_ends s) ↔ IsNumber codes
    unfolding accepts
    loop_end past =
        let e : accepts s (drop i codes) ≡ number_ends s = at_drop_all (accepts s) codes i past in (
          λ h. tail_from codes state.Nothing (sym so_far ∙ (e ∙ h)),
          λ number. sym e ∙ (so_far ∙ tail_to codes state.Nothing number),
        )
