-- The sets that letters name, as ranges.
use Rattle.std.proofs.Common.{◌≡◌, ℕ, Bool, true, false, ◌||◌, ◌&&◌, not, ◌==◌, ◌≢◌, eq-eqb, [], ◌∷◌, refl, sym, ◌∙◌, ap, arith}
use Rattle.std.proofs.Math.Bool.{or-false}
use Rattle.std.proofs.lemmas.Bool.{eqb-true, cond-false, ne_eqb}
use Rattle.helix_base.specs.Ranges.{in_ranges}
use Rattle.helix_base.specs.Alphabet.{is_in_range}
use Rattle.helix_regex.specs.Characters.{is_character, is_word, set_has}
use Rattle.helix_regex.specs.Inner.Sets.{Gains, GainsAllBut}
use Rattle.helix_regex.proofs.OneRegex.{within, is_within}
use Rattle.helix_regex.proofs.RangeSets.{Pairs, same_test, gains_both, gains_same}

-- one code as a range
one_code : (c d : ℕ) → is_in_range c (d, d) ≡ (c == d)
one_code c d = same_test _ _
    (λ e. let (a, b) = within c (d, d) e in eq-eqb c d (omega arith))
    (λ e. let f : c ≡ d = eqb-true c d e in is_within c (d, d) (omega arith) (omega arith))

pub one_gained : (d : ℕ) (xs ys : Pairs) → Gains (λ c. is_in_range c (d, d)) xs ys → Gains (λ c. c == d) xs ys
one_gained d xs ys h = gains_same (λ c. is_in_range c (d, d)) (λ c. c == d) xs ys (λ c. one_code c d) h

word_parts : (c : ℕ) → (((is_in_range c (65, 90) || is_in_range c (97, 122)) || is_in_range c (48, 57)) || (c == 95))
    ≡ is_word c
word_parts c = refl

pub word_gained : (xs ys zs us vs : Pairs) → Gains (λ c. is_in_range c (65, 90)) xs ys
    → Gains (λ c. is_in_range c (97, 122)) ys zs → Gains (λ c. is_in_range c (48, 57)) zs us
    → Gains (λ c. c == 95) us vs → Gains is_word xs vs
word_gained xs ys zs us vs a b c d = gains_both _ _ xs us vs (gains_both _ _ xs zs us (gains_both _ _ xs ys zs a b) c) d

four : (d u c l : Bool) → (d || (u || (c || (l || false)))) ≡ (((u || l) || d) || c)
four true true true true = refl
four true true true false = refl
four true true false true = refl
four true true false false = refl
four true false true true = refl
four true false true false = refl
four true false false true = refl
four true false false false = refl
four false true true true = refl
four false true true false = refl
four false true false true = refl
four false true false false = refl
four false false true true = refl
four false false true false = refl
four false false false true = refl
four false false false false = refl

listed_word : (c : ℕ) → in_ranges ((48, 57) ∷ (65, 90) ∷ (95, 95) ∷ (97, 122) ∷ []) c ≡ is_word c
listed_word c = ap (λ b. is_in_range c (48, 57)
    || (is_in_range c (65, 90) || (b || (is_in_range c (97, 122) || false)))) (one_code c 95)
    ∙ four (is_in_range c (48, 57)) (is_in_range c (65, 90)) (c == 95) (is_in_range c (97, 122))

pub set_gained : (letter : ℕ) (set : ℕ → Bool) (xs ys : Pairs) → ((c : ℕ) → set c ≡ set_has letter c) → Gains set xs ys
    → Gains (set_has letter) xs ys
set_gained letter set xs ys e h = gains_same set (set_has letter) xs ys e h

is_letter_of : (letter k : ℕ) (c : ℕ) → letter ≡ k → set_has k c ≡ set_has letter c
is_letter_of letter k c e = ap (λ x. set_has x c) (sym e)

pub digits_gained : (letter : ℕ) (xs ys : Pairs) → letter ≡ 100 → Gains (λ c. is_in_range c (48, 57)) xs ys
    → Gains (set_has letter) xs ys
digits_gained letter xs ys e h = set_gained letter (λ c. is_in_range c (48, 57)) xs ys
    (λ c. is_letter_of letter 100 c e) h

pub words_gained : (letter : ℕ) (xs ys : Pairs) → letter ≡ 119 → Gains is_word xs ys → Gains (set_has letter) xs ys
words_gained letter xs ys e h = set_gained letter is_word xs ys (λ c. is_letter_of letter 119 c e) h

pub space_gained : (letter : ℕ) (xs ys : Pairs) → letter ≡ 115 → Gains (λ c. c == 32) xs ys
    → Gains (set_has letter) xs ys
space_gained letter xs ys e h = set_gained letter (λ c. c == 32) xs ys (λ c. is_letter_of letter 115 c e) h

pub no_digits_gained : (letter : ℕ) (xs ys : Pairs) → letter ≡ 68 → GainsAllBut ((48, 57) ∷ []) xs ys
    → Gains (set_has letter) xs ys
no_digits_gained letter xs ys e h = set_gained letter _ xs ys
    (λ c. ap (λ b. is_character c && not b) (or-false (is_in_range c (48, 57))) ∙ is_letter_of letter 68 c e) h

pub no_words_gained : (letter : ℕ) (xs ys : Pairs) → letter ≡ 87
    → GainsAllBut ((48, 57) ∷ (65, 90) ∷ (95, 95) ∷ (97, 122) ∷ []) xs ys → Gains (set_has letter) xs ys
no_words_gained letter xs ys e h = set_gained letter _ xs ys (λ c. ap (λ b. is_character c && not b) (listed_word c)
    ∙ is_letter_of letter 87 c e) h

pub no_space_gained : (letter : ℕ) (xs ys : Pairs) → letter ≢ 100 → letter ≢ 119 → letter ≢ 115 → letter ≢ 68
    → letter ≢ 87 → GainsAllBut ((32, 32) ∷ []) xs ys → Gains (set_has letter) xs ys
no_space_gained letter xs ys a b d e f h =
    set_gained letter _ xs ys (λ c. ap (λ x. is_character c && not x) (or-false (is_in_range c (32, 32))
    ∙ one_code c 32)
    ∙ sym (cond-false _ _ _ (ne_eqb letter 100 a)
    ∙ (cond-false _ _ _ (ne_eqb letter 119 b)
    ∙ (cond-false _ _ _ (ne_eqb letter 115 d)
    ∙ (cond-false _ _ _ (ne_eqb letter 68 e) ∙ cond-false _ _ _ (ne_eqb letter 87 f)))))) h
