-- How many texts come before a text, in the order of texts.
use Rattle.std.proofs.Common.{◌≡◌, ℕ, zero, suc, ◌+◌, ◌-◌, ◌*◌, ◌^◌, ◌<◌, ◌≤◌, ◌⊎◌, inl, inr, Bool, true, false, nat_le, List, [], ◌∷◌, length, refl, sym, ap, ◌∙◌, subst, arith, Ordering}
use Rattle.std.proofs.Common.{⊎_elim}
use Rattle.std.specs.Prelude.{if◌then◌else◌}
use Rattle.std.specs.declared.cmp.Ordering.TheVariants.{Less, Equal, Greater}
use Rattle.std.specs.List.{All}
use Rattle.std.specs.Ordering.{nat_cmp, ordering_then}
use Rattle.std.specs.Ordering.{MatchOrdering}
use Rattle.std.proofs.lemmas.Cmp.{ranked}
use Rattle.std.specs.Cmp.Lexicographic.{slice_cmp}
use Rattle.std.proofs.lemmas.Bool.{cases_lt}
use Rattle.std.proofs.lemmas.Bool.Decides.{nat_tests}
use Rattle.std.proofs.lemmas.List.Elements.{All-head, All-tail}
use Rattle.std.proofs.Math.Nat.{mul-le-mul_right}
use Rattle.std.proofs.lemmas.Nat.{pow-add}
use Rattle.helix_base.specs.declared.alphabet.Alphabet.TheVariants.{Unicode}
use Rattle.helix_base.specs.Alphabet.{IsCharacterOf}
use Rattle.helix_values.specs.Order.{text_cmp}
use Rattle.helix_values.specs.Counts.{characters, characters_below, same_length_below, shorter_texts}

-- the ranges of the alphabet
ranges : (c : ℕ) → IsCharacterOf Unicode c
    → ((32 ≤ c) × (c ≤ 126)) ⊎ (((160 ≤ c) × (c ≤ 55295)) ⊎ ((57344 ≤ c) × (c ≤ 1114111)))
ranges c is =
    ⊎_elim {A = c < 127} {B = 127 ≤ c} (λ low. inl (grind (arith, nat_tests)))
    (λ higher.
    ⊎_elim {A = c < 55296} {B = 55296 ≤ c} (λ middle. inr (inl (grind (arith, nat_tests))))
    (λ high. inr (inr (grind (arith, nat_tests)))) (cases_lt c 55296))
    (cases_lt c 127)

-- a greater code has more characters below it where a character is below it
characters_rise : (c d : ℕ) → IsCharacterOf Unicode c → c < d → characters_below c + 1 ≤ characters_below d
characters_rise c d is above =
    elim (ranges c is) [
      | inl low ↦ omega (arith, low.0, low.1)
      | inr (inl middle) ↦ omega (arith, middle.0, middle.1)
      | inr (inr high) ↦ omega (arith, high.0, high.1)
    ]

characters_bound : (c : ℕ) → IsCharacterOf Unicode c → characters_below c + 1 ≤ characters
characters_bound c is =
    elim (ranges c is) [
      | inl low ↦ omega (arith, low.0, low.1)
      | inr (inl middle) ↦ omega (arith, middle.0, middle.1)
      | inr (inr high) ↦ omega (arith, high.0, high.1)
    ]

first_of : (o p : Ordering) → ordering_then o p ≡ Less → (o ≡ Less) ⊎ ((o ≡ Equal) × (p ≡ Less))
first_of Less p less = inl refl
first_of Equal p less = inr (refl, less)
first_of Greater p less = cc

nat_less : (x y : ℕ) → nat_cmp x y ≡ Less → x < y
nat_less x y less = subst (λ o. MatchOrdering o (x < y) (x ≡ y) (y < x)) less (ranked x y (nat_cmp x y) refl)

nat_equal : (x y : ℕ) → nat_cmp x y ≡ Equal → x ≡ y
nat_equal x y equal = subst (λ o. MatchOrdering o (x < y) (x ≡ y) (y < x)) equal (ranked x y (nat_cmp x y) refl)

-- how many texts of one length there are
power_more : (n : ℕ) → characters ^ suc n ≡ characters * characters ^ n
power_more n =
    let sum : 1 + n ≡ suc n = omega arith in
    subst (λ k. characters ^ k ≡ characters * characters ^ n) sum (pow-add characters 1 n)

same_length_bound : (a : List ℕ) → All (IsCharacterOf Unicode) a → same_length_below a + 1 ≤ characters ^ length a
unfolding same_length_below
same_length_bound [] all = omega arith
same_length_bound (c ∷ a) all =
    let bound = characters_bound c (All-head (IsCharacterOf Unicode) c a all) in
    omega (
      arith,
      same_length_bound a (All-tail (IsCharacterOf Unicode) c a all),
      mul-le-mul_right (characters ^ length a) bound,
      power_more (length a),
    )

same_length_rise : (a b : List ℕ) → All (IsCharacterOf Unicode) a → All (IsCharacterOf Unicode) b → length a ≡ length b
    → slice_cmp nat_cmp a b ≡ Less → same_length_below a + 1 ≤ same_length_below b
unfolding same_length_below
same_length_rise [] [] of_a of_b same less = cc
same_length_rise [] (y ∷ b) of_a of_b same less = absurd (omega arith)
same_length_rise (x ∷ a) [] of_a of_b same less = absurd (omega arith)
same_length_rise (x ∷ a) (y ∷ b) of_a of_b same less =
    let tails : length a ≡ length b = omega arith in
    let powers : characters ^ length a ≡ characters ^ length b = ap (λ n. characters ^ n) tails in
    elim (first_of (nat_cmp x y) (slice_cmp nat_cmp a b) less) [
      | inl first ↦
          let rise = characters_rise x y (All-head (IsCharacterOf Unicode) x a of_a) (nat_less x y first) in
          omega (
            arith,
            powers,
            same_length_bound a (All-tail (IsCharacterOf Unicode) x a of_a),
            mul-le-mul_right (characters ^ length a) rise,
            ap (λ p. characters_below y * p) powers,
          )
      | inr rest ↦
          let heads = nat_equal x y rest.0 in
          let below : characters_below x * characters ^ length a
          ≡ characters_below y * characters ^ length b =
          ap (λ k. characters_below k * characters ^ length a) heads ∙ ap (λ p. characters_below y * p) powers in
          omega (
            arith,
            below,
            same_length_rise a b (All-tail (IsCharacterOf Unicode) x a of_a)
                (All-tail (IsCharacterOf Unicode) y b of_b) tails rest.1,
          )
    ]

shorter_more : (n : ℕ) → shorter_texts (suc n) ≡ shorter_texts n + characters ^ n
unfolding shorter_texts
shorter_more n = refl

shorter_by : (k n : ℕ) → shorter_texts n ≤ shorter_texts (k + n)
shorter_by zero n = let none : zero + n ≡ n = omega arith in
    subst (λ m. shorter_texts n ≤ shorter_texts m) (sym none) (omega arith)
shorter_by (suc k) n =
    let next : suc k + n ≡ suc (k + n) = omega arith in
    subst (λ m. shorter_texts n ≤ shorter_texts m) (sym next) (omega (arith, shorter_more (k + n), shorter_by k n))

shorter_rise : (m n : ℕ) → m ≤ n → shorter_texts m ≤ shorter_texts n
shorter_rise m n below =
    let sum : (n - m) + m ≡ n = omega arith in
    subst (λ k. shorter_texts m ≤ shorter_texts k) sum (shorter_by (n - m) m)

-- how many texts are below a text, of those with at most this many characters
pub record IsTextCount (limit : ℕ) (text : List ℕ) (below up_to : ℕ) : Type 0 where
  pub short : length text ≤ limit → (below ≡ shorter_texts (length text) + same_length_below text) × (up_to ≡ below + 1)
  pub long : limit < length text → (below ≡ shorter_texts (limit + 1)) × (up_to ≡ below)

pub text_count : (limit : ℕ) (text : List ℕ)
    → let below = if nat_le (length text) limit then shorter_texts (length text) + same_length_below text
    else shorter_texts (limit + 1) in
    IsTextCount limit text below (below + (if nat_le (length text) limit then 1 else 0))
text_count limit text = by (nat_le (length text) limit) refl
  where
    by : (b : Bool) → nat_le (length text) limit ≡ b
        → let below = if b then shorter_texts (length text) + same_length_below text else shorter_texts (limit + 1) in
        IsTextCount limit text below (below + (if b then 1 else 0))
    by true is = record { short = λ within. (refl, refl); long = λ past. absurd (grind (arith, nat_tests)) }
    by false is = record { short = λ within. absurd (grind (arith, nat_tests)); long = λ past. (refl, omega arith) }

pub up_to_all : (limit : ℕ) (text : List ℕ) (below up_to : ℕ) → All (IsCharacterOf Unicode) text
    → IsTextCount limit text below up_to → up_to ≤ shorter_texts (limit + 1)
up_to_all limit text below up_to all count =
    ⊎_elim {A = limit < length text} {B = length text ≤ limit}
    (λ past. omega (arith, (count.long past).0, (count.long past).1))
    (λ within.
    let here = count.short within in
    omega (
      arith,
      here.0,
      here.1,
      same_length_bound text all,
      shorter_more (length text),
      shorter_rise (suc (length text)) (limit + 1) (omega arith),
    ))
    (cases_lt limit (length text))

-- a later text has all up to an earlier one below it
pub text_counts_rise : (limit : ℕ) (a b : List ℕ) (below_a up_to_a below_b up_to_b : ℕ) → All (IsCharacterOf Unicode) a
    → All (IsCharacterOf Unicode) b
    → IsTextCount limit a below_a up_to_a → IsTextCount limit b below_b up_to_b → text_cmp a b ≡ Less
    → up_to_a ≤ below_b
text_counts_rise limit a b below_a up_to_a below_b up_to_b of_a of_b count_a count_b less =
    ⊎_elim {A = limit < length b} {B = length b ≤ limit}
    (λ past. omega (arith, up_to_all limit a below_a up_to_a of_a count_a, (count_b.long past).0))
    (λ within. short within (first_of (nat_cmp (length a) (length b)) (slice_cmp nat_cmp a b) less))
    (cases_lt limit (length b))
  where
    short : length b ≤ limit → (nat_cmp (length a) (length b) ≡ Less)
        ⊎ ((nat_cmp (length a) (length b) ≡ Equal) × (slice_cmp nat_cmp a b ≡ Less)) → up_to_a ≤ below_b
    short within (inl shorter) =
        let lengths = nat_less (length a) (length b) shorter in
        let here = count_a.short (omega arith) in
        omega (
          arith,
          here.0,
          here.1,
          (count_b.short within).0,
          same_length_bound a of_a,
          shorter_more (length a),
          shorter_rise (suc (length a)) (length b) (omega arith),
        )
    short within (inr same) =
        let lengths = nat_equal (length a) (length b) same.0 in
        let here = count_a.short (omega arith) in
        omega (
          arith,
          here.0,
          here.1,
          (count_b.short within).0,
          ap shorter_texts lengths,
          same_length_rise a b of_a of_b lengths same.1,
        )
