-- The next number is odd where a number isn't.
use Rattle.std.proofs.Common.{◌≡◌, ℕ, ◌+◌, ◌%◌, true, false, not, inl, inr, ap, arith, sym, ◌∙◌}
use Rattle.std.proofs.lemmas.Bool.{cases_lt, eq-eqb, ne_eqb}
use Rattle.helix_codes.specs.Inner.Completed.{is_odd}

pub odd_after : (n m : ℕ) → m ≡ n + 1 → is_odd m ≡ not (is_odd n)
odd_after n m after = elim (cases_lt (n % 2) 1) [
  | inl low ↦ (let even : is_odd n ≡ false = ne_eqb (n % 2) 1 (λ e. omega (arith, low, e)) in
      let odd : is_odd m ≡ true = eq-eqb (m % 2) 1 (omega (arith, low, after)) in odd ∙ ap not (sym even))
  | inr high ↦ (let odd : is_odd n ≡ true = eq-eqb (n % 2) 1 (omega (arith, high)) in
      let even : is_odd m ≡ false = ne_eqb (m % 2) 1 (λ e. omega (arith, high, after, e)) in even ∙ ap not (sym odd))
]
