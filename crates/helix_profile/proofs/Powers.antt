-- Numbers below a power of ten.
use Rattle.std.proofs.Common.{◌≡◌, ℕ, ◌<◌, ◌≤◌, ◌^◌, ◌%◌, ◌==◌, ◌↔◌, IsTrue, sym, ◌∙◌, arith}
use Rattle.std.proofs.Math.Nat.{pow-le-pow_right, mod-eq_of_lt}
use Rattle.std.proofs.lemmas.Bool.Decides.{nat_tests}

is_zero : (n : ℕ) → IsTrue (n == 0) ↔ (n ≡ 0)
is_zero n = ((λ t. grind (arith, nat_tests)), (λ e. grind (arith, nat_tests)))

-- of the multiples of 10^39 and more, 128 bits have 0 alone
pub only_zero : (level n : ℕ) → 39 ≤ level → n < 340282366920938463463374607431768211456
    → IsTrue (n == 0) ↔ (n % 10 ^ level ≡ 0)
only_zero level n high small =
    let most : 10 ^ 39 ≤ 10 ^ level = pow-le-pow_right {n = 10} (omega arith) {i = 39} {j = level} high in
    let below : n < 10 ^ level = omega arith in
    let same : n % 10 ^ level ≡ n = mod-eq_of_lt below in
    ((λ t. same ∙ (is_zero n).0 t), (λ e. (is_zero n).1 (sym same ∙ e)))
