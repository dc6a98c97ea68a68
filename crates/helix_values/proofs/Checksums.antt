-- Sums over the characters of a code, one at a time.
use Rattle.std.proofs.Common.{◌≡◌, ℕ, zero, suc, ◌+◌, ◌*◌, ◌^◌, ◌<◌, ◌≤◌, List, length, get_or, map, drop, refl, drop-cons, add-one, arith}
use Rattle.std.proofs.Math.Nat.{mul-le-mul_right}
use Rattle.helix_base.specs.Weights.{weighted_sum}
use Rattle.helix_values.specs.Codes.{value_of, sedol_weights}

-- the first product, and the rest
pub weighted_sum-drop : (ws cs : List ℕ) (i : ℕ) → i < length ws → i < length cs
    → weighted_sum (drop i ws) (map value_of (drop i cs))
    ≡ get_or ws i 0 * value_of (get_or cs i 0) + weighted_sum (drop (i + 1) ws) (map value_of (drop (i + 1) cs))
weighted_sum-drop ws cs i in_ws in_cs = rw (add-one, drop-cons ws i 0, drop-cons cs i 0) refl

weight_small : (i : ℕ) → get_or sedol_weights i 0 ≤ 9
weight_small zero = omega arith
weight_small (suc zero) = omega arith
weight_small (suc (suc zero)) = omega arith
weight_small (suc (suc (suc zero))) = omega arith
weight_small (suc (suc (suc (suc zero)))) = omega arith
weight_small (suc (suc (suc (suc (suc zero))))) = omega arith
weight_small (suc (suc (suc (suc (suc (suc zero)))))) = omega arith
weight_small (suc (suc (suc (suc (suc (suc (suc i))))))) = omega arith

-- a product of a weight and a value stays small
pub weighted_small : (i v : ℕ) → v < 2 ^ 32 → get_or sedol_weights i 0 * v ≤ 2 ^ 36
weighted_small i v small = omega (arith, mul-le-mul_right v (weight_small i))
