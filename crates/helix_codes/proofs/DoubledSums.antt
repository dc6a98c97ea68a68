-- Sums in which each second number is doubled, of two lists one after the other.
use Rattle.std.proofs.Common.{◌≡◌, ℕ, suc, ◌+◌, Bool, true, false, not, if◌then◌else◌, List, [], ◌∷◌, ◌++◌, length, reverse, ap, arith, refl, ◌∙◌}
use Rattle.std.proofs.lemmas.List.{reverse-append, length-reverse}
use Rattle.helix_values.specs.Codes.{doubled_sum}
use Rattle.helix_codes.specs.Inner.Completed.{is_odd}
use Rattle.helix_codes.proofs.Parity.{odd_after}

turned : (odd twice : Bool) → (if not odd then not twice else twice) ≡ (if odd then not (not twice) else not twice)
turned true true = refl
turned true false = refl
turned false twice = refl

doubled_sum-append : (xs ys : List ℕ) (twice : Bool) → doubled_sum twice (xs ++ ys)
    ≡ doubled_sum twice xs + doubled_sum (if is_odd (length xs) then not twice else twice) ys
doubled_sum-append [] ys twice = omega arith
doubled_sum-append (x ∷ xs) ys twice =
    let rest = doubled_sum-append xs ys (not twice) in
    let turn : (if is_odd (suc (length xs)) then not twice else twice)
    ≡ (if is_odd (length xs) then not (not twice) else not twice) =
    ap (λ odd. if odd then not twice else twice) (odd_after (length xs) (suc (length xs)) (omega arith))
    ∙ turned (is_odd (length xs)) twice in
    let same : doubled_sum (if is_odd (suc (length xs)) then not twice else twice) ys
    ≡ doubled_sum (if is_odd (length xs) then not (not twice) else not twice) ys =
    ap (λ b. doubled_sum b ys) turn in
    omega (arith, rest, same)

as_it_is : (b : Bool) → (if b then not false else false) ≡ b
as_it_is true = refl
as_it_is false = refl

-- counted from the last, the digits that come first are doubled by the number of those after them
pub doubled_sum-reverse : (xs ys : List ℕ) → doubled_sum false (reverse (xs ++ ys))
    ≡ doubled_sum false (reverse ys) + doubled_sum (is_odd (length ys)) (reverse xs)
doubled_sum-reverse xs ys =
    let turn : (if is_odd (length (reverse ys)) then not false else false) ≡ is_odd (length ys) =
    ap (λ n. if is_odd n then not false else false) (length-reverse ys) ∙ as_it_is (is_odd (length ys)) in
    ap (λ l. doubled_sum false l) (reverse-append xs ys) ∙ (doubled_sum-append (reverse ys) (reverse xs) false
    ∙ ap (λ b. doubled_sum false (reverse ys) + doubled_sum b (reverse xs)) turn)
