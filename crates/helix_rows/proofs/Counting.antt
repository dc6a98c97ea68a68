-- Sums of questions.
use Rattle.std.proofs.Common.{◌≡◌, ℕ, ◌+◌, ◌-◌, ◌*◌, ◌≤◌, List, length, sym, ◌∙◌, ap, subst, arith}
use Rattle.std.proofs.Math.Nat.{suc-mul, mul-le-mul_left, mul-le-mul_right}
use Rattle.std.proofs.Math.Numerals.{suc-eq-add-one}
use Rattle.std.proofs.lemmas.Nat.{mul-le}
use Rattle.std.specs.List.{All, sum_by}
use Rattle.helix_rows.specs.declared.part.Part.{Part}

one_times : (k x : ℕ) → (k + 1) * x ≡ k * x + x
one_times k x = ap (λ n. n * x) (sym (suc-eq-add-one k)) ∙ suc-mul k x

-- one more field is asked
pub one_more : (a b c k room own : ℕ) → own ≡ room → b ≤ a + k * room → c ≤ b + own → c ≤ a + (k + 1) * room
one_more a b c k room own is before more =
    let split : (k + 1) * room ≡ k * room + room = one_times k room in
    omega (arith, is, before, more, split)

pub later : (a b c field start room own : ℕ) → start ≤ field → own ≡ room → b ≤ a + (field - start) * room → c ≤ b + own
    → c ≤ a + ((field + 1) - start) * room
later a b c field start room own from is before more =
    let shift : (field - start) + 1 ≡ (field + 1) - start = omega (arith, from) in
    subst (λ k. c ≤ a + k * room) shift (one_more a b c (field - start) room own is before more)

pub within : (a b k n room : ℕ) → k ≤ n → b ≤ a + k * room → b ≤ a + n * room
within a b k n room few before =
    let most : k * room ≤ n * room = mul-le-mul_right room few in
    omega (arith, most, before)

-- all fields are asked once more
pub then_more : (k a b c n room m own : ℕ) → m ≤ n → own ≡ room → b ≤ a + k * (n * room) → c ≤ b + m * own
    → c ≤ a + (k + 1) * (n * room)
then_more k a b c n room m own few is before more =
    let most : m * own ≤ n * room = subst (λ r. m * own ≤ n * r) is (mul-le-mul_right own few) in
    let split : (k + 1) * (n * room) ≡ k * (n * room) + n * room = one_times k (n * room) in
    omega (arith, most, before, more, split)

-- the room is no more than any bound of the regions of a part
pub at_most : {R : Type 0} (asked : R → ℕ) (parts : List Part) (fields room k times : ℕ) (old new : List R) → k ≤ times
    → ((bound : ℕ) → All (λ part. length part.regions ≤ bound) parts → room ≤ bound)
    → sum_by asked new ≤ sum_by asked old + k * (fields * room)
    → (bound : ℕ) → All (λ part. length part.regions ≤ bound) parts
    → sum_by asked new ≤ sum_by asked old + times * (fields * bound)
at_most asked parts fields room k times old new few least are bound all =
    let most : k * (fields * room) ≤ times * (fields * bound) =
    mul-le k (fields * room) times (fields * bound) few (mul-le-mul_left fields (least bound all)) in
    omega (arith, most, are)
