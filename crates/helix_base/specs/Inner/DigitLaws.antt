-- Laws of digits: what a test tells of the code, and each digit of a list.
use Rattle.std.proofs.Common.{ℕ, ◌<◌, ◌≤◌, zero, suc, IsTrue, List, [], ◌∷◌, ◌++◌, length, get_or, arith}
use Rattle.std.proofs.lemmas.Bool.{and_parts, and_from, leb-true, le-leb}
use Rattle.helix_base.specs.Digits.{is_digit, AreDigits}

pub digit_bounds : (code : ℕ) → IsTrue (is_digit code) → (48 ≤ code) × (code ≤ 57)
digit_bounds code is = let both = and_parts _ _ is in (leb-true _ _ both.0, leb-true _ _ both.1)

pub digit_within : (code : ℕ) → 48 ≤ code → code ≤ 57 → IsTrue (is_digit code)
digit_within code low high = and_from _ _ (le-leb 48 code low) (le-leb code 57 high)

-- one digit more
pub digits_push : (codes : List ℕ) (code : ℕ) → AreDigits codes → IsTrue (is_digit code)
    → AreDigits (codes ++ code ∷ [])
digits_push [] code all here = (here, tt)
digits_push (first ∷ codes) code all here = (all.0, digits_push codes code all.1 here)

pub digit_at : (codes : List ℕ) (at : ℕ) → at < length codes → AreDigits codes → IsTrue (is_digit (get_or codes at 0))
digit_at [] at within all = absurd (omega arith)
digit_at (code ∷ codes) zero within all = all.0
digit_at (code ∷ codes) (suc at) within all = digit_at codes at (omega arith) all.1

pub bounds_at : (codes : List ℕ) (at : ℕ) → at < length codes → AreDigits codes
    → (48 ≤ get_or codes at 0) × (get_or codes at 0 ≤ 57)
bounds_at codes at within all = digit_bounds (get_or codes at 0) (digit_at codes at within all)
