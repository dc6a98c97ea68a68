-- The least listed code from a bound is in the first range that ends there or above.
use Rattle.std.proofs.Common.{◌≡◌, inl, inr, ℕ, ◌<◌, ◌≤◌, suc, max, true, List, [], ◌∷◌, arith, leb}
use Rattle.std.proofs.lemmas.Bool.{leb-true, le-leb, and_parts, and_from, or_cases, or_left}
use Rattle.std.specs.Prelude.{IsTrue}
use Rattle.helix_base.specs.Alphabet.{is_in_range}
use Rattle.helix_base.specs.Ranges.{are_in_order, in_ranges, IsLeastFrom}

in_range : (code : ℕ) (range : ℕ × ℕ) → is_in_range code range ≡ true → (range.0 ≤ code) × (code ≤ range.1)
in_range code range e =
    let parts : (leb range.0 code ≡ true) × (leb code range.1 ≡ true) = and_parts _ _ e in
    (leb-true range.0 code parts.0, leb-true code range.1 parts.1)

-- the first range of a table isn't reversed
first_range : (range : ℕ × ℕ) (ranges : List (ℕ × ℕ)) → are_in_order (range ∷ ranges) ≡ true → range.0 ≤ range.1
first_range range [] e = leb-true range.0 range.1 e
first_range range (next ∷ ranges) e = leb-true range.0 range.1 (and_parts _ _ (and_parts _ _ e).0).0

-- what later ranges list is above the first one
later_above : (range : ℕ × ℕ) (ranges : List (ℕ × ℕ)) (code : ℕ) → are_in_order (range ∷ ranges) ≡ true
    → in_ranges ranges code ≡ true → range.1 < code
later_above range [] code e listed = absurd (cc)
later_above range (next ∷ ranges) code e listed =
    let apart : range.1 < next.0 = leb-true (suc range.1) next.0 (and_parts _ _ (and_parts _ _ e).0).1 in
    let order : are_in_order (next ∷ ranges) ≡ true = (and_parts _ _ e).1 in
    elim (or_cases _ _ listed) [
      | inl here ↦ (let within : (next.0 ≤ code) × (code ≤ next.1) = in_range code next here in omega arith)
      | inr later ↦ (let above : next.1 < code =
          later_above next ranges code order later in let turned : next.0 ≤ next.1 =
          first_range next ranges order in omega arith)
    ]

pub IsLeastFrom-first : (range : ℕ × ℕ) (ranges : List (ℕ × ℕ)) (bound code : ℕ) → are_in_order (range ∷ ranges) ≡ true
    → bound ≤ range.1 → code ≡ max bound range.0
    → IsLeastFrom (range ∷ ranges) bound code
IsLeastFrom-first range ranges bound code order within is =
    let turned : range.0 ≤ range.1 = first_range range ranges order in
    record {
      listed = or_left _ _ (and_from _ _ (le-leb range.0 code (omega arith)) (le-leb code range.1 (omega arith)));
      reached = omega arith;
      least = λ other listed from.
          elim (or_cases _ _ listed) [
            | inl here ↦ (let inside : (range.0 ≤ other) × (other ≤ range.1) = in_range other range here in omega arith)
            | inr later ↦ (let above : range.1 < other = later_above range ranges other order later in omega arith)
          ];
    }

-- the least from a bound of the ranges that are left is that of all, where the ranges before end below the bound
pub IsLeastFrom-left : (ranges left : List (ℕ × ℕ)) (bound code : ℕ)
    → ((other : ℕ) → IsTrue (in_ranges ranges other) → bound ≤ other → IsTrue (in_ranges left other))
    → ((other : ℕ) → IsTrue (in_ranges left other) → IsTrue (in_ranges ranges other))
    → IsLeastFrom left bound code → IsLeastFrom ranges bound code
IsLeastFrom-left ranges left bound code kept among is = record {
  listed = among code is.listed;
  reached = is.reached;
  least = λ other listed from. is.least other (kept other listed from) from;
}
