-- What a string's step leads to can go on, and what it gives is a scalar value.
use Rattle.std.proofs.Common.{◌≡◌, ℕ, ◌+◌, ◌*◌, ◌-◌, ◌≤◌, ◌<◌, inl, inr, ◌==◌, nat_lt, Option, refl, sym, ◌∙◌, subst, arith}
use Rattle.std.proofs.lemmas.Bool.{le-leb, lt-ltb, cond-true, cond-false, le-ltb}
use Rattle.std.specs.Char.{IsScalar, digit_value}
use Rattle.helix_json.specs.declared.string.StringState.{StringState}
use Rattle.helix_json.specs.declared.string.StringState.TheVariants as state
use Rattle.helix_json.specs.declared.string.StringMove.{StringMove}
use Rattle.helix_json.specs.declared.string.StringMove.TheVariants as move
use Rattle.helix_json.specs.Text.{IsHigh, IsLow, escaped}
use Rattle.helix_json.specs.Inner.StringSteps.{UnitFine, Fine, string_step, plain_step, give_or_refuse}
use Rattle.helix_json.proofs.Choices.{choose}
use Rattle.helix_json.proofs.Decimal.{le_or_lt}
use Rattle.helix_json.proofs.StringBack.{two_true, unit_fine, low_fine, unit_start, low_start, no_low, low_last_is, unit_cases, low_cases}

abbrev Safe : StringMove → Type 0
Safe move.Refuse = Unit {0}
Safe (move.Go s) = Fine s
Safe (move.Give d) = IsScalar d
Safe move.Close = Unit {0}

low_scalar : (c : ℕ) → c < 0xD800 → IsScalar c
low_scalar c to = cond-true _ _ _ (lt-ltb c 0xD800 to)

high_scalar : (c : ℕ) → 0xE000 ≤ c → c < 0x110000 → IsScalar c
high_scalar c from to = cond-false _ _ _ (le-ltb c 0xD800 (omega arith))
    ∙ two_true _ _ (le-leb 0xE000 c from) (lt-ltb c 0x110000 to)

plain_safe : (c : ℕ) → IsScalar c → Safe (plain_step c)
plain_safe c here =
    choose Safe (c == 34) _ _ (λ _. tt) (λ _. choose Safe (c == 92) _ _ (λ _. tt)
    (λ _. choose Safe (nat_lt c 32) _ _ (λ _. tt) (λ _. here)))

letter_safe : (c : ℕ) → Safe (give_or_refuse (escaped c))
letter_safe c = let P : Option ℕ → Type 0 = λ o. Safe (give_or_refuse o) in
    choose P (c == 34) _ _ (λ _. refl) (λ _. choose P (c == 92) _ _ (λ _. refl)
    (λ _. choose P (c == 47) _ _ (λ _. refl) (λ _.
    choose P (c == 98) _ _ (λ _. refl) (λ _. choose P (c == 102) _ _ (λ _. refl)
    (λ _. choose P (c == 110) _ _ (λ _. refl) (λ _.
    choose P (c == 114) _ _ (λ _. refl) (λ _. choose P (c == 116) _ _ (λ _. refl) (λ _. tt))))))))

unit_small : (n v : ℕ) → UnitFine n v → 3 ≤ n → v < 4096
unit_small n v fine many = let three : n ≡ 3 = omega (arith, fine.few) in fine.three_is three

unit_scalar : (w : ℕ) → w < 65536 → (0xD800 ≤ w → 0xDC00 ≤ w) → ¬ (IsLow w) → IsScalar w
unit_scalar w most out no_low_one = elim (le_or_lt 0xD800 w) [
  | inl le ↦ (elim (le_or_lt 0xE000 w) [
    | inl past ↦ high_scalar w past (omega arith)
    | inr lt ↦ absurd (no_low_one (out le, lt))
  ])
  | inr lt ↦ low_scalar w lt
]

pair_scalar : (high low : ℕ) → IsHigh high → IsLow low → IsScalar (0x10000 + (high - 0xD800) * 0x400 + (low - 0xDC00))
pair_scalar high low (hf, ht) (lf, lt) =
    high_scalar (0x10000 + (high - 0xD800) * 0x400 + (low - 0xDC00)) (omega arith) (omega arith)

step_safe : (s : StringState) (c : ℕ) → Fine s → IsScalar c → Safe (string_step s c)
step_safe state.Plain c fine here = plain_safe c here
step_safe state.Backslash c fine here = choose Safe (c == 117) _ _ (λ _. unit_start) (λ _. letter_safe c)
step_safe (state.Unit n v) c fine here = unit_cases Safe n v (digit_value c) tt
    (λ small low few. unit_fine n v (digit_value c) fine small low few)
    (λ small many from to. (from, to))
    (λ small many out. let most : v < 4096 = unit_small n v fine many in
    unit_scalar (v * 16 + digit_value c) (omega arith) out (no_low n v (digit_value c) fine many small))
step_safe (state.High high) c fine here = choose Safe (c == 92) _ _ (λ _. fine) (λ _. tt)
step_safe (state.HighBackslash high) c fine here = choose Safe (c == 117) _ _ (λ _. (fine, low_start)) (λ _. tt)
step_safe (state.Low high n v) c (is_high, fine) here = low_cases Safe high n v (digit_value c) tt
    (λ small one two few. (is_high, low_fine n v (digit_value c) fine small one two few))
    (λ small many. pair_scalar high (v * 16 + digit_value c) is_high (low_last_is n v (digit_value c) fine many small))

-- for the loop that reads a string
pub go_fine : (s n : StringState) (c : ℕ) → Fine s → IsScalar c → move.Go n ≡ string_step s c → Fine n
go_fine s n c fine here e = subst Safe (sym e) (step_safe s c fine here)

pub give_scalar : (s : StringState) (c d : ℕ) → Fine s → IsScalar c → move.Give d ≡ string_step s c → IsScalar d
give_scalar s c d fine here e = subst Safe (sym e) (step_safe s c fine here)
