-- A state has few arcs, since a step ends at a code up to `Z` or at the last one.
use Rattle.std.proofs.Common.{◌≡◌, inl, inr, ℕ, ◌+◌, ◌-◌, ◌<◌, ◌≤◌, ◌&&◌, nat_le, if◌then◌else◌, All, length, IfOk, Result, Ok, Err, true, arith}
use Rattle.std.proofs.lemmas.Bool.{cases_lt, cond-true, cond-false, le-leb, lt-leb, or_cases, and_parts, leb-true}
use Rattle.helix_automata.specs.Automaton.{Automaton}
use Rattle.helix_automata.specs.Shape.{IsCharacter}
use Rattle.helix_automata.specs.Machine.{EndsAtMost, FallsAt}
use Rattle.helix_codes.specs.Inner.Ends.{IsStepEnd}

-- one step is left up to the last code
one_left : ℕ → ℕ
one_left code = if nat_le code 4294967295 then 1 else 0

one_at : (code : ℕ) → code ≤ 4294967295 → one_left code ≡ 1
unfolding one_left
one_at code within = cond-true (nat_le code 4294967295) 1 0 (le-leb code 4294967295 within)

none_at : (code : ℕ) → 4294967295 < code → one_left code ≡ 0
unfolding one_left
none_at code above = cond-false (nat_le code 4294967295) 1 0 (lt-leb code 4294967295 above)

at_most_one : (code : ℕ) → one_left code ≤ 1
at_most_one code = elim (cases_lt 4294967295 code) [
  | inl above ↦ (let e = none_at code above in omega (arith, e))
  | inr within ↦ (let e = one_at code within in omega (arith, e))
]

steps_left : ℕ → ℕ
steps_left code = (91 - code) + one_left code

falls : FallsAt IsStepEnd steps_left
unfolding steps_left
falls last code other (inl early) character reached above =
    let e = one_at code (omega (arith, early, reached)) in
    let f = at_most_one other in omega (arith, e, f, early, reached, above)
falls last code other (inr is) character reached above =
    let e = one_at code (omega (arith, is, reached)) in
    let f = none_at other (omega (arith, is, above)) in omega (arith, e, f, is, above)

from_range : (low high code : ℕ) → 32 ≤ low → (nat_le low code && nat_le code high) ≡ true → 32 ≤ code
from_range low high code reached within =
    let from : low ≤ code = leb-true low code (and_parts _ _ within).0 in omega (arith, reached, from)

not_below : (code : ℕ) → IsCharacter code → 32 ≤ code
not_below code character = elim (or_cases _ _ character) [
  | inl e ↦ from_range 0x20 0x7E code (omega arith) e
  | inr e ↦ elim (or_cases _ _ e) [
    | inl f ↦ from_range 0xA0 0xD7FF code (omega arith) f
    | inr f ↦ elim (or_cases _ _ f) [
      | inl g ↦ from_range 0xE000 0x10FFFF code (omega arith) g
      | inr g ↦ cc
    ]
  ]
]

few_left : (code : ℕ) → IsCharacter code → steps_left code ≤ 60
unfolding steps_left
few_left code character =
    let low = not_below code character in let one = at_most_one code in omega (arith, low, one)

pub few_arcs : {E S : Type 0} (r : Result Automaton E) (IsState : S → Type 0)
    → IfOk r (λ dfa. (most : ℕ) → EndsAtMost IsState (λ state last. IsStepEnd last) most
    → All (λ arcs. length arcs ≤ most) dfa.moves)
    → IfOk r (λ dfa. All (λ arcs. length arcs ≤ 60) dfa.moves)
few_arcs (Err e) IsState explored = tt
few_arcs (Ok dfa) IsState explored = explored 60 (λ state is. (steps_left, falls, few_left))
