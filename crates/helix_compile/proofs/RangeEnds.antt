-- The ends of ranges, and how many are left from a code on.
use Rattle.std.proofs.Common.{◌≡◌, ◌⊎◌, inl, inr, ℕ, zero, suc, ◌+◌, ◌*◌, ◌<◌, ◌≤◌, min, Result, Ok, Err, IfOk, Some, List, [], ◌∷◌, ◌++◌, All, Contains, length, get_or, slice_get, arith, ap, sym, ◌∙◌, subst}
use Rattle.std.proofs.lemmas.Bool.{cases_lt}
use Rattle.std.proofs.lemmas.Option.{slice_get_within, slice_get-get_or, same_Some}
use Rattle.std.proofs.lemmas.List.Elements.{Contains-get_or}
use Rattle.helix_automata.specs.Automaton.{Automaton}
use Rattle.helix_automata.specs.Machine.{FallsAt, EndsAtMost}
use Rattle.helix_automata.specs.Inner.EndLaws.{one_from, one_here, one_gone, one_most, one_falls}
use Rattle.helix_compile.specs.declared.nfa.State.{State}
use Rattle.helix_compile.specs.declared.nfa.State.TheVariants.{Read}
use Rattle.helix_compile.specs.Inner.Patterns.{any_character}
use Rattle.helix_compile.specs.Inner.RangeEnds.{AreAmong, ReadsOnly, ReadsAmong, IsRangeEnd, IsEndAmong, IsNfaEnd}
use Rattle.helix_compile.proofs.WholePatterns.{character_within}

-- the lesser of two ends
pub end_min : (ranges : List (ℕ × ℕ)) (a b last : ℕ) → last ≡ min a b → IsEndAmong ranges a → IsEndAmong ranges b
    → IsEndAmong ranges last
end_min ranges a b last is of_a of_b = elim (cases_lt a b) [
  | inl less ↦ (let same : a ≡ last = omega (arith, less, is) in subst (λ n. IsEndAmong ranges n) same of_a)
  | inr more ↦ (let same : b ≡ last = omega (arith, more, is) in subst (λ n. IsEndAmong ranges n) same of_b)
]

pub nfa_end_min : (nfa : List State) (a b last : ℕ) → last ≡ min a b → IsNfaEnd nfa a → IsNfaEnd nfa b
    → IsNfaEnd nfa last
nfa_end_min nfa a b last is of_a of_b all reads = end_min all a b last is (of_a all reads) (of_b all reads)

-- the end of a range is one of all
pub end_here : (ranges : List (ℕ × ℕ)) (at : ℕ) (d : ℕ × ℕ) (last : ℕ) → at < length ranges
    → IsRangeEnd (get_or ranges at d) last → IsEndAmong ranges last
end_here ranges at d last within is = inr (get_or ranges at d, Contains-get_or ranges at d within, is)

pub end_more : (ranges all : List (ℕ × ℕ)) (last : ℕ) → AreAmong ranges all → IsEndAmong ranges last
    → IsEndAmong all last
end_more ranges all last among (inl high) = inl high
end_more ranges all last among (inr (range, has, is)) = inr (range, among range has, is)

-- what a state with a number reads
pub reads_at : (nfa : List State) (all ranges : List (ℕ × ℕ)) (number next : ℕ)
    → slice_get nfa number ≡ Some (Read ranges next) → ReadsAmong nfa all → AreAmong ranges all
reads_at nfa all ranges number next at reads =
    let within = slice_get_within nfa number (Read ranges next) at in
    let is : get_or nfa number (Read ranges next) ≡ Read ranges next =
    same_Some (get_or nfa number (Read ranges next)) (Read ranges next)
    (sym (slice_get-get_or nfa number (Read ranges next) within) ∙ at) in
    subst (λ state. ReadsOnly all state) is (reads number (Read ranges next) within)

-- what is left of the ends of ranges from a code on, and of the last character
abbrev pub ends_from : ℕ → List (ℕ × ℕ) → ℕ
ends_from code [] = one_from code 0x10FFFF
ends_from code (range ∷ ranges) = (one_from (code + 1) range.0 + one_from code range.1) + ends_from code ranges

ends_most : (ranges : List (ℕ × ℕ)) (code : ℕ) → ends_from code ranges ≤ 2 * length ranges + 1
ends_most [] code = let one = one_most code 0x10FFFF in omega (arith, one)
ends_most (range ∷ ranges) code =
    let one = one_most (code + 1) range.0 in
    let other = one_most code range.1 in
    let rest = ends_most ranges code in omega (arith, one, other, rest)

ends_fall : (ranges : List (ℕ × ℕ)) (code other : ℕ) → code ≤ other → ends_from other ranges ≤ ends_from code ranges
ends_fall [] code other low = one_falls code other 0x10FFFF low
ends_fall (range ∷ ranges) code other low =
    let one = one_falls (code + 1) (other + 1) range.0 (omega (arith, low)) in
    let two = one_falls code other range.1 low in
    let rest = ends_fall ranges code other low in omega (arith, one, two, rest)

-- the last character is passed
last_passed : (ranges : List (ℕ × ℕ)) (code other : ℕ) → code ≤ 0x10FFFF → 0x10FFFF < other
    → ends_from other ranges < ends_from code ranges
last_passed [] code other low high =
    let here = one_here code 0x10FFFF low in let gone = one_gone other 0x10FFFF high in omega (arith, here, gone)
last_passed (range ∷ ranges) code other low high =
    let one = one_falls (code + 1) (other + 1) range.0 (omega (arith, low, high)) in
    let two = one_falls code other range.1 (omega (arith, low, high)) in
    let rest = last_passed ranges code other low high in omega (arith, one, two, rest)

-- an end of a range is passed
end_passed : (ranges : List (ℕ × ℕ)) (range : ℕ × ℕ) (last code other : ℕ) → Contains ranges range
    → (last ≡ range.1) ⊎ (last + 1 ≡ range.0) → code ≤ last → last < other
    → ends_from other ranges < ends_from code ranges
end_passed [] range last code other (k, within, is) ends low high = absurd (omega (arith, within))
end_passed (first ∷ ranges) range last code other (zero, within, is) (inl ends) low high =
    let same : first.1 ≡ range.1 = ap (λ r. r.1) is in
    let one = one_falls (code + 1) (other + 1) first.0 (omega (arith, low, high)) in
    let here = one_here code first.1 (omega (arith, low, same, ends)) in
    let gone = one_gone other first.1 (omega (arith, high, same, ends)) in
    let rest = ends_fall ranges code other (omega (arith, low, high)) in omega (arith, one, here, gone, rest)
end_passed (first ∷ ranges) range last code other (zero, within, is) (inr ends) low high =
    let same : first.0 ≡ range.0 = ap (λ r. r.0) is in
    let two = one_falls code other first.1 (omega (arith, low, high)) in
    let here = one_here (code + 1) first.0 (omega (arith, low, same, ends)) in
    let gone = one_gone (other + 1) first.0 (omega (arith, high, same, ends)) in
    let rest = ends_fall ranges code other (omega (arith, low, high)) in omega (arith, two, here, gone, rest)
end_passed (first ∷ ranges) range last code other (suc k, within, is) ends low high =
    let one = one_falls (code + 1) (other + 1) first.0 (omega (arith, low, high)) in
    let two = one_falls code other first.1 (omega (arith, low, high)) in
    let rest = end_passed ranges range last code other (k, omega (arith, within), is) ends low high in
    omega (arith, one, two, rest)

-- all characters are one range, whose ends are before the first character and at the last one
any_passed : (ranges : List (ℕ × ℕ)) (range : ℕ × ℕ) (last code other : ℕ) → (0x20, 0x10FFFF) ≡ range
    → (last ≡ range.1) ⊎ (last + 1 ≡ range.0) → 0x20 ≤ code → code ≤ 0x10FFFF → code ≤ last → last < other
    → ends_from other ranges < ends_from code ranges
any_passed ranges range last code other is (inl ends) least most low high =
    let same : 0x10FFFF ≡ range.1 = ap (λ r. r.1) is in
    last_passed ranges code other most (omega (arith, high, same, ends))
any_passed ranges range last code other is (inr ends) least most low high =
    let same : 0x20 ≡ range.0 = ap (λ r. r.0) is in absurd (omega (arith, least, low, same, ends))

ends_falls : (ranges : List (ℕ × ℕ)) → FallsAt (IsEndAmong (any_character ++ ranges)) (λ code. ends_from code ranges)
ends_falls ranges last code other (inl above) character low high =
    let within = character_within code character in
    last_passed ranges code other within.1 (omega (arith, above, high))
ends_falls ranges last code other (inr (range, has, inl above)) character low high =
    let within = character_within code character in
    last_passed ranges code other within.1 (omega (arith, above, high))
ends_falls ranges last code other (inr (range, (zero, inside, is), inr ends)) character low high =
    let within = character_within code character in
    any_passed ranges range last code other is ends within.0 within.1 low high
ends_falls ranges last code other (inr (range, (suc k, inside, is), inr ends)) character low high =
    end_passed ranges range last code other (k, omega (arith, inside), is) ends low high

-- states of an automaton have few arcs where its states read few ranges
pub few_arcs : {E S : Type 0} (r : Result Automaton E) (IsState : S → Type 0) (nfa : List State)
    → IfOk r (λ dfa. (most : ℕ) → EndsAtMost IsState (λ state last. IsNfaEnd nfa last) most
    → All (λ arcs. length arcs ≤ most) dfa.moves)
    → IfOk r (λ dfa. (ranges : List (ℕ × ℕ)) → ReadsAmong nfa (any_character ++ ranges)
    → All (λ arcs. length arcs ≤ 2 * length ranges + 1) dfa.moves)
few_arcs (Err e) IsState nfa explored = tt
few_arcs (Ok dfa) IsState nfa explored = λ ranges reads. explored (2 * length ranges + 1) (λ state is. (
  (λ code. ends_from code ranges),
  (λ last code other ends character low high. ends_falls ranges last code other (ends (any_character ++ ranges) reads)
      character low high),
  (λ code character. ends_most ranges code),
))

pub few_arcs_of : {E : Type 0} (r : Result Automaton E) (borrowed nfa : List State) (ranges : List (ℕ × ℕ))
    → borrowed ≡ nfa → ReadsAmong nfa (any_character ++ ranges)
    → IfOk r (λ dfa. (l : List (ℕ × ℕ)) → ReadsAmong borrowed (any_character ++ l)
    → All (λ arcs. length arcs ≤ 2 * length l + 1) dfa.moves)
    → IfOk r (λ dfa. All (λ arcs. length arcs ≤ 2 * length ranges + 1) dfa.moves)
few_arcs_of (Err e) borrowed nfa ranges same reads few = tt
few_arcs_of (Ok dfa) borrowed nfa ranges same reads few =
    few ranges (subst (λ l. ReadsAmong l (any_character ++ ranges)) (sym same) reads)
