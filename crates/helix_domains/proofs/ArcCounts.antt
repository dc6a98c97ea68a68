-- A state has at most as many arcs as there are characters.
use Rattle.std.proofs.Common.{◌≡◌, ℕ, ◌+◌, ◌≤◌, ◌<◌, List, [], ◌∷◌, length, get_or, refl, sym, ◌∙◌, ap, inl, inr, ◌⊎◌, arith, ⊎_elim, IsTrue}
use Rattle.std.specs.List.{All}
use Rattle.std.proofs.lemmas.Bool.{cases_lt, and_parts, leb-true}
use Rattle.std.proofs.lemmas.Bool.Decides.{nat_tests}
use Rattle.std.proofs.lemmas.List.{get_or_default}
use Rattle.std.proofs.lemmas.List.Elements.{All-head, All-tail}
use Rattle.helix_automata.specs.declared.arc.Arc.{Arc}
use Rattle.helix_automata.specs.Automaton.{Automaton, arcs_of, holds, most_in}
use Rattle.helix_automata.specs.Shape.{IsCharacter, AreArcs, AreInOrder, HasCharacter}
use Rattle.helix_values.specs.Counts.{characters, characters_below}

ranges : (c : ℕ) → IsCharacter c → ((32 ≤ c) × (c ≤ 126)) ⊎ (((160 ≤ c) × (c ≤ 55295)) ⊎ ((57344 ≤ c) × (c ≤ 1114111)))
ranges c is =
    ⊎_elim {A = c < 127} {B = 127 ≤ c} (λ low. inl (grind (arith, nat_tests)))
    (λ higher.
    ⊎_elim {A = c < 55296} {B = 55296 ≤ c} (λ middle. inr (inl (grind (arith, nat_tests))))
    (λ high. inr (inr (grind (arith, nat_tests)))) (cases_lt c 55296))
    (cases_lt c 127)

-- a character counts above all codes up to it, and below all codes above it
counts : (b c d : ℕ) → IsCharacter c → b ≤ c → c < d → characters_below b + 1 ≤ characters_below d
counts b c d is low high =
    elim (ranges c is) [
      | inl at ↦ omega (arith, at.0, at.1)
      | inr (inl at) ↦ omega (arith, at.0, at.1)
      | inr (inr at) ↦ omega (arith, at.0, at.1)
    ]

most : (c : ℕ) → characters_below c ≤ characters
most c = omega arith

-- the code of an arc's character is between its ends
between : (code : ℕ) (arc : Arc) → IsTrue (holds code arc) → (arc.first ≤ code) × (code ≤ arc.last)
between code arc held = let parts = and_parts _ _ held in (
  leb-true arc.first code parts.0,
  leb-true code arc.last
      parts.1,
)

few_from : (arcs : List Arc) (bound : ℕ) → AreInOrder arcs → All HasCharacter arcs
    → ((arc : Arc) (rest : List Arc) → arcs ≡ arc ∷ rest → bound ≤ arc.first)
    → length arcs + characters_below bound ≤ characters
few_from [] bound ordered used low = omega (arith, most bound)
few_from (arc ∷ []) bound ordered used low =
    let has = All-head HasCharacter arc [] used in
    let held = between has.0 arc has.2 in
    let one : characters_below bound + 1 ≤ characters_below (arc.last + 1) =
    counts bound has.0 (arc.last + 1) has.1 (omega (arith, low arc [] refl, held.0)) (omega (arith, held.1)) in
    omega (arith, one, most (arc.last + 1))
few_from (arc ∷ next ∷ arcs) bound ordered used low =
    let has = All-head HasCharacter arc (next ∷ arcs) used in
    let held = between has.0 arc has.2 in
    let one : characters_below bound + 1 ≤ characters_below (arc.last + 1) =
    counts bound has.0 (arc.last + 1) has.1 (omega (arith, low arc (next ∷ arcs) refl, held.0))
    (omega (arith, held.1)) in
    let rest : length (next ∷ arcs) + characters_below (arc.last + 1) ≤ characters =
    few_from (next ∷ arcs) (arc.last + 1) ordered.1 (All-tail HasCharacter arc (next ∷ arcs) used)
    (λ a r is. let same : next ≡ a = cc in omega (arith, ordered.0, ap (λ x. x.first) same)) in
    omega (arith, one, rest)

pub few_arcs : (states : ℕ) (arcs : List Arc) → AreArcs states arcs → length arcs ≤ characters
few_arcs states arcs are =
    let few : length arcs + characters_below 0 ≤ characters =
    few_from arcs 0 are.in_order are.used (λ arc rest is. omega arith) in
    omega (arith, few)

pub few_in : (rows : List (List Arc)) → All (λ arcs. length arcs ≤ characters) rows → most_in rows ≤ characters
few_in [] few = omega arith
few_in (arcs ∷ rows) few =
    omega (
      arith,
      All-head (λ a. length a ≤ characters) arcs rows few,
      few_in rows (All-tail (λ a. length a ≤ characters) arcs rows few),
    )

-- the arcs of one state more
pub few_more : (dfa : Automaton) (state : ℕ) (arcs : List Arc) {states : ℕ} → states ≡ length dfa.moves → state < states
    → arcs ≡ arcs_of dfa state → AreArcs (length dfa.moves) arcs
    → ((k : ℕ) (d : List Arc) → k < state → length (get_or dfa.moves k d) ≤ characters)
    → (k : ℕ) (d : List Arc) → k < state + 1 → length (get_or dfa.moves k d) ≤ characters
few_more dfa state arcs number within value shape so_far k d below = ⊎_elim (so_far k d) here (cases_lt k state)
  where
    here : state ≤ k → length (get_or dfa.moves k d) ≤ characters
    here reached =
        let same : k ≡ state = omega (arith, reached, below) in
        let read : get_or dfa.moves k d ≡ arcs = ap (λ j. get_or dfa.moves j d) same
        ∙ get_or_default dfa.moves state d [] (omega (arith, within, number)) ∙ sym value in
        omega (arith, ap length read, few_arcs (length dfa.moves) arcs shape)
