-- The least step from a code on, among the arcs that reach it.
use Rattle.std.proofs.Common.{◌≡◌, ◌⊎◌, inl, inr, ℕ, zero, suc, ◌+◌, ◌<◌, ◌≤◌, true, List, length, get_or, drop, None, sym, ap, ◌∙◌, subst, arith, length-drop}
use Rattle.std.proofs.lemmas.Bool.{cases_lt}
use Rattle.std.proofs.lemmas.List.{get_or_default}
use Rattle.std.proofs.lemmas.List.Elements.{All-drop}
use Rattle.std.proofs.lemmas.Grind.{get_or_after_one}
use Rattle.helix_automata.specs.declared.arc.Arc.{Arc}
use Rattle.helix_automata.specs.Automaton.{Automaton, holds}
use Rattle.helix_automata.specs.Shape.{IsCharacter}
use Rattle.helix_automata.proofs.Covering.{held}
use Rattle.helix_words.specs.declared.step.Step.{Step}
use Rattle.helix_words.specs.Inner.Reaching.{IsHeld, AreArcsTo, IsLeastIn}
use Rattle.helix_words.specs.Inner.Rests.{HasRest, LeadsToRest, IsLeastStep, IsStepFrom}
use Rattle.helix_words.specs.Inner.Tables.{IsArcFrom}
use Rattle.helix_words.proofs.Paths.{leads_once}

-- the arc holds no character from a code on
abbrev pub HoldsNone : ℕ → Arc → Type 0
HoldsNone from arc = (character : ℕ) → IsCharacter character → from ≤ character → ¬ (holds character arc ≡ true)

-- no arc before an index holds a character from the code on that leads to a rest
abbrev pub Passed : Automaton → ℕ → ℕ → ℕ → List Arc → ℕ → Type 0
Passed automaton state from rest arcs bound = (i : ℕ) (d : Arc) → i < bound → (other : Step)
    → LeadsToRest automaton state rest other → from ≤ other.character
    → ¬ (holds other.character (get_or arcs i d) ≡ true)

module _ (automaton : Automaton) (state from rest : ℕ) (arcs : List Arc) (are : AreArcsTo automaton state from rest
    arcs) where
  -- before the first arc
  pub passed_none : Passed automaton state from rest arcs 0
  passed_none i d less = absurd (omega (arith, less))

  module _ (i : ℕ) (arc : Arc) (within : i < length arcs) (at : get_or arcs i arc ≡ arc)
      (passed : Passed automaton state from rest arcs i) where
    same : (d : Arc) → get_or arcs i d ≡ arc
    same d = get_or_default arcs i d arc within ∙ at

    arc_is : IsArcFrom automaton state arc
    arc_is = subst (IsArcFrom automaton state) at (are.each i arc within)

    -- an arc that holds none is passed too
    passed_more : ((other : Step) → LeadsToRest automaton state rest other → from ≤ other.character
        → ¬ (holds other.character arc ≡ true)) → Passed automaton state from rest arcs (i + 1)
    passed_more none k d less other goes high holding = elim (cases_lt k i) [
      | inl before ↦ passed k d before other goes high holding
      | inr here ↦ (let is : k ≡ i = omega (arith, here, less) in none other goes high
          (subst (λ a. holds other.character a ≡ true) (ap (λ n. get_or arcs n d) is ∙ same d) holding))
    ]

    -- it leads to a state without such a rest
    pub passed_dead : ¬ (HasRest automaton arc.to rest) → Passed automaton state from rest arcs (i + 1)
    passed_dead dead = passed_more (λ other goes high holding.
        let is : other.to ≡ arc.to = leads_once automaton state other.character other.to arc.to goes.leads
        (arc_is.leads other.character holding) in
        dead (subst (λ s. HasRest automaton s rest) is goes.has_rest))

    -- no character is left for it
    pub passed_empty : HoldsNone from arc → Passed automaton state from rest arcs (i + 1)
    passed_empty none = passed_more (λ other goes high. none other.character goes.is_character high)

    -- it holds the least
    pub step_found : (character : ℕ) → HasRest automaton arc.to rest → IsLeastIn arc from character
        → IsLeastStep automaton state from rest (record { character = character; to = arc.to })
    step_found character has least = record {
      goes_on = record {
        is_character = least.is_character;
        leads = arc_is.leads character least.held;
        has_rest = has;
      };
      to_within = arc_is.within;
      reached = least.reached;
      least = λ other goes high.
          let (k, in_arcs, holding) = are.all other goes high in
          by other goes high k in_arcs holding (cases_lt k i) (cases_lt i k);
    }
      where
        by : (other : Step) → LeadsToRest automaton state rest other → from ≤ other.character → (k : ℕ)
            → k < length arcs → ((d : Arc) → holds other.character (get_or arcs k d) ≡ true)
            → (k < i) ⊎ (i ≤ k) → (i < k) ⊎ (k ≤ i) → character ≤ other.character
        by other goes high k in_arcs holding (inl before) order =
            absurd (passed k arc before other goes high (holding arc))
        by other goes high k in_arcs holding (inr from_here) (inl after) =
            let here = held character arc least.held in
            let there = held other.character (get_or arcs k arc) (holding arc) in
            let above = are.in_order i k arc after in_arcs in
            omega (arith, here.1, there.0, above, ap (λ (a : Arc). a.last) at)
        by other goes high k in_arcs holding (inr from_here) (inr to_here) =
            let is : k ≡ i = omega (arith, from_here, to_here) in
            least.least other.character goes.is_character high
            (subst (λ a. holds other.character a ≡ true) (ap (λ n. get_or arcs n arc) is ∙ at) (holding arc))

  -- after the last arc
  pub step_none : (bound : ℕ) → length arcs ≤ bound → Passed automaton state from rest arcs bound
      → IsStepFrom automaton state from rest None
  step_none bound past passed = record {
    some = tt;
    none = λ other goes high.
        let (i, within, holding) = are.all other goes high in
        let d : Arc = record { first = 0; last = 0; to = 0 } in
        passed i d (omega (arith, within, past)) other goes high (holding d);
  }

  -- the arcs after a first one that is passed
  pub arcs_after : Passed automaton state from rest arcs 1 → AreArcsTo automaton state from rest (drop 1 arcs)
  arcs_after passed = record {
    each = All-drop (IsArcFrom automaton state) 1 arcs are.each;
    in_order = λ i j d less within.
        let order = are.in_order (1 + i) (1 + j) d (omega (arith, less)) (omega (arith, within, length-drop 1 arcs)) in
        omega (
          arith,
          order,
          ap (λ (a : Arc). a.last) (get_or_after_one arcs i d),
          ap (λ (a : Arc). a.first) (get_or_after_one arcs j d),
        );
    all = λ other goes high. by other goes high (are.all other goes high);
  }
    where
      by : (other : Step) → LeadsToRest automaton state rest other → from ≤ other.character
          → IsHeld other.character arcs → IsHeld other.character (drop 1 arcs)
      by other goes high (zero, within, holding) =
          let d : Arc = record { first = 0; last = 0; to = 0 } in
          absurd (passed 0 d (omega arith) other goes high (holding d))
      by other goes high (suc i, within, holding) = (
        i,
        omega (arith, within, length-drop 1 arcs),
        (λ d. let next : 1 + i ≡ suc i = omega arith in
            subst (λ a. holds other.character a ≡ true)
            (sym (get_or_after_one arcs i d ∙ ap (λ n. get_or arcs n d) next)) (holding d)),
      )
