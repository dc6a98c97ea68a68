-- Steps among arcs, and the fork at a code.
use Rattle.std.proofs.Common.{◌≡◌, inl, inr, ℕ, ◌+◌, ◌-◌, ◌<◌, ◌≤◌, true, Some, None, List, length, get_or, sym, ap, ◌∙◌, subst, arith, length-drop}
use Rattle.std.proofs.lemmas.Bool.{cases_lt}
use Rattle.std.proofs.lemmas.List.{get_or_default, get_or-drop, get_or-take, length-take-le}
use Rattle.helix_automata.specs.declared.arc.Arc.{Arc}
use Rattle.helix_automata.specs.Automaton.{Automaton, holds}
use Rattle.helix_automata.proofs.Covering.{held}
use Rattle.helix_words.specs.declared.step.Step.{Step}
use Rattle.helix_words.specs.Words.{WordSet}
use Rattle.helix_words.specs.Inner.Reaching.{AreReaching, IsHeld, AreArcsTo, AreArcsOnFrom, IsLeastIn}
use Rattle.helix_words.specs.Inner.Rests.{HasRest, IsStepFrom}
use Rattle.helix_words.specs.Inner.Tables.{IsArcFrom, AreArcsFrom}
use Rattle.helix_words.proofs.Stepping.{HoldsNone, Passed, passed_none, passed_dead, passed_empty, step_found, step_none}

-- the arcs of a state that reach a code
module _ (words : WordSet) (state code : ℕ) (row reaching : List Arc)
    (are : AreArcsFrom words.automaton words.longest state row) (reach : AreReaching row code reaching) where
  read : (i : ℕ) (d : Arc) → get_or reaching i d ≡ get_or row (reach.skipped + i) d
  read i d = ap (λ l. get_or l i d) reach.are ∙ get_or-drop reach.skipped row i d

  left : length reaching + reach.skipped ≡ length row
  left = omega (arith, ap length reach.are, length-drop reach.skipped row, reach.within)

  each : (i : ℕ) (d : Arc) → i < length reaching → IsArcFrom words.automaton state (get_or reaching i d)
  each i d within =
      subst (IsArcFrom words.automaton state) (sym (read i d)) (are.each (reach.skipped + i) d
      (omega (arith, left, within)))

  where_held : (from : ℕ) (other : Step) → code ≤ from → from ≤ other.character → (arc : Arc) (k : ℕ) → k < length row
      → get_or row k arc ≡ arc → holds other.character arc ≡ true → IsHeld other.character reaching
  where_held from other low high arc k within at holding = elim (cases_lt k reach.skipped) [
    | inl before ↦
        (let below = reach.below k arc (omega (arith, length-take-le reach.skipped row reach.within, before)) in
        let is = ap (λ (a : Arc). a.last) (get_or-take reach.skipped row k arc before ∙ at) in
        let h = held other.character arc holding in absurd (omega (arith, below, is, h.1, high, low)))
    | inr after ↦ (let (i, sum) = split after in (
      i,
      omega (arith, left, within, sum),
      (λ d. subst (λ a. holds other.character a ≡ true)
          (sym (read i d ∙ ap (λ n. get_or row n d) sum ∙ get_or_default row k d arc within ∙ at)) holding),
    ))
  ]
    where
      split : reach.skipped ≤ k → (i : ℕ) × (reach.skipped + i ≡ k)
      split after = (k - reach.skipped, omega (arith, after))

  pub arcs_on : AreArcsOnFrom words state code reaching
  arcs_on = record {
    each = each;
    are = λ from rest low short. record {
      each = each;
      in_order = λ i j d less within.
          let order = are.in_order (reach.skipped + i) (reach.skipped + j) d (omega (arith, less))
          (omega (arith, left, within)) in
          omega (arith, order, ap (λ (a : Arc). a.last) (read i d), ap (λ (a : Arc). a.first) (read j d));
      all = λ other goes high.
          let (arc, has, holding) = are.all other.character other.to rest goes.leads short goes.has_rest in
          where_held from other low high arc has.0 has.1 has.2 holding;
    };
    few = omega (arith, left, are.few);
    reaches = reach.reaches;
  }

-- the same of each state whose arcs they are
abbrev pub ArePassed : Automaton → ℕ → ℕ → List Arc → ℕ → Type 0
ArePassed automaton from rest arcs bound = (state : ℕ) → AreArcsTo automaton state from rest arcs
    → Passed automaton state from rest arcs bound

module _ (automaton : Automaton) (from rest : ℕ) (arcs : List Arc) where
  pub arcs_begun : ArePassed automaton from rest arcs 0
  arcs_begun state are = passed_none automaton state from rest arcs are

  module _ (i : ℕ) (d : Arc) (within : i < length arcs) (passed : ArePassed automaton from rest arcs i) where
    at : get_or arcs i (get_or arcs i d) ≡ get_or arcs i d
    at = get_or_default arcs i (get_or arcs i d) d within

    pub arc_found : (character : ℕ) → HasRest automaton (get_or arcs i d).to rest
        → IsLeastIn (get_or arcs i d) from character
        → (state : ℕ) → AreArcsTo automaton state from rest arcs
        → IsStepFrom automaton state from rest (Some (record { character = character; to = (get_or arcs i d).to }))
    arc_found character has least state are = record {
      some = step_found automaton state from rest arcs are i (get_or arcs i d) within at (passed state are) character
          has least;
      none = tt;
    }

    pub arc_dead : ¬ (HasRest automaton (get_or arcs i d).to rest) → ArePassed automaton from rest arcs (i + 1)
    arc_dead dead state are =
        passed_dead automaton state from rest arcs are i (get_or arcs i d) within at (passed state are) dead

    pub arc_empty : HoldsNone from (get_or arcs i d) → ArePassed automaton from rest arcs (i + 1)
    arc_empty none state are =
        passed_empty automaton state from rest arcs are i (get_or arcs i d) within at (passed state are) none

  pub arcs_none : (bound : ℕ) → length arcs ≤ bound → ArePassed automaton from rest arcs bound
      → (state : ℕ) → AreArcsTo automaton state from rest arcs → IsStepFrom automaton state from rest None
  arcs_none bound past passed state are = step_none automaton state from rest arcs are bound past (passed state are)
