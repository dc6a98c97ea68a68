-- Going back along a trail.
use Rattle.std.proofs.Common.{◌≡◌, ℕ, ◌+◌, ◌-◌, ◌<◌, ◌≤◌, List, length, get_or, slice_index, All, Option, Some, None, subst, arith}
use Rattle.helix_automata.specs.Automaton.{Automaton}
use Rattle.helix_automata.specs.Shape.{IsCharacter}
use Rattle.helix_words.specs.declared.step.Step.{Step}
use Rattle.helix_words.specs.Trails.{AreAlong}
use Rattle.helix_words.specs.Inner.Rests.{IsStepFrom}
use Rattle.helix_words.specs.Inner.Walks.{IsBranchOf}
use Rattle.helix_words.proofs.AlongTrails.{along_path}
use Rattle.helix_words.proofs.Walking.{AreApart, apart_all, apart_more, apart_step, apart_none}

module _ (automaton : Automaton) (word states : List ℕ) (along : AreAlong automaton word states) (count back : ℕ)
    (whole : count ≡ length word) where
  pub back_none : back ≡ 0 → AreApart automaton word (count - back)
  back_none start = apart_all automaton word (count - back) (omega (arith, whole, start))

  -- at the first place
  pub back_all : count ≤ back → AreApart automaton word (count - back) → IsBranchOf automaton word None
  back_all past apart = apart_none automaton word (count - back) (omega (arith, past)) apart

  module _ (less : back < count) (state code : ℕ) (is_state : state ≡ slice_index states (count - back - 1))
      (is_code : code ≡ get_or word (count - back - 1) 0) (apart : AreApart automaton word (count - back)) where
    apart_next : AreApart automaton word (count - back - 1 + 1)
    apart_next = let next : count - back ≡ count - back - 1 + 1 = omega (arith, less) in
        subst (AreApart automaton word) next apart

    there : (step : Option Step) → IsStepFrom automaton state (code + 1) back step
        → IsStepFrom automaton (slice_index states (count - back - 1)) (get_or word (count - back - 1) 0 + 1)
        (length word - (count - back - 1) - 1) step
    there step steps =
        let left : back ≡ length word - (count - back - 1) - 1 = omega (arith, whole, less) in
        subst (λ n. IsStepFrom automaton (slice_index states (count - back - 1))
        (get_or word (count - back - 1) 0 + 1) n step) left
        (subst (λ c. IsStepFrom automaton (slice_index states (count - back - 1)) (c + 1) back step) is_code
        (subst (λ s. IsStepFrom automaton s (code + 1) back step) is_state steps))

    -- no step at the place
    pub back_more : IsStepFrom automaton state (code + 1) back None → AreApart automaton word (count - (back + 1))
    back_more steps =
        let next : count - back - 1 ≡ count - (back + 1) = omega arith in
        subst (AreApart automaton word) next
        (apart_more automaton word (count - back - 1) (slice_index states (count - back - 1))
        (omega (arith, whole, less))
        (along_path automaton word states along (count - back - 1) (omega (arith, whole))) apart_next
        (there None steps))

    -- a step at the place
    pub back_step : All IsCharacter word → (step : Step) → IsStepFrom automaton state (code + 1) back (Some step)
        → IsBranchOf automaton word (Some (record { place = count - back - 1; step = step }))
    back_step characters step steps =
        apart_step automaton word (count - back - 1) (slice_index states (count - back - 1))
        (omega (arith, whole, less))
        (along_path automaton word states along (count - back - 1) (omega (arith, whole))) apart_next characters step
        (there (Some step) steps)
