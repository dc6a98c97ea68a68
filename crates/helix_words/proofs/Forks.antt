-- The fork at a code.
use Rattle.std.proofs.Common.{◌≡◌, ◌<◌, ◌≤◌, ℕ, zero, suc, ◌+◌, true, Option, Some, None, IfSome, IfNone, List, length, drop, take, get_or, refl, sym, subst, arith, ◌-◌, length-drop}
use Rattle.std.proofs.lemmas.List.{take_all}
use Rattle.helix_automata.specs.declared.arc.Arc.{Arc}
use Rattle.helix_automata.specs.Automaton.{Automaton, holds}
use Rattle.helix_automata.specs.Shape.{IsCharacter}
use Rattle.helix_automata.proofs.Covering.{held, held_within}
use Rattle.helix_words.specs.declared.step.Step.{Step}
use Rattle.helix_words.specs.declared.fork.Fork.{Fork}
use Rattle.helix_words.specs.Words.{WordSet}
use Rattle.helix_words.specs.Inner.Reaching.{IsHeld, AreArcsTo, AreArcsOnFrom, GoesOn, IsLeastIn, IsFork}
use Rattle.helix_words.specs.Inner.Rests.{HasRest, LeadsToRest, IsStepFrom}
use Rattle.helix_words.proofs.Paths.{leads_once}
use Rattle.helix_words.proofs.Stepping.{HoldsNone, arcs_after}
use Rattle.helix_words.proofs.StepAnswers.{arcs_begun, arc_found, arc_dead, arc_empty}

character_low : (code : ℕ) → IsCharacter code → code ≤ 1114111
character_low code is = grind arith

printable : (code : ℕ) → 0x20 ≤ code → code ≤ 0x7E → IsCharacter code
printable code low high = grind arith

-- the arcs after the first one
pub later_are : (arcs : List Arc) → take (length arcs - 1) (drop 1 arcs) ≡ drop 1 arcs
later_are arcs = take_all (length arcs - 1) (drop 1 arcs) (omega (arith, length-drop 1 arcs))

module _ (words : WordSet) (state code rest : ℕ) (short : rest < words.longest) (arcs : List Arc)
    (on : AreArcsOnFrom words state code arcs) where
  -- those that hold the characters above the code
  above : AreArcsTo words.automaton state (code + 1) rest arcs
  above = on.are (code + 1) rest (omega arith) short

  -- the first of the arcs is the only one that may hold the code
  first_holds : (to : ℕ) → LeadsToRest words.automaton state rest (record { character = code; to = to })
      → (d : Arc) → (0 < length arcs) × (holds code (get_or arcs 0 d) ≡ true) × ((get_or arcs 0 d).to ≡ to)
  first_holds to goes d = by ((on.are code rest (omega arith) short).all (record { character = code; to = to }) goes
      (omega arith))
    where
      by : IsHeld code arcs → (0 < length arcs) × (holds code (get_or arcs 0 d) ≡ true) × ((get_or arcs 0 d).to ≡ to)
      by (zero, within, holding) = (
        within,
        holding d,
        leads_once words.automaton state code (get_or arcs 0 d).to to
            ((on.each 0 d within).leads code (holding d)) goes.leads,
      )
      by (suc i, within, holding) =
          let h = held code (get_or arcs (suc i) d) (holding d) in
          let later = above.in_order 0 (suc i) d (omega arith) within in
          let high = on.reaches d (omega (arith, within)) in absurd (omega (arith, h.0, later, high))

  -- there is no arc
  pub fork_none : length arcs ≡ 0 → IsFork words.automaton state code rest (record { along = None; above = None })
  fork_none none = record {
    along = tt;
    within = tt;
    stuck = λ to goes.
        let d : Arc = record { first = 0; last = 0; to = 0 } in omega (arith, (first_holds to goes d).0, none);
    above = record { some = tt; none = λ other goes high. omega (arith, (above.all other goes high).1, none) };
  }

  -- no character is as great as the code
  pub fork_last : code ≡ 4294967295 → IsFork words.automaton state code rest (record { along = None; above = None })
  fork_last last = record {
    along = tt;
    within = tt;
    stuck = λ to goes. let low = character_low code goes.is_character in omega (arith, low, last);
    above = record {
      some = tt;
      none = λ other goes high.
          let low = character_low other.character goes.is_character in omega (arith, low, last, high);
    };
  }

  module _ (d : Arc) (within : 0 < length arcs) where
    -- the first arc leads to no such rest
    pub fork_dead : ¬ (HasRest words.automaton (get_or arcs 0 d).to rest) → (step : Option Step)
        → ((state : ℕ) → AreArcsTo words.automaton state (code + 1) rest (drop 1 arcs)
        → IsStepFrom words.automaton state (code + 1) rest step)
        → IsFork words.automaton state code rest (record { along = None; above = step })
    fork_dead dead step steps = record {
      along = tt;
      within = tt;
      stuck = λ to goes.
          let first = first_holds to goes d in dead (subst (λ s. HasRest words.automaton s rest)
          (sym first.2) goes.has_rest);
      above = steps state (arcs_after words.automaton state (code + 1) rest arcs above
          (arc_dead words.automaton (code + 1) rest arcs 0 d within (arcs_begun words.automaton (code + 1) rest arcs)
          dead
          state above));
    }

    module _ (has : HasRest words.automaton (get_or arcs 0 d).to rest) (along : Option ℕ)
        (some : IfSome along (λ to. (to ≡ (get_or arcs 0 d).to) × IsCharacter code × (holds code (get_or arcs 0 d)
        ≡ true)))
        (none : IfNone along (IsCharacter code → ¬ (holds code (get_or arcs 0 d) ≡ true))) where
      forked : (step : Option Step) → IsStepFrom words.automaton state (code + 1) rest step
          → IsFork words.automaton state code rest (record { along = along; above = step })
      forked step steps = by along some none
        where
          by : (along : Option ℕ)
              → IfSome along (λ to. (to ≡ (get_or arcs 0 d).to) × IsCharacter code × (holds code (get_or arcs 0 d)
              ≡ true))
              → IfNone along (IsCharacter code → ¬ (holds code (get_or arcs 0 d) ≡ true))
              → IsFork words.automaton state code rest (record { along = along; above = step })
          by None some none = record {
            along = tt;
            within = tt;
            stuck = λ to goes. none goes.is_character (first_holds to goes d).1;
            above = steps;
          }
          by (Some to) (is, character, holding) none =
              let arc = on.each 0 d within in record {
                along = subst (λ s. LeadsToRest words.automaton state rest (record { character = code; to = s }))
                    (sym is)
                    (record { is_character = character; leads = arc.leads code holding; has_rest = has });
                within = omega (arith, arc.within, is);
                stuck = tt;
                above = steps;
              }

      -- the first arc holds a character above the code
      pub fork_here : (character : ℕ) → IsLeastIn (get_or arcs 0 d) (code + 1) character
          → IsFork words.automaton state code rest (record {
            along = along;
            above = Some (record { character = character; to = (get_or arcs 0 d).to });
          })
      fork_here character least = forked (Some (record { character = character; to = (get_or arcs 0 d).to }))
          (arc_found words.automaton (code + 1) rest arcs 0 d within (arcs_begun words.automaton (code + 1) rest arcs)
          character has least state above)

      -- it holds none
      pub fork_later : HoldsNone (code + 1) (get_or arcs 0 d) → (step : Option Step)
          → ((state : ℕ) → AreArcsTo words.automaton state (code + 1) rest (drop 1 arcs)
          → IsStepFrom words.automaton state (code + 1) rest step)
          → IsFork words.automaton state code rest (record { along = along; above = step })
      fork_later empty step steps = forked step (steps state
          (arcs_after words.automaton state (code + 1) rest arcs above
          (arc_empty words.automaton (code + 1) rest arcs 0 d within (arcs_begun words.automaton (code + 1) rest arcs)
          empty
          state above)))

    -- the first arc holds the next code too
    pub fork_goes_on : HasRest words.automaton (get_or arcs 0 d).to rest → GoesOn (get_or arcs 0 d) code
        → IsFork words.automaton state code rest (record {
          along = Some (get_or arcs 0 d).to;
          above = Some (record { character = code + 1; to = (get_or arcs 0 d).to });
        })
    fork_goes_on has goes =
        fork_here has (Some (get_or arcs 0 d).to) (
          refl,
          printable code goes.printable (omega (arith, goes.next_printable)),
          held_within code (get_or arcs 0 d) goes.first_low (omega (arith, goes.last_high)),
        ) tt (code + 1) (record {
          is_character = printable (code + 1) (omega (arith, goes.printable)) (omega (arith, goes.next_printable));
          reached = omega arith;
          held = held_within (code + 1) (get_or arcs 0 d) (omega (arith, goes.first_low))
              (omega (arith, goes.last_high));
          least = λ other character high holding. high;
        })

-- what a fork says at each of its answers
module _ (automaton : Automaton) (state code rest : ℕ) (fork : Fork) (is : IsFork automaton state code rest fork) where
  pub fork_stuck : fork.along ≡ None → (to : ℕ)
      → ¬ LeadsToRest automaton state rest (record { character = code; to = to })
  fork_stuck none = subst (λ along. IfNone along ((to : ℕ)
      → ¬ LeadsToRest automaton state rest (record { character = code; to = to }))) none is.stuck

  pub fork_along : (next : ℕ) → fork.along ≡ Some next
      → LeadsToRest automaton state rest (record { character = code; to = next })
  fork_along next some =
      subst (λ along. IfSome along (λ to. LeadsToRest automaton state rest (record { character = code; to = to })))
      some is.along

  pub fork_within : (next : ℕ) → fork.along ≡ Some next → next < length automaton.moves
  fork_within next some = subst (λ along. IfSome along (λ to. to < length automaton.moves)) some is.within
