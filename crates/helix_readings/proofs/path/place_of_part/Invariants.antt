use Rattle.std.proofs.Common.{◌≡◌, [], ◌∷◌, ◌++◌, reverse, take}
use Rattle.helix_readings.proofs.path.place_of_part.Given as goal

abbrev pub invariant-loop-step : goal.invariant-loop-step
invariant-loop-step l = l.inner ≡ reverse (take l.step-index l.step-items) ++ l.fn.last ∷ []
