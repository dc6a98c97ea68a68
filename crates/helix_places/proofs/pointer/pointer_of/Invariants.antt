use Rattle.std.proofs.Common.{◌≡◌, ◌-◌, ◌∷◌, length, drop, reverse, flat_map}
use Rattle.helix_places.specs.Pointers.{step_text}
use Rattle.helix_places.proofs.pointer.pointer_of.Given as goal

abbrev pub invariant-loop-i : goal.invariant-loop-i
invariant-loop-i l = l.text ≡ 35 ∷ flat_map step_text (reverse (drop (length l.steps - l.i) l.steps))
