use Rattle.std.proofs.Common.{◌≡◌, ◌++◌, take, flat_map}
use Rattle.helix_places.specs.Pointers.{escaped}
use Rattle.helix_places.proofs.pointer.push_key.Given as goal

abbrev pub invariant-loop-code : goal.invariant-loop-code
invariant-loop-code l = l.text ≡ l.initial.text ++ flat_map escaped (take l.code-index l.key)
