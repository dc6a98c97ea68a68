use Rattle.std.proofs.Common.{◌≡◌, [], Some}
use Rattle.helix_json.specs.Inner.Machine.{run, value}
use Rattle.helix_json.specs.Inner.Building.{reading_of}
use Rattle.helix_json.proofs.build.build.Given as goal

abbrev pub invariant-loop-token : goal.invariant-loop-token
invariant-loop-token l = (goal.iterator-loop-token).can_next l.token-iterator
    × (goal.iterator-loop-token).is_finite l.token-iterator
    × (run (value []) l.yielded ≡ Some (reading_of l.next l.frames.items))
