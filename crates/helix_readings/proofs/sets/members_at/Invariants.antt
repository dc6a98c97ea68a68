use Rattle.std.proofs.Common.{take}
use Rattle.helix_readings.proofs.Searching.{NoneWith}
use Rattle.helix_readings.proofs.sets.members_at.Given as goal

abbrev pub invariant-loop-set : goal.invariant-loop-set
invariant-loop-set l = NoneWith l.place (take l.set-index l.sets)
