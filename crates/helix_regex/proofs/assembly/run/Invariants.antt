use Rattle.std.proofs.Common.{take}
use Rattle.helix_regex.specs.Inner.Building.{Runs}
use Rattle.helix_regex.proofs.assembly.run.Given as goal

abbrev pub invariant-loop-token : goal.invariant-loop-token
invariant-loop-token l = Runs l.initial.builder (take l.token-index l.tokens) l.builder
