use Rattle.std.proofs.Common.{take}
use Rattle.std.specs.List.{Any, Contains}
use Rattle.helix_rows.proofs.layout.level_of.Given as goal

abbrev pub invariant-loop-number : goal.invariant-loop-number
invariant-loop-number l = ¬ (Any (λ part. Contains part.fields l.field) (take l.number l.parts))
