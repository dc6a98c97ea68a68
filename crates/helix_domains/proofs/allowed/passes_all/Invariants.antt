use Rattle.std.proofs.Common.{take}
use Rattle.std.specs.List.{All}
use Rattle.helix_values.specs.View.{cell_of}
use Rattle.helix_domains.specs.Domain.{PassesAtom}
use Rattle.helix_domains.proofs.allowed.passes_all.Given as goal

abbrev pub invariant-loop-index : goal.invariant-loop-index
invariant-loop-index l = All (λ signed. PassesAtom signed (cell_of l.value)) (take l.index l.atoms)
