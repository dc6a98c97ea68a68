use Rattle.std.proofs.Common.{◌≡◌, length, take}
use Rattle.helix_generate.proofs.cells.set_cells.Given as goal

abbrev pub invariant-loop-i : goal.invariant-loop-i
invariant-loop-i l = (take l.i l.row ≡ take l.i l.cells) × (length l.row ≡ length l.cells)
