use Rattle.std.proofs.Common.{ℕ, ◌<◌, [], get_or}
use Rattle.helix_values.specs.declared.cell.Cell.TheVariants as cell
use Rattle.helix_domains.specs.Inner.Spelling.{HasRest}
use Rattle.helix_domains.proofs.others.spells_none.Given as goal

abbrev pub invariant-loop-number : goal.invariant-loop-number
invariant-loop-number l = (k d : ℕ) → k < l.number-index
    → ¬ HasRest (get_or l.cells (get_or l.numbers k d) cell.Null) l.place []
