use Rattle.std.proofs.Common.{◌≡◌, false, take}
use Rattle.helix_words.specs.Inner.Columns.{leads_to}
use Rattle.helix_words.proofs.column.leads_to.Given as goal

abbrev pub invariant-loop-arc : goal.invariant-loop-arc
invariant-loop-arc l = leads_to l.flags (take l.arc-index l.arcs) ≡ false
