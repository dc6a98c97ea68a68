use Rattle.std.proofs.Common.{◌≡◌, ◌++◌, take}
use Rattle.helix_words.specs.Inner.Rows.{live_arcs}
use Rattle.helix_words.proofs.rows.push_row.Given as goal

abbrev pub invariant-loop-arc : goal.invariant-loop-arc
invariant-loop-arc l = l.arcs ≡ l.initial.arcs ++ live_arcs l.table.blocks (take l.arc-index l.row)
