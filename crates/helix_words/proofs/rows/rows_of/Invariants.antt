use Rattle.helix_words.specs.Inner.Rows.{AreRowsUpTo}
use Rattle.helix_words.proofs.rows.rows_of.Given as goal

abbrev pub invariant-loop-state : goal.invariant-loop-state
invariant-loop-state l = AreRowsUpTo l.table.blocks l.dfa.moves l.state l.starts l.arcs
