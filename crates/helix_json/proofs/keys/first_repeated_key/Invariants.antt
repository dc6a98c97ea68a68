use Rattle.helix_json.proofs.Checked.{Checked}
use Rattle.helix_json.proofs.keys.first_repeated_key.Given as goal

abbrev pub invariant-loop-i : goal.invariant-loop-i
invariant-loop-i l = Checked l.tokens l.i l.seen.keys l.outer.items l.start
