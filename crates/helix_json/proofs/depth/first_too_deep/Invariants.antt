use Rattle.helix_json.proofs.Levels.{Counted}
use Rattle.helix_json.proofs.depth.first_too_deep.Given as goal

abbrev pub invariant-loop-i : goal.invariant-loop-i
invariant-loop-i l = Counted l.tokens l.i l.level
