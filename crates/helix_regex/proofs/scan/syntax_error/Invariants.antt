use Rattle.std.proofs.Common.{◌≤◌, take}
use Rattle.helix_regex.proofs.Scanned.{Scanned}
use Rattle.helix_regex.proofs.scan.syntax_error.Given as goal

abbrev pub invariant-loop-i : goal.invariant-loop-i
invariant-loop-i l = record { scanned : Scanned (take l.i l.codes) l.position; shallow : l.position.depth ≤ l.i }
