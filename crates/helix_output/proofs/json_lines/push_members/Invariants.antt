use Rattle.std.proofs.Common.{◌≡◌, ◌++◌, take}
use Rattle.helix_output.specs.Csv.{joined}
use Rattle.helix_output.specs.JsonLines.{json_members}
use Rattle.helix_output.proofs.json_lines.push_members.Given as goal

abbrev pub invariant-loop-i : goal.invariant-loop-i
invariant-loop-i l = l.out.items ≡ l.initial.out.items ++ joined (take l.i (json_members l.fields l.row))
