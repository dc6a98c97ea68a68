use Rattle.std.proofs.Common.{◌≡◌, map, take}
use Rattle.helix_output.specs.Csv.{csv_string, joined}
use Rattle.helix_output.proofs.names.csv_names.Given as goal

abbrev pub invariant-loop-i : goal.invariant-loop-i
invariant-loop-i l = l.head.items ≡ joined (take l.i (map (λ field. csv_string field.name) l.fields))
