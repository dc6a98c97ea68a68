use Rattle.std.proofs.Common.{◌≡◌, map, take}
use Rattle.helix_output.specs.JsonLines.{json_name}
use Rattle.helix_output.proofs.names.json_names.Given as goal

abbrev pub invariant-loop-field : goal.invariant-loop-field
invariant-loop-field l = l.names ≡ map json_name (take l.field-index l.fields)
