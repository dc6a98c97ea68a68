-- The lines of the members of an object, as code sees them.
use Rattle.std.specs.Prelude.{List, flat_map}
use Rattle.helix_json.specs.declared.value.Member.{Member}
use Rattle.helix_profile.specs.declared.field.Field.{Field}
use Rattle.helix_profile.specs.declared.relation.Relation.{Relation}
use Rattle.helix_rules.specs.Lines.{lines_in, list_lines}

-- the values are constraints
abbrev pub operands : List Field → List Member → List Relation
operands fields = flat_map (λ member. lines_in fields member.value)

-- the values are lists of constraints
abbrev pub branches : List Field → List Member → List Relation
branches fields = flat_map (λ member. list_lines fields member.value)
