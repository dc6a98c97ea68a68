-- The members of an object with their values replaced.
use Rattle.std.specs.Prelude.{List, map}
use Rattle.helix_json.specs.declared.value.Member.{Member}
use Rattle.helix_legacy.specs.Today.{member, constraint_today, constraints_today}

abbrev pub operands : List Member → List Member
operands members = map (λ old. member old.key (constraint_today old.value)) members

abbrev pub branches : List Member → List Member
branches members = map (λ old. member old.key (constraints_today old.value)) members
