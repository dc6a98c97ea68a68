-- The first breach of a rule.
use Rattle.std.specs.Prelude.{List, Option, Some, None, codes}
use Rattle.helix_json.specs.declared.value.Json.{Json}
use Rattle.helix_legacy.specs.declared.breach.Breach.{Breach}
use Rattle.helix_places.specs.declared.place.Step.{Step}
use Rattle.helix_legacy.specs.Broken.{IsUnbroken, IsFirstBroken}
use Rattle.helix_places.specs.Places.{InMember}
use Rattle.helix_legacy.specs.Visited.{BreaksTests, many}

-- L4 in a rule
abbrev pub InConstraints : Json → List Step → Type 0
InConstraints = InMember (codes "constraints") (BreaksTests many)

-- the first broken rule with its first place, or None where no rule is broken
abbrev pub IsBreach : Json → Option Breach → Type 0
IsBreach v None = IsUnbroken v
IsBreach v (Some breach) = IsFirstBroken v breach.rule breach.place
