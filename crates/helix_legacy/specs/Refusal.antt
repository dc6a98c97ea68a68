-- What a refusal says: the first broken rule and the pointer of its first place. Memory that runs out says nothing.
use Rattle.std.specs.Prelude.{◌≡◌, List}
use Rattle.helix_json.specs.declared.value.Json.{Json}
use Rattle.helix_legacy.specs.declared.fault.LegacyFault.{LegacyFault}
use Rattle.helix_legacy.specs.declared.fault.LegacyFault.TheVariants as fault
use Rattle.helix_places.specs.declared.place.Step.{Step}
use Rattle.helix_legacy.specs.Broken.{IsFirstBroken}
use Rattle.helix_places.specs.Pointers.{pointer_of}

abbrev pub Refuses : Json → LegacyFault → Type 0
Refuses v (fault.Refused rule text) = (place : List Step) × IsFirstBroken v rule place × (text ≡ pointer_of place)
Refuses v fault.Memory = Unit {0}
