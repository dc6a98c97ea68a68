-- The values of a field that a search asks for.
use Rattle.std.specs.Prelude.{◌≡◌, false}
use Rattle.helix_values.specs.declared.cell.Cell.{Cell}
use Rattle.helix_values.specs.Class.{Class, class_of_kind}
use Rattle.helix_values.specs.UniverseLaws.{in_widest}
use Rattle.helix_domains.specs.Domain.{IsInDomain}
use Rattle.helix_search.specs.Bounds.{IsValue}
use Rattle.helix_relations.specs.declared.part.Part.{Part}

abbrev pub class_of_part : Part → Class
class_of_part part = class_of_kind part.domain.field.kind

-- a value of the domain, where null isn't alone allowed
pub record IsPartValue (part : Part) (v : Cell) : Type 0 where
  pub values : part.only_null ≡ false
  pub in_domain : IsInDomain part.domain v

-- it is one of the class
pub of_class : (part : Part) (v : Cell) → IsPartValue part v → IsValue (class_of_part part) v
of_class part v is = in_widest part.domain.field.kind v is.in_domain.in_universe
