-- The first of some rules that is broken, and the first place where it is.
use Rattle.std.specs.Prelude.{◌≡◌, ℕ, ◌<◌, List, Option, Some, None, slice_get}
use Rattle.helix_fields.specs.Fields.{IsNowhere}
use Rattle.helix_json.specs.declared.value.Json.{Json}
use Rattle.helix_places.specs.Places.{IsFirstPlace}
use Rattle.helix_profile.specs.declared.field.Field.{Field}
use Rattle.helix_rules.specs.declared.rule.Rule.{Rule}
use Rattle.helix_rules.specs.declared.breach.Breach.{Breach}
use Rattle.helix_rules.specs.Broken.{Broken}

-- the rule of the breach is the first that is broken, and its place the first where that is broken
pub record IsFirstBreach (fields : List Field) (rules : List Rule) (v : Json) (breach : Breach) : Type 0 where
  pub index : ℕ
  pub listed : slice_get rules index ≡ Some breach.rule
  pub earlier : (k : ℕ) → k < index → (rule : Rule) → slice_get rules k ≡ Some rule → IsNowhere (Broken fields rule) v
  pub first : IsFirstPlace v (Broken fields breach.rule v) breach.place

-- the first breach, or None where none of the rules is broken
abbrev pub FindsBreach : List Field → List Rule → Json → Option Breach → Type 0
FindsBreach fields rules v None =
    (k : ℕ) (rule : Rule) → slice_get rules k ≡ Some rule → IsNowhere (Broken fields rule) v
FindsBreach fields rules v (Some breach) = IsFirstBreach fields rules v breach
