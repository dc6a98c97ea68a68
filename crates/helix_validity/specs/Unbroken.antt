-- A profile breaks no rule.
use Rattle.std.specs.Prelude.{List, [], ◌∷◌}
use Rattle.helix_fields.specs.Fields.{IsNowhere}
use Rattle.helix_json.specs.declared.value.Json.{Json}
use Rattle.helix_profile.specs.declared.field.Field.{Field}
use Rattle.helix_rules.specs.Broken.{Broken}
use Rattle.helix_rules.specs.declared.rule.Rule.{Rule}
use Rattle.helix_rules.specs.declared.rule.Rule.TheVariants as rule

-- each rule is broken nowhere in the value, where these are the declared fields
abbrev pub IsUnbrokenProfile : List Field → Json → Type 0
IsUnbrokenProfile fields v = (rule : Rule) → IsNowhere (Broken fields rule) v

-- the rules S2 to S21, in the order in which they are tried
abbrev pub profile_rules : List Rule
profile_rules = rule.S2 ∷ rule.S3 ∷ rule.S4 ∷ rule.S5 ∷ rule.S6 ∷ rule.S7 ∷ rule.S8 ∷ rule.S9 ∷ rule.S10 ∷ rule.S11
    ∷ rule.S12 ∷ rule.S13 ∷ rule.S14 ∷ rule.S15 ∷ rule.S16 ∷ rule.S17 ∷ rule.S18 ∷ rule.S19 ∷ rule.S20 ∷ rule.S21 ∷ []
