-- When a value is refused: it breaks a rule, S1 first, then those of the older form, and then those of today's form.
use Rattle.std.specs.Prelude.{◌≡◌, ◌⊎◌, true, List, ◌∷◌, map}
use Rattle.helix_base.specs.declared.alphabet.Alphabet.{Alphabet}
use Rattle.helix_fields.specs.Fields.{fields_of}
use Rattle.helix_json.specs.declared.value.Json.{Json}
use Rattle.helix_legacy.specs.Broken.{IsFirstBroken, IsUnbroken, is_older}
use Rattle.helix_legacy.specs.Today.{today_of}
use Rattle.helix_legacy.specs.declared.fault.LegacyRule.{LegacyRule}
use Rattle.helix_legacy.specs.declared.fault.LegacyRule.TheVariants as legacy
use Rattle.helix_places.specs.Pointers.{pointer_of}
use Rattle.helix_places.specs.declared.place.Step.{Step}
use Rattle.helix_rules.specs.Breaches.{IsFirstBreach}
use Rattle.helix_rules.specs.declared.breach.Breach.{Breach}
use Rattle.helix_rules.specs.declared.rule.Rule.{Rule}
use Rattle.helix_rules.specs.declared.rule.Rule.TheVariants as rule
use Rattle.helix_schema.specs.Drafts.{Drafted, unfilled}
use Rattle.helix_schema.specs.Mentions.{mentions_of}
use Rattle.helix_schema.specs.declared.fault.SchemaFault.{SchemaFault}
use Rattle.helix_schema.specs.declared.fault.SchemaFault.TheVariants as fault
use Rattle.helix_schema.specs.declared.refusal.Location.TheVariants as location
use Rattle.helix_schema.specs.declared.refusal.Refusal.{Refusal}
use Rattle.helix_validity.specs.Unbroken.{IsUnbrokenProfile, profile_rules}

-- a rule of the older form, among all rules
abbrev pub rule_of : LegacyRule → Rule
rule_of legacy.L1 = rule.L1
rule_of legacy.L2 = rule.L2
rule_of legacy.L3 = rule.L3
rule_of legacy.L4 = rule.L4

-- a rule that is broken at a place, as it is told
abbrev pub refusal : Rule → List Step → Refusal
refusal broken place = record { rule = broken; location = location.Pointer (pointer_of place) }

-- the first broken rule of the older form, at its first place
abbrev pub IsRefusedAsOlder : Json → Refusal → Type 0
IsRefusedAsOlder v refused = (is_older v ≡ true) × ((broken : LegacyRule) × ((place : List Step)
    × (IsFirstBroken v broken place × (refused ≡ refusal (rule_of broken) place))))

-- no rule of the older form is broken, where the value has that form
abbrev pub IsSoundIfOlder : Json → Type 0
IsSoundIfOlder v = is_older v ≡ true → IsUnbroken v

-- the first broken rule of today's form, S1 among them, at its first place
abbrev pub IsRefusedToday : Alphabet → Json → Refusal → Type 0
IsRefusedToday alphabet w refused = (breach : Breach)
    × IsFirstBreach (fields_of alphabet w) (rule.S1 ∷ profile_rules) w breach
    × (refused ≡ refusal breach.rule breach.place)

-- the first broken rule, and its first place
abbrev pub IsRefused : Alphabet → Json → Refusal → Type 0
IsRefused alphabet v refused =
    IsRefusedAsOlder v refused ⊎ (IsSoundIfOlder v × IsRefusedToday alphabet (today_of v) refused)

-- what a fault says of a value in today's form: memory that runs out says nothing
abbrev pub RefusesToday : Alphabet → Json → SchemaFault → Type 0
RefusesToday alphabet w (fault.Refused refused) = IsRefusedToday alphabet w refused
RefusesToday alphabet w fault.Memory = Unit {0}

-- the same of a value in either form
abbrev pub Refuses : Alphabet → Json → SchemaFault → Type 0
Refuses alphabet v (fault.Refused refused) = IsRefused alphabet v refused
Refuses alphabet v fault.Memory = Unit {0}

-- A draft of a value in today's form that breaks no rule: nothing is read yet.
pub record IsDraftToday (alphabet : Alphabet) (w : Json) (draft : Drafted) : Type 0 where
  pub unbroken : IsUnbrokenProfile (fields_of alphabet w) w
  pub alphabet_is : draft.alphabet ≡ alphabet
  pub value : draft.value ≡ w
  pub wishes : draft.wishes ≡ map unfilled (mentions_of (fields_of alphabet w) w)

-- the same of a value in either form, which breaks no rule of the older form if it has that
pub record IsDraftOf (alphabet : Alphabet) (v : Json) (draft : Drafted) : Type 0 where
  pub older : IsSoundIfOlder v
  pub today : IsDraftToday alphabet (today_of v) draft
