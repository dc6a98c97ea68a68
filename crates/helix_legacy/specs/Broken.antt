-- The rules of the older form: where each is broken, one definition a line of their table, and which is the first.
use Rattle.std.specs.Prelude.{◌≡◌, ◌⊎◌, ℕ, ◌<◌, Bool, false, List, [], ◌∷◌, length, take, Option, Some, None, IsSomeAnd, slice_get, codes}
use Rattle.helix_json.specs.declared.value.Json.{Json}
use Rattle.helix_json.specs.declared.value.Json as json
use Rattle.helix_legacy.specs.declared.fault.LegacyRule.{LegacyRule}
use Rattle.helix_legacy.specs.declared.fault.LegacyRule.TheVariants as rule
use Rattle.helix_places.specs.declared.place.Step.{Step}
use Rattle.helix_places.specs.declared.place.Step.TheVariants as step
use Rattle.helix_places.specs.Names.{is_name_text}
use Rattle.helix_places.specs.Members.{items_of, members_of, value_of, has_key, are_keys, is_list}
use Rattle.helix_places.specs.Places.{Here, InMember, InItem, IsFirstPlace}
use Rattle.helix_legacy.specs.Visited.{many, BreaksTests}

-- an object with the member `rules`
abbrev pub is_older : Json → Bool
is_older v = has_key (codes "rules") (members_of v)

-- L1: there is also a member `constraints`
abbrev pub HasConstraints : Json → List Step → Type 0
HasConstraints = InMember (codes "constraints") (Here (λ v. Unit {0}))

-- L2: `rules` is no list
abbrev pub RulesAreNoList : Json → List Step → Type 0
RulesAreNoList = Here (λ rules. is_list rules ≡ false)

abbrev pub is_rule : Json → Bool
is_rule v = are_keys (codes "rule" ∷ codes "constraints" ∷ []) (members_of v)

-- L2: an item is no object or has other keys
abbrev pub IsNoRule : Json → List Step → Type 0
IsNoRule = Here (λ item. is_rule item ≡ false)

-- L2: its `constraints` is no list
abbrev pub ConstraintsAreNoList : Json → List Step → Type 0
ConstraintsAreNoList = InMember (codes "constraints") (Here (λ v. is_list v ≡ false))

-- L2 in an item
abbrev pub BreaksRuleForm : Json → List Step → Type 0
BreaksRuleForm item place = IsNoRule item place ⊎ ConstraintsAreNoList item place

-- L2 in `rules`
abbrev pub BreaksForm : Json → List Step → Type 0
BreaksForm rules place = RulesAreNoList rules place ⊎ InItem BreaksRuleForm rules place

-- a string of 1 to 200 characters, none of them a control character
abbrev pub is_name : Json → Bool
is_name (json.Str text) = is_name_text text
is_name v = false

-- the name of a rule: its member `rule`
abbrev pub name_in : Json → Option Json
name_in rule = value_of (codes "rule") (members_of rule)

-- the name of the rule with an index
abbrev pub name_of_some : Option Json → Option Json
name_of_some None = None
name_of_some (Some rule) = name_in rule

abbrev pub name_at : List Json → ℕ → Option Json
name_at rules index = name_of_some (slice_get rules index)

-- a name is no string, or is empty, has over 200 characters, has a character below U+0020 or U+007F, or is that of an
-- earlier rule
abbrev pub IsFaultyName : List Json → Json → Type 0
IsFaultyName earlier name = (is_name name ≡ false)
    ⊎ ((i : ℕ) × (i < length earlier) × (name_at earlier i ≡ Some name))

-- L3: the name of a rule is faulty
pub record BreaksName (rules : Json) (place : List Step) : Type 0 where
  pub index : ℕ
  pub is : place ≡ step.Item index ∷ step.Member (codes "rule") ∷ []
  pub faulty : IsSomeAnd (name_at (items_of rules) index) (IsFaultyName (take index (items_of rules)))

-- the rules of a value of the older form
abbrev pub rules_of_some : Option Json → List Json
rules_of_some None = []
rules_of_some (Some rules) = items_of rules

abbrev pub rules_of : Json → List Json
rules_of v = rules_of_some (value_of (codes "rules") (members_of v))

-- L4: a visited object with `is` has a fault
abbrev pub BreaksATest : Json → List Step → Type 0
BreaksATest = InItem (InMember (codes "constraints") (BreaksTests many))

-- where a rule is broken
unfoldable pub Broken : LegacyRule → Json → List Step → Type 0
Broken rule.L1 v place = HasConstraints v place
Broken rule.L2 v place = InMember (codes "rules") BreaksForm v place
Broken rule.L3 v place = InMember (codes "rules") BreaksName v place
Broken rule.L4 v place = InMember (codes "rules") BreaksATest v place

-- the order of the rules
abbrev pub rank : LegacyRule → ℕ
rank rule.L1 = 1
rank rule.L2 = 2
rank rule.L3 = 3
rank rule.L4 = 4

-- the first broken rule, at its first place in the text
pub record IsFirstBroken (v : Json) (rule : LegacyRule) (place : List Step) : Type 0 where
  pub first : IsFirstPlace v (Broken rule v) place
  pub earlier : (other : LegacyRule) → rank other < rank rule → (there : List Step) → ¬ (Broken other v there)

-- no rule is broken
abbrev pub IsUnbroken : Json → Type 0
IsUnbroken v = (rule : LegacyRule) → (place : List Step) → ¬ (Broken rule v place)
