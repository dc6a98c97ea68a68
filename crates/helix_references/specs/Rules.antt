-- The rules on the fields of a constraint: where each is broken. Constraints within the constraint are left aside.
use Rattle.std.specs.Prelude.{◌≡◌, ◌≢◌, ℕ, Bool, true, false, not, ◌&&◌, ◌||◌, List, Option, Some, None, bytes_eq, codes}
use Rattle.helix_json.specs.declared.value.Json.{Json}
use Rattle.helix_json.specs.declared.value.Member.{Member}
use Rattle.helix_keywords.specs.declared.form.Form.{Form}
use Rattle.helix_keywords.specs.declared.form.Form.TheVariants as form
use Rattle.helix_keywords.specs.Forms.{form_of}
use Rattle.helix_keywords.specs.Keywords.{word_of, field_word, is_for, is_for_field}
use Rattle.helix_places.specs.declared.place.Step.{Step}
use Rattle.helix_places.specs.Members.{members_of, value_of}
use Rattle.helix_profile.specs.declared.field.Field.{Field}
use Rattle.helix_values.specs.Class.{class_of_kind}
use Rattle.helix_values.specs.declared.kind.Kind.{Kind}
use Rattle.helix_references.specs.declared.rule.ReferenceRule.{ReferenceRule}
use Rattle.helix_references.specs.declared.rule.ReferenceRule.TheVariants as rule
use Rattle.helix_references.specs.AtMember.{AtMember}
use Rattle.helix_references.specs.Offsets.{IsFaultyAt}
use Rattle.helix_references.specs.Naming.{index_in, index_by, kind_in, kind_by}

-- the value under the key is to name a field: `field`, and the keyword of a relation
abbrev pub names_field : Option Form → List ℕ → Bool
names_field (Some (form.Atom keyword)) key = bytes_eq key (codes "field")
names_field (Some (form.Related keyword)) key = bytes_eq key (codes "field") || bytes_eq key (field_word keyword)
names_field other key = false

-- the key is the keyword of a relation
abbrev pub is_relation_key : Option Form → List ℕ → Bool
is_relation_key (Some (form.Related keyword)) key = bytes_eq key (field_word keyword)
is_relation_key other key = false

-- the key is the keyword, and that isn't for fields of the kind
abbrev pub is_misused : Option Form → Option Kind → List ℕ → Bool
is_misused (Some (form.Atom keyword)) (Some kind) key =
    bytes_eq key (word_of keyword) && not (is_for keyword (class_of_kind kind))
is_misused (Some (form.Related keyword)) (Some kind) key =
    bytes_eq key (field_word keyword) && not (is_for_field keyword (class_of_kind kind))
is_misused other kind key = false

-- two fields are declared and of different classes
abbrev pub AreUnlike : Option Kind → Option Kind → Type 0
AreUnlike (Some kind) (Some other) = class_of_kind kind ≢ class_of_kind other
AreUnlike kind other = ⊥

-- two fields are declared, and are one
abbrev pub AreOne : Option ℕ → Option ℕ → Type 0
AreOne (Some index) (Some other) = index ≡ other
AreOne index other = ⊥

-- the offset of a relation, or its unit, is refused at the member with this key and value
abbrev pub IsFaultyIn : List Field → List Member → Option Form → List ℕ → Json → Type 0
IsFaultyIn fields members (Some (form.Related keyword)) key value =
    IsFaultyAt (kind_by fields (value_of (codes "field") members))
    (kind_by fields (value_of (field_word keyword) members)) members key value
IsFaultyIn fields members other key value = ⊥

-- the rule is broken at the member with this key and value, of an object with these members and this form
unfoldable pub IsFaulty : ReferenceRule → List Field → List Member → Option Form → List ℕ → Json → Type 0
-- S9: a value that is to name a field is no string or no declared name
IsFaulty rule.Reference fields members form key value =
    (names_field form key ≡ true) × (index_in fields value ≡ None)
-- S10: the keyword isn't for the type of the field
IsFaulty rule.Class fields members form key value =
    is_misused form (kind_by fields (value_of (codes "field") members)) key ≡ true
-- S18: the two fields of a relation are of different classes
IsFaulty rule.OneClass fields members form key value = (is_relation_key form key ≡ true)
    × AreUnlike (kind_by fields (value_of (codes "field") members)) (kind_in fields value)
-- S19: a field is related to itself
IsFaulty rule.TwoFields fields members form key value = (is_relation_key form key ≡ true)
    × AreOne (index_by fields (value_of (codes "field") members)) (index_in fields value)
-- S20: the offset of a relation, or its unit, isn't one for the classes of the fields
IsFaulty rule.Offset fields members form key value = IsFaultyIn fields members form key value

-- where a constraint breaks the rule
abbrev pub Breaks : ReferenceRule → List Field → Json → List Step → Type 0
Breaks rule fields v = AtMember (IsFaulty rule fields (members_of v) (form_of (members_of v))) v

-- a constraint breaks none of the rules itself
abbrev pub IsUnbroken : List Field → Json → Type 0
IsUnbroken fields v = (rule : ReferenceRule) (place : List Step) → ¬ (Breaks rule fields v place)
