-- The rules of fields: where each is broken in a profile.
use Rattle.std.specs.Prelude.{◌≡◌, ◌⊎◌, ℕ, ◌<◌, Bool, true, false, ◌&&◌, ◌||◌, if◌then◌else◌, List, [], ◌∷◌, length, take, Option, Some, None, IsSomeAnd, slice_get, bytes_eq, codes}
use Rattle.helix_json.specs.declared.value.Json.{Json}
use Rattle.helix_json.specs.declared.value.Json as json
use Rattle.helix_places.specs.declared.place.Step.{Step}
use Rattle.helix_places.specs.declared.place.Step.TheVariants as step
use Rattle.helix_places.specs.Members.{items_of, members_of, has_key, is_string}
use Rattle.helix_places.specs.Names.{is_name_text}
use Rattle.helix_places.specs.Places.{Here, InMember, InItem}
use Rattle.helix_fields.specs.FaultyMember.{IsFaultyMember}
use Rattle.helix_fields.specs.Under.{text_under}
use Rattle.helix_fields.specs.Types.{is_type}

-- a truth value
abbrev pub is_truth : Json → Bool
is_truth (json.Bool b) = true
is_truth v = false

-- the truth value true
abbrev pub is_true : Json → Bool
is_true (json.Bool b) = b
is_true v = false

-- the members that a field may have
unfoldable pub is_field_member : List ℕ → Json → Bool
is_field_member key v = if bytes_eq key (codes "type") then is_type v
    else ((bytes_eq key (codes "name") || bytes_eq key (codes "description")) && is_string v)
    || ((bytes_eq key (codes "nullable") || bytes_eq key (codes "unique")) && is_truth v)

-- an object with `name` and `type`
abbrev pub is_named_and_typed : Json → Bool
is_named_and_typed v = has_key (codes "name") (members_of v) && has_key (codes "type") (members_of v)

-- S4 in a field: it is no object or lacks `name` or `type`, and the place is the field; or it has a member that a
-- field may not have
abbrev pub BreaksFieldForm : Json → List Step → Type 0
BreaksFieldForm v place = Here (λ field. is_named_and_typed field ≡ false) v place
    ⊎ IsFaultyMember is_field_member v place

-- S4
abbrev pub BreaksField : Json → List Step → Type 0
BreaksField = InMember (codes "fields") (InItem BreaksFieldForm)

-- the name of a field: its member `name`, where that is a string
abbrev pub name_of : Json → Option (List ℕ)
name_of = text_under (codes "name")

-- the name of the field with an index
abbrev pub name_of_some : Option Json → Option (List ℕ)
name_of_some None = None
name_of_some (Some field) = name_of field

abbrev pub name_at : List Json → ℕ → Option (List ℕ)
name_at fields index = name_of_some (slice_get fields index)

-- a name is empty, has over 200 characters, has a character below U+0020 or U+007F, or is that of an earlier field
abbrev pub IsFaultyName : List Json → List ℕ → Type 0
IsFaultyName earlier name = (is_name_text name ≡ false)
    ⊎ ((i : ℕ) × (i < length earlier) × (name_at earlier i ≡ Some name))

-- S5 in `fields`: the name of a field is faulty
pub record BreaksNames (fields : Json) (place : List Step) : Type 0 where
  pub index : ℕ
  pub is : place ≡ step.Item index ∷ step.Member (codes "name") ∷ []
  pub faulty : IsSomeAnd (name_at (items_of fields) index) (IsFaultyName (take index (items_of fields)))

-- S5
abbrev pub BreaksFieldName : Json → List Step → Type 0
BreaksFieldName = InMember (codes "fields") BreaksNames

-- S6 in a field: its `unique` is true
abbrev pub BreaksUniqueField : Json → List Step → Type 0
BreaksUniqueField = InMember (codes "unique") (Here (λ v. is_true v ≡ true))

-- S6
abbrev pub BreaksUnique : Json → List Step → Type 0
BreaksUnique = InMember (codes "fields") (InItem BreaksUniqueField)
