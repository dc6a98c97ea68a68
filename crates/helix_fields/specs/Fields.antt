-- The fields and the constraints of a profile. Where no rule of fields is broken, nothing in a field is missing.
use Rattle.std.specs.Prelude.{◌≡◌, ℕ, Bool, true, ◌≤◌, List, [], map, length, Option, Some, None, IsSomeAnd, codes}
use Rattle.std.specs.List.{AllByRecursion}
use Rattle.helix_base.specs.declared.alphabet.Alphabet.{Alphabet}
use Rattle.helix_json.specs.declared.value.Json.{Json}
use Rattle.helix_json.specs.declared.value.Json as json
use Rattle.helix_places.specs.declared.place.Step.{Step}
use Rattle.helix_places.specs.Members.{members_of, value_of}
use Rattle.helix_values.specs.declared.kind.Kind.{Kind}
use Rattle.helix_values.specs.declared.kind.Kind.TheVariants as kind
use Rattle.helix_profile.specs.declared.field.Field.{Field}
use Rattle.helix_profile.specs.Validity.{IsName, HaveDifferentNames}
use Rattle.helix_fields.specs.FieldRules.{name_of}
use Rattle.helix_fields.specs.Types.{kind_named}
use Rattle.helix_fields.specs.Under.{items_under, text_under}

-- the constraints of a profile
abbrev pub constraints_of : Json → List Json
constraints_of = items_under (codes "constraints")

-- a missing name is empty
abbrev pub name_or_empty : Option (List ℕ) → List ℕ
name_or_empty None = []
name_or_empty (Some name) = name

-- where there is no type, the kind is that of truth values
abbrev pub kind_or_boolean : Option Kind → Kind
kind_or_boolean None = kind.Boolean
kind_or_boolean (Some named) = named

abbrev pub kind_of_word : Alphabet → Option (List ℕ) → Kind
kind_of_word alphabet None = kind.Boolean
kind_of_word alphabet (Some word) = kind_or_boolean (kind_named alphabet word)

-- a field is nullable where it doesn't say otherwise
abbrev pub is_nullable : Option Json → Bool
is_nullable None = true
is_nullable (Some (json.Bool b)) = b
is_nullable (Some v) = true

-- a field
abbrev pub field_of : Alphabet → Json → Field
field_of alphabet v = record {
  name = name_or_empty (name_of v);
  kind = kind_of_word alphabet (text_under (codes "type") v);
  nullable = is_nullable (value_of (codes "nullable") (members_of v));
}

-- The item is a field's, with nothing missing: its name, and the kind of its type.
pub record Declares (alphabet : Alphabet) (item : Json) (field : Field) : Type 0 where
  pub name : name_of item ≡ Some field.name
  pub kind : IsSomeAnd (text_under (codes "type") item) (λ word. kind_named alphabet word ≡ Some field.kind)

-- the fields of a profile
abbrev pub fields_of : Alphabet → Json → List Field
fields_of alphabet v = map (field_of alphabet) (items_under (codes "fields") v)

-- a rule is broken nowhere
abbrev pub IsNowhere : (Json → List Step → Type 0) → Json → Type 0
IsNowhere Breaks v = (place : List Step) → ¬ (Breaks v place)

-- 1 to 64 fields with names, no two of which are the same
pub record AreValidFields (fields : List Field) : Type 0 where
  pub some_field : 1 ≤ length fields
  pub few_fields : length fields ≤ 64
  pub names : AllByRecursion (λ field. IsName field.name) fields
  pub different_names : HaveDifferentNames fields
