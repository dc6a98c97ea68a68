-- Why no relation is given.
use Rattle.std.specs.Prelude.{◌≡◌, ◌⊎◌, ℤ, List, Option, Some, None, IsSomeAnd, codes}
use Rattle.helix_json.specs.declared.value.Json.{Json}
use Rattle.helix_json.specs.declared.value.Member.{Member}
use Rattle.helix_keywords.specs.Keywords.{field_word}
use Rattle.helix_keywords.specs.declared.keyword.FieldKeyword.{FieldKeyword}
use Rattle.helix_places.specs.Members.{value_of}
use Rattle.helix_profile.specs.declared.field.Field.{Field}
use Rattle.helix_values.specs.Class.{Class, class_of_kind}
use Rattle.helix_values.specs.declared.kind.Kind.{Kind}
use Rattle.helix_references.specs.Naming.{index_by, kind_by}
use Rattle.helix_references.specs.Offsets.{GivesUnits, IsFaultyOffset, IsFaultyShift, IsFaultyUnit}
use Rattle.helix_references.specs.Units.{unit_in}

abbrev pub IsNoPlain : Json → Type 0
IsNoPlain value = (units : ℤ) → ¬ (GivesUnits value units)

abbrev pub IsNoShift : Option Kind → Json → Json → Type 0
IsNoShift right value unit = IsFaultyShift right (Some unit) value ⊎ (unit_in right unit ≡ None)

-- the value of `offset` or that of `offsetUnit` is refused
abbrev pub IsNoOffset : Class → Option Kind → Option Json → Option Json → Type 0
IsNoOffset class right value unit = IsSomeAnd value (IsFaultyOffset class right unit)
    ⊎ IsSomeAnd unit (IsFaultyUnit class right value)

-- a field isn't declared, or the offset is refused
abbrev pub IsRefused : List Field → List Member → FieldKeyword → Type 0
IsRefused fields members keyword = (index_by fields (value_of (codes "field") members) ≡ None)
    ⊎ ((index_by fields (value_of (field_word keyword) members) ≡ None)
    ⊎ IsSomeAnd (kind_by fields (value_of (codes "field") members))
    (λ kind. IsNoOffset (class_of_kind kind) (kind_by fields (value_of (field_word keyword) members))
    (value_of (codes "offset") members) (value_of (codes "offsetUnit") members)))
