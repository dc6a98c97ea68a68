-- The declared fields that values name.
use Rattle.std.specs.Prelude.{ℕ, List, Option, Some, None, option_map, slice_get, bytes_eq, position}
use Rattle.helix_json.specs.declared.value.Json.{Json}
use Rattle.helix_json.specs.declared.value.Json as json
use Rattle.helix_profile.specs.declared.field.Field.{Field}
use Rattle.helix_values.specs.declared.kind.Kind.{Kind}

-- the index of the first field with a name
abbrev pub index_named : List Field → List ℕ → Option ℕ
index_named fields name = position (λ field. bytes_eq field.name name) fields

-- the index of the declared field that a value names, if it is a string and names one
abbrev pub index_in : List Field → Json → Option ℕ
index_in fields (json.Str name) = index_named fields name
index_in fields value = None

-- the same of a value that may be missing
abbrev pub index_by : List Field → Option Json → Option ℕ
index_by fields None = None
index_by fields (Some value) = index_in fields value

-- the kind of the field with an index
abbrev pub kind_at : List Field → Option ℕ → Option Kind
kind_at fields None = None
kind_at fields (Some index) = option_map (λ field. field.kind) (slice_get fields index)

-- the kind of the declared field that a value names
abbrev pub kind_in : List Field → Json → Option Kind
kind_in fields value = kind_at fields (index_in fields value)

abbrev pub kind_by : List Field → Option Json → Option Kind
kind_by fields value = kind_at fields (index_by fields value)
