-- The members of a set file: one for each record of comma-separated values, after the marks at its beginning.
use Rattle.std.specs.Prelude.{◌≡◌, ℕ, ◌+◌, ◌<◌, ◌≤◌, if◌then◌else◌, Some, List, [], ◌∷◌, length, take, IsUtf8}
use Rattle.std.specs.List.{slice_get}
use Rattle.std.specs.Str.{chars}
use Rattle.csv.specs.Reading.{default_config, records, is_bom}
use Rattle.helix_values.specs.declared.cell.Cell.{Cell}
use Rattle.helix_values.specs.declared.kind.Kind.{Kind}
use Rattle.helix_texts.specs.Spelling.{Spells}
use Rattle.helix_sets.specs.declared.fault.SetFault.{SetFault}
use Rattle.helix_sets.specs.declared.fault.SetFault.TheVariants as faults

-- the bytes after the marks EF BB BF at the beginning, as often as they are there
abbrev pub without_marks : List ℕ → List ℕ
without_marks (a ∷ b ∷ c ∷ rest) = if is_bom a b c then without_marks rest else a ∷ b ∷ c ∷ rest
without_marks few = few

-- the records of a set file: each is the list of its fields
abbrev pub records_of : List ℕ → List (List (List ℕ))
records_of bytes = records default_config (without_marks bytes)

-- the first field of a record, and no bytes where it has none
abbrev pub first_field : List (List ℕ) → List ℕ
first_field [] = []
first_field (field ∷ fields) = field

-- the first field is UTF-8 and spells the value
pub record IsMember (kind : Kind) (fields : List (List ℕ)) (value : Cell) : Type 0 where
  pub text : IsUtf8 (first_field fields)
  pub spells : Spells kind (chars (first_field fields)) value

-- each value is the member of a record, in order
abbrev pub AreMembers : Kind → List (List (List ℕ)) → List Cell → Type 0
AreMembers kind [] [] = Unit {0}
AreMembers kind (fields ∷ records) (value ∷ values) = IsMember kind fields value × AreMembers kind records values
AreMembers kind others values = ⊥

-- The bytes list these values: from 1 to 10,000 records.
pub record ReadsSet (kind : Kind) (bytes : List ℕ) (values : List Cell) : Type 0 where
  pub short : length bytes ≤ 1048576
  pub some : 1 ≤ length (records_of bytes)
  pub few : length (records_of bytes) ≤ 10000
  pub members : AreMembers kind (records_of bytes) values

-- The records before the one of this number, counted from 1, have members, and its first field has a fault.
pub record IsFirstFault (kind : Kind) (bytes : List ℕ) (at : ℕ) (Fault : List ℕ → Type 0) : Type 0 where
  pub short : length bytes ≤ 1048576
  pub before : ℕ
  pub number : at ≡ before + 1
  pub few : at ≤ 10000
  pub values : List Cell
  pub members : AreMembers kind (take before (records_of bytes)) values
  pub fields : List (List ℕ)
  pub is : slice_get (records_of bytes) before ≡ Some fields
  pub fault : Fault (first_field fields)

-- more than 10,000 records, of which the first 10,000 have members
pub record HasTooMany (kind : Kind) (bytes : List ℕ) : Type 0 where
  pub short : length bytes ≤ 1048576
  pub values : List Cell
  pub members : AreMembers kind (take 10000 (records_of bytes)) values
  pub more : 10000 < length (records_of bytes)

-- the bytes spell no value of the kind
pub record SpellsNone (kind : Kind) (field : List ℕ) : Type 0 where
  pub text : IsUtf8 field
  pub none : (value : Cell) → ¬ Spells kind (chars field) value

-- the cause of each fault; want of memory has none here
abbrev pub RefusesSet : Kind → List ℕ → SetFault → Type 0
RefusesSet kind bytes faults.TooLong = 1048576 < length bytes
RefusesSet kind bytes (faults.NotUtf8 at) = IsFirstFault kind bytes at (λ field. ¬ IsUtf8 field)
RefusesSet kind bytes (faults.NotOfKind at) = IsFirstFault kind bytes at (SpellsNone kind)
RefusesSet kind bytes faults.TooMany = HasTooMany kind bytes
RefusesSet kind bytes faults.Empty = (length bytes ≤ 1048576) × (records_of bytes ≡ [])
RefusesSet kind bytes faults.Memory = Unit {0}
