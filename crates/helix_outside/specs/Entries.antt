-- A list of entries as files: the first entry with a name holds the file of that name.
use Rattle.std.specs.Prelude.{◌≡◌, ℕ, ◌<◌, List, map, length, slice_get, slice_index_or, take, [], Option, Some, None}
use Rattle.std.specs.Ordering.{nat_cmp}
use Rattle.std.specs.Cmp.Lexicographic.{slice_cmp}
use Rattle.std.specs.FinMap.{find, from_entries}
use Rattle.helix_outside.specs.Files.{FileMap}
use Rattle.helix_outside.specs.declared.entries.Entry.{Entry}

-- the name and the bytes of an entry
abbrev pub pair_of : Entry → List ℕ × List ℕ
pair_of entry = (entry.name.items, entry.bytes.items)

-- the files that entries hold
abbrev pub files_of : List Entry → FileMap
files_of entries = from_entries (map pair_of entries)

-- the entry at this index is the first one with the name
pub record IsIndex (entries : List Entry) (name : List ℕ) (index : ℕ) : Type 0 where
  pub within : index < length entries
  pub named : (d : Entry) → (slice_index_or entries index d).name.items ≡ name
  pub first : find (slice_cmp nat_cmp) name (map pair_of (take index entries)) ≡ None

-- the bytes of the entry at this index, and none past the end
abbrev pub bytes_of : Option Entry → List ℕ
bytes_of None = []
bytes_of (Some entry) = entry.bytes.items

-- the bytes of the entry at an index
abbrev pub bytes_at : List Entry → ℕ → List ℕ
bytes_at entries index = bytes_of (slice_get entries index)
