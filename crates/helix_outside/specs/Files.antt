-- Files as a finite map from names to bytes. A name is the UTF-8 of its text.
use Rattle.std.specs.Prelude.{ℕ, List, [], ◌∷◌, ◌++◌, unwrap_or}
use Rattle.std.specs.Ordering.{nat_cmp}
use Rattle.std.specs.Cmp.Lexicographic.{slice_cmp}
use Rattle.std.specs.FinMap.{FinMap, get, insert}

-- files: a finite map from names to bytes
abbrev pub FileMap : Type 0
FileMap = FinMap (slice_cmp nat_cmp) (List ℕ)

-- what a file holds, and nothing where there is none
abbrev pub content : FileMap → List ℕ → List ℕ
content files name = unwrap_or (get files name) []

-- the files with these bytes appended to those of one of them
abbrev pub appended : FileMap → List ℕ → List ℕ → FileMap
appended files name [] = files
appended files name (byte ∷ bytes) = insert files name (content files name ++ byte ∷ bytes)
