-- The names of rules that a set has.
use Rattle.std.specs.Prelude.{◌≡◌, ℕ, ◌<◌, ◌⊎◌, ◌↔◌, Bool, true, List, length, Option, Some}
use Rattle.std.specs.Borrow.{Bor}
use Rattle.std.specs.BTreeMap.{is_at}
use Rattle.std.specs.List.{list_any}
use Rattle.std.specs.Ordering.{nat_cmp}
use Rattle.std.specs.Cmp.Lexicographic.{slice_cmp}
use Rattle.helix_json.specs.declared.value.Json.{Json}
use Rattle.helix_json.specs.declared.value.Json as json
use Rattle.helix_legacy.specs.Broken.{name_at}

-- the set has the name
abbrev pub is_seen : List (Bor (List ℕ)) → Bor (List ℕ) → Bool
is_seen keys name = list_any (is_at (λ key. slice_cmp nat_cmp name.now key.now)) keys

-- some rule has the name
abbrev pub HasName : List Json → List ℕ → Type 0
HasName rules name = (i : ℕ) × (i < length rules) × (name_at rules i ≡ Some (json.Str name))

-- the set has exactly the names of these rules
abbrev pub AreNamesOf : List (Bor (List ℕ)) → List Json → Type 0
AreNamesOf keys rules = (name : Bor (List ℕ)) → (is_seen keys name ≡ true) ↔ HasName rules name.now

-- it has the name more that a value is, where it is one
abbrev pub AddsNameIn : List (Bor (List ℕ)) → List (Bor (List ℕ)) → Option Json → Type 0
AddsNameIn old new value = (name : Bor (List ℕ)) → (is_seen new name ≡ true)
    ↔ ((is_seen old name ≡ true) ⊎ (value ≡ Some (json.Str name.now)))
