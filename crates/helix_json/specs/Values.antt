-- What holds of a value that a text may spell and that is read: for the crates that take such values.
use Rattle.std.specs.Prelude.{◌≡◌, ◌≢◌, ◌⊎◌, ℕ, ◌+◌, max, List, [], ◌∷◌}
use Rattle.std.specs.List.{AllByRecursion}
use Rattle.helix_json.specs.declared.value.Json.{Json, Row_of-Json, Row_of-Member}
use Rattle.helix_json.specs.declared.value.Json as json
use Rattle.helix_json.specs.declared.value.Member.{Member}
use Rattle.helix_json.specs.Numbers.{IsNumber}

abbrev mutual
  -- each number in it is a JSON number
  pub HasNumbers : Json → Type 0
  HasNumbers json.Null = Unit {0}
  HasNumbers (json.Bool b) = Unit {0}
  HasNumbers (json.Number text) = IsNumber text
  HasNumbers (json.Str text) = Unit {0}
  HasNumbers (json.List' shape items) = ItemsHaveNumbers items
  HasNumbers (json.Object' shape members) = MembersHaveNumbers members

  -- the same of the items of a list
  pub ItemsHaveNumbers : {n : _} → Row_of-Json n → Type 0
  ItemsHaveNumbers json.end_of-Json = Unit {0}
  ItemsHaveNumbers (json.more_of-Json item items) = HasNumbers item × ItemsHaveNumbers items

  -- the same of the members of an object
  pub MembersHaveNumbers : {n : _} → Row_of-Member n → Type 0
  MembersHaveNumbers json.end_of-Member = Unit {0}
  MembersHaveNumbers (json.more_of-Member key value members) = HasNumbers value × MembersHaveNumbers members

-- one of the members has the key
abbrev pub HasKey : {n : _} → List ℕ → Row_of-Member n → Type 0
HasKey key json.end_of-Member = ⊥
HasKey key (json.more_of-Member other value members) = (other ≡ key) ⊎ HasKey key members

abbrev mutual
  -- no object in it has two members with the same key
  pub HasNoRepeatedKey : Json → Type 0
  HasNoRepeatedKey json.Null = Unit {0}
  HasNoRepeatedKey (json.Bool b) = Unit {0}
  HasNoRepeatedKey (json.Number text) = Unit {0}
  HasNoRepeatedKey (json.Str text) = Unit {0}
  HasNoRepeatedKey (json.List' shape items) = ItemsHaveNoRepeatedKey items
  HasNoRepeatedKey (json.Object' shape members) = MembersHaveNoRepeatedKey members

  -- the same of the items of a list
  pub ItemsHaveNoRepeatedKey : {n : _} → Row_of-Json n → Type 0
  ItemsHaveNoRepeatedKey json.end_of-Json = Unit {0}
  ItemsHaveNoRepeatedKey (json.more_of-Json item items) = HasNoRepeatedKey item × ItemsHaveNoRepeatedKey items

  -- no two of the members have one key, and the same of their values
  pub MembersHaveNoRepeatedKey : {n : _} → Row_of-Member n → Type 0
  MembersHaveNoRepeatedKey json.end_of-Member = Unit {0}
  MembersHaveNoRepeatedKey (json.more_of-Member key value members) =
      ¬ (HasKey key members) × HasNoRepeatedKey value × MembersHaveNoRepeatedKey members

abbrev mutual
  -- how deep its lists and objects are nested: none is 0, `[]` is 1, `[[]]` is 2
  pub nesting : Json → ℕ
  nesting json.Null = 0
  nesting (json.Bool b) = 0
  nesting (json.Number text) = 0
  nesting (json.Str text) = 0
  nesting (json.List' shape items) = items_nesting items + 1
  nesting (json.Object' shape members) = members_nesting members + 1

  -- the greatest nesting of the items, and 0 of none
  pub items_nesting : {n : _} → Row_of-Json n → ℕ
  items_nesting json.end_of-Json = 0
  items_nesting (json.more_of-Json item items) = max (nesting item) (items_nesting items)

  -- the greatest nesting of the members' values, and 0 of none
  pub members_nesting : {n : _} → Row_of-Member n → ℕ
  members_nesting json.end_of-Member = 0
  members_nesting (json.more_of-Member key value members) = max (nesting value) (members_nesting members)

-- no two of the members have the same key
abbrev pub HaveDifferentKeys : List Member → Type 0
HaveDifferentKeys [] = Unit {0}
HaveDifferentKeys (member ∷ members) =
    AllByRecursion (λ other. member.key ≢ other.key) members × HaveDifferentKeys members
