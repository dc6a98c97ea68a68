-- The items of a list and the members of an object, as lists, and members by their keys.
use Rattle.std.specs.Prelude.{ℕ, Bool, true, false, ◌&&◌, ◌==◌, if◌then◌else◌, List, [], ◌∷◌, length, Option, Some, None, is_some, bytes_eq}
use Rattle.std.specs.List.{list_all}
use Rattle.helix_json.specs.declared.value.Json.{Json, Row_of-Json, Row_of-Member}
use Rattle.helix_json.specs.declared.value.Json as json
use Rattle.helix_json.specs.declared.value.Member.{Member}

abbrev pub listed_items : {n : _} → Row_of-Json n → List Json
listed_items json.end_of-Json = []
listed_items (json.more_of-Json item items) = item ∷ listed_items items

abbrev pub listed_members : {n : _} → Row_of-Member n → List Member
listed_members json.end_of-Member = []
listed_members (json.more_of-Member key value members) = record { key = key; value = value } ∷ listed_members members

-- the items of a list, and none of any other value
abbrev pub items_of : Json → List Json
items_of (json.List' shape items) = listed_items items
items_of v = []

-- the members of an object, and none of any other value
abbrev pub members_of : Json → List Member
members_of (json.Object' shape members) = listed_members members
members_of v = []

-- the value of the first member with the key
abbrev pub value_of : List ℕ → List Member → Option Json
value_of key [] = None
value_of key (member ∷ members) = if bytes_eq member.key key then Some member.value else value_of key members

-- there is a member with the key
abbrev pub has_key : List ℕ → List Member → Bool
has_key key members = is_some (value_of key members)

-- the keys of the members, no two of which are the same, are these
abbrev pub are_keys : List (List ℕ) → List Member → Bool
are_keys keys members = (length members == length keys) && list_all (λ key. has_key key members) keys

abbrev pub is_list : Json → Bool
is_list (json.List' shape items) = true
is_list v = false

abbrev pub is_object : Json → Bool
is_object (json.Object' shape members) = true
is_object v = false

abbrev pub is_string : Json → Bool
is_string (json.Str text) = true
is_string v = false

-- a member is there and as it has to be
abbrev pub some_is : (Json → Bool) → Option Json → Bool
some_is test None = false
some_is test (Some v) = test v
