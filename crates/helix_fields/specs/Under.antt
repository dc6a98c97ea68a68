-- What is under a key of a value.
use Rattle.std.specs.Prelude.{ℕ, List, [], Option, Some, None}
use Rattle.helix_json.specs.declared.value.Json.{Json}
use Rattle.helix_json.specs.declared.value.Json as json
use Rattle.helix_places.specs.Members.{items_of, members_of, value_of}

-- the items of a list, and none of any other value
abbrev pub items_of_some : Option Json → List Json
items_of_some None = []
items_of_some (Some v) = items_of v

-- the items of the list under a key
abbrev pub items_under : List ℕ → Json → List Json
items_under key v = items_of_some (value_of key (members_of v))

-- the text of a string
abbrev pub text_of_some : Option Json → Option (List ℕ)
text_of_some None = None
text_of_some (Some (json.Str text)) = Some text
text_of_some (Some v) = None

-- the text of the string under a key
abbrev pub text_under : List ℕ → Json → Option (List ℕ)
text_under key v = text_of_some (value_of key (members_of v))
