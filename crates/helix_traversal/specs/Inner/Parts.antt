-- The constraints in the parts of an object and of a list, as code sees them.
use Rattle.std.specs.Prelude.{ℕ, ◌+◌, List, [], ◌∷◌, ◌++◌, flat_map}
use Rattle.helix_json.specs.declared.value.Json.{Json}
use Rattle.helix_json.specs.declared.value.Member.{Member}
use Rattle.helix_places.specs.declared.place.Step.{Step}
use Rattle.helix_traversal.specs.Traversal.{Visit, visit, at_index, at_key, within, of_list}

-- a constraint, and those within it
abbrev pub whole : List Step → Json → List Visit
whole place v = visit place v ∷ within place v

-- the values of members are constraints
abbrev pub operands : List Step → List Member → List Visit
operands place = flat_map (λ member. whole (at_key place member.key) member.value)

-- the values of members are lists of constraints
abbrev pub branches : List Step → List Member → List Visit
branches place = flat_map (λ member. of_list (at_key place member.key) member.value)

-- the items of a list, counted on from an index
abbrev pub items_from : List Step → ℕ → List Json → List Visit
items_from place index [] = []
items_from place index (item ∷ items) = whole (at_index place index) item ++ items_from place (index + 1) items
