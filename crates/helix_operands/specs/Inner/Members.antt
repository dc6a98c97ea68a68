-- The first member of a list of which something holds.
use Rattle.std.specs.Prelude.{◌≡◌, ◌<◌, ℕ, List, [], Option, Some, None, slice_get}
use Rattle.helix_json.specs.declared.value.Json.{Json}
use Rattle.helix_keywords.specs.declared.keyword.Keyword.{Keyword}
use Rattle.helix_keywords.specs.declared.keyword.Keyword.TheVariants as keyword
use Rattle.helix_places.specs.Members.{items_of}

-- it holds of the item with the index
abbrev pub HoldsAt : (Json → Type 0) → List Json → ℕ → Type 0
HoldsAt P items index = (item : Json) × (slice_get items index ≡ Some item) × P item

-- the index of the first item of which it holds, or None where it holds of none
abbrev pub IsFirstIndex : (Json → Type 0) → List Json → Option ℕ → Type 0
IsFirstIndex P items None = (k : ℕ) → ¬ (HoldsAt P items k)
IsFirstIndex P items (Some index) = HoldsAt P items index × ((k : ℕ) → k < index → ¬ (HoldsAt P items k))

-- the members of the list of `inSet`, and none under any other keyword
abbrev pub members_under : Keyword → Json → List Json
members_under keyword.InSet v = items_of v
members_under other v = []
