-- Places in a JSON value, and their order in the text. A place is the steps to it, from the outside in.
use Rattle.std.specs.Prelude.{◌≡◌, ℕ, ◌+◌, ◌<◌, ◌⊎◌, if◌then◌else◌, List, [], ◌∷◌, Option, Some, None, IsSomeAnd, slice_get, bytes_eq}
use Rattle.helix_json.specs.declared.value.Json.{Json}
use Rattle.helix_json.specs.declared.value.Member.{Member}
use Rattle.helix_places.specs.declared.place.Step.{Step}
use Rattle.helix_places.specs.declared.place.Step.TheVariants as step
use Rattle.helix_places.specs.Members.{items_of, members_of, value_of}

-- the part of a value to which a step leads, where there is one
abbrev pub part : Json → Step → Option Json
part v (step.Member key) = value_of key (members_of v)
part v (step.Item index) = slice_get (items_of v) index

-- how many members come before the one with the key
abbrev pub index_of : List ℕ → List Member → ℕ
index_of key [] = 0
index_of key (member ∷ members) = if bytes_eq member.key key then 0 else index_of key members + 1

-- how many parts come before the one to which a step leads
abbrev pub index_of_part : Json → Step → ℕ
index_of_part v (step.Member key) = index_of key (members_of v)
index_of_part v (step.Item index) = index

-- The first place comes before the second in the text: a value comes before its parts, and parts come in their order.
abbrev pub Precedes : Json → List Step → List Step → Type 0
Precedes v [] [] = ⊥
Precedes v [] (next ∷ other) = Unit {0}
Precedes v (step ∷ place) [] = ⊥
Precedes v (step ∷ place) (next ∷ other) = (index_of_part v step < index_of_part v next)
    ⊎ ((step ≡ next) × IsSomeAnd (part v step) (λ w. Precedes w place other))

-- of the places in a value that a property names, this is the first in the text
pub record IsFirstPlace (v : Json) (Named : List Step → Type 0) (place : List Step) : Type 0 where
  pub named : Named place
  pub first : (other : List Step) → Named other → (other ≡ place) ⊎ Precedes v place other

-- the first place that a property names, or None where it names none
abbrev pub Finds : Json → (List Step → Type 0) → Option (List Step) → Type 0
Finds v Named None = (place : List Step) → ¬ (Named place)
Finds v Named (Some place) = IsFirstPlace v Named place

-- Properties of values and places in them: the place is the value itself
abbrev pub Here : (Json → Type 0) → Json → List Step → Type 0
Here P v place = (place ≡ []) × P v

-- the place is in the member with the key, and there as `P` says
abbrev pub InMember : List ℕ → (Json → List Step → Type 0) → Json → List Step → Type 0
InMember key P v [] = ⊥
InMember key P v (step.Item index ∷ place) = ⊥
InMember key P v (step.Member other ∷ place) = (other ≡ key) × IsSomeAnd (value_of key (members_of v)) (λ w. P w place)

-- the place is in an item of the list, and there as `P` says
abbrev pub InItem : (Json → List Step → Type 0) → Json → List Step → Type 0
InItem P v [] = ⊥
InItem P v (step.Item index ∷ place) = IsSomeAnd (slice_get (items_of v) index) (λ w. P w place)
InItem P v (step.Member key ∷ place) = ⊥

-- the place is in a part, and there as `P` says
abbrev pub InPart : (Json → List Step → Type 0) → Json → List Step → Type 0
InPart P v [] = ⊥
InPart P v (step ∷ place) = IsSomeAnd (part v step) (λ w. P w place)
