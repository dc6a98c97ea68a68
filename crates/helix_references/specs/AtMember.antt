-- Places that are those of members of an object.
use Rattle.std.specs.Prelude.{◌≡◌, ℕ, List, [], ◌∷◌, IsSomeAnd}
use Rattle.helix_json.specs.declared.value.Json.{Json}
use Rattle.helix_places.specs.declared.place.Step.{Step}
use Rattle.helix_places.specs.declared.place.Step.TheVariants as step
use Rattle.helix_places.specs.Members.{members_of, value_of}

-- the place is that of a member, whose key and value are as `Faulty` says
abbrev pub AtMember : (List ℕ → Json → Type 0) → Json → List Step → Type 0
AtMember Faulty v [] = ⊥
AtMember Faulty v (step.Item index ∷ place) = ⊥
AtMember Faulty v (step.Member key ∷ place) = (place ≡ []) × IsSomeAnd (value_of key (members_of v)) (Faulty key)
