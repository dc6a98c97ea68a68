-- Members of an object that are not as they have to be.
use Rattle.std.specs.Prelude.{◌≡◌, ℕ, Bool, false, List, [], ◌∷◌, IsSomeAnd}
use Rattle.helix_json.specs.declared.value.Json.{Json}
use Rattle.helix_places.specs.declared.place.Step.{Step}
use Rattle.helix_places.specs.declared.place.Step.TheVariants as step
use Rattle.helix_places.specs.Members.{members_of, value_of}

-- the place is a member whose key and value are not allowed
abbrev pub IsFaultyMember : (List ℕ → Json → Bool) → Json → List Step → Type 0
IsFaultyMember allowed v [] = ⊥
IsFaultyMember allowed v (step.Item index ∷ place) = ⊥
IsFaultyMember allowed v (step.Member key ∷ place) =
    (place ≡ []) × IsSomeAnd (value_of key (members_of v)) (λ w. allowed key w ≡ false)
