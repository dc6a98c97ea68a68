-- Tests in `rules` and in a rule.
use Rattle.std.proofs.Common.{◌≡◌, ℕ, slice_get, List, [], ◌∷◌, Option, Some, None, Result, IfOk, codes, refl, sym, ◌∙◌, ap, subst}
use Rattle.std.specs.Option.{IsSomeAnd}
use Rattle.helix_json.specs.declared.value.Json.{Json}
use Rattle.helix_json.specs.declared.value.Json.TheViews as view
use Rattle.helix_json.specs.declared.value.Member.{Member}
use Rattle.helix_json.specs.Values.{HasNoRepeatedKey}
use Rattle.helix_base.specs.declared.memory.Memory.{Memory}
use Rattle.helix_places.specs.declared.place.Step.{Step}
use Rattle.helix_places.specs.declared.place.Step.TheVariants as step
use Rattle.helix_places.specs.Members.{members_of, items_of, value_of}
use Rattle.helix_legacy.specs.Broken.{BreaksATest}
use Rattle.helix_legacy.specs.Visited.{BreaksTests, many}
use Rattle.helix_places.specs.Places.{Finds, IsFirstPlace, InItem, InMember}
use Rattle.helix_legacy.specs.Inner.Parts.{InConstraints}
use Rattle.helix_places.specs.PlaceLaws.{none_in_member, first_in_member}
use Rattle.helix_legacy.proofs.Breaches.{none_is, value_keys}
use Rattle.helix_places.specs.ViewLaws.{members_of_object}

abbrev Says : (Json → List Step → Type 0) → Json → Option (List Step) → Type 0
Says P v found = HasNoRepeatedKey v → Finds v (P v) found

-- where there is no list, or no constraints
pub no_list : (v : Json) → items_of v ≡ [] → Says BreaksATest v None
no_list v none keys [] h = h
no_list v none keys (step.Member key ∷ place) h = h
no_list v none keys (step.Item index ∷ place) h =
    let Q : List Json → Type 0 = λ l. IsSomeAnd (slice_get l index) (λ w. InConstraints w place) in subst Q none h

none_under : (v : Json) (key : List ℕ) (P : Json → List Step → Type 0) → value_of key (members_of v) ≡ None
    → Finds v (InMember key P v) None
none_under v key P none [] h = h
none_under v key P none (step.Item index ∷ place) h = h
none_under v key P none (step.Member other ∷ place) h =
    none_is (value_of key (members_of v)) (λ w. P w place) none h.1

pub no_object : (v : Json) → members_of v ≡ [] → Says InConstraints v None
no_object v none keys = none_under v (codes "constraints") (BreaksTests many) (ap (value_of (codes "constraints")) none)

pub list_says : (v : Json) (items : List Json) (r : Result (Option (List Step)) Memory) → v ≡ view.List items
    → IfOk r (Says (InItem InConstraints) (view.List items)) → IfOk r (Says BreaksATest v)
list_says v items r is says = let Q : Json → Type 0 = λ w. IfOk r (Says BreaksATest w) in subst Q (sym is) says

pub object_says : (v : Json) (members : List Member) (r : Result (Option (List Step)) Memory) → v ≡ view.Object members
    → IfOk r (Says InConstraints (view.Object members)) → IfOk r (Says InConstraints v)
object_says v members r is says = let Q : Json → Type 0 = λ w. IfOk r (Says InConstraints w) in subst Q (sym is) says

module _ (members : List Member) where
  its : value_of (codes "constraints") (members_of (view.Object members)) ≡ value_of (codes "constraints") members
  its = ap (value_of (codes "constraints")) (members_of_object members)

  pub without : value_of (codes "constraints") members ≡ None → Says InConstraints (view.Object members) None
  without none keys = none_under (view.Object members) (codes "constraints") (BreaksTests many) (its ∙ none)

  module _ (w : Json) (is : value_of (codes "constraints") members ≡ Some w) (found : Option (List Step))
      (says : Says (BreaksTests many) w found)
    where
      nothing_in : (o : Option (List Step)) → ((place : List Step) → o ≡ Some place → ⊥)
          → Finds w (BreaksTests many w) o
          → Finds (view.Object members) (InConstraints (view.Object members)) None
      nothing_in None not_some finds =
          none_in_member (view.Object members) w (codes "constraints") (BreaksTests many) (its ∙ is) finds
      nothing_in (Some place) not_some finds = absurd (not_some place refl)

      pub nothing : ((place : List Step) → found ≡ Some place → ⊥) → Says InConstraints (view.Object members) None
      nothing not_some keys = nothing_in found not_some (says (value_keys members (codes "constraints") w keys is))

      pub something : (place new : List Step) → found ≡ Some place → new ≡ step.Member (codes "constraints") ∷ place
          → Says InConstraints (view.Object members) (Some new)
      something place new some new_is keys =
          let Q : Option (List Step) → Type 0 = λ o. Finds w (BreaksTests many w) o in
          let R : List Step → Type 0 = λ p. IsFirstPlace (view.Object members) (InConstraints (view.Object members)) p
          in
          subst R (sym new_is) (first_in_member (view.Object members) w (codes "constraints") (BreaksTests many) (its
          ∙ is)
          place (subst Q some (says (value_keys members (codes "constraints") w keys is))))
