-- A search in a value, by what a search in one of its parts found.
use Rattle.std.proofs.Common.{◌≡◌, ◌⊎◌, inl, inr, ⊎_elim, ℕ, Bool, true, false, if◌then◌else◌, List, [], ◌∷◌, Option, Some, None, Result, Ok, Err, IfOk, slice_get, refl, sym, subst}
use Rattle.std.specs.Option.{IsSomeAnd, option_map}
use Rattle.std.specs.Str.{bytes_eq}
use Rattle.helix_base.specs.declared.memory.Memory.{Memory}
use Rattle.helix_json.specs.declared.value.Json.{Json, Row_of-Member}
use Rattle.helix_json.specs.declared.value.Json as json
use Rattle.helix_json.specs.Values.{HasNoRepeatedKey, MembersHaveNoRepeatedKey}
use Rattle.helix_places.specs.declared.place.Step.{Step}
use Rattle.helix_places.specs.declared.place.Step.TheVariants as step
use Rattle.helix_places.specs.Members.{items_of, members_of, listed_members, value_of}
use Rattle.helix_places.specs.Places.{Finds, Here, InItem, InMember}
use Rattle.helix_places.specs.PlaceLaws.{finds_same, finds_top, none_in_member, first_in_member}
use Rattle.helix_places.specs.PartLaws.{Says}

pub if_ok : {A E : Type 0} (r : Result A E) (P Q : A → Type 0) → ((x : A) → P x → Q x) → IfOk r P → IfOk r Q
if_ok (Ok x) P Q f h = f x h
if_ok (Err e) P Q f h = h

pub none_is : {A : Type 0} (o : Option A) (P : A → Type 0) → o ≡ None → ¬ (IsSomeAnd o P)
none_is o P is h = let Q : Option _ → Type 0 = λ q. IsSomeAnd q P in subst Q is h

-- the value under a key repeats no key
keys_in_choice : (b : Bool) (value w : Json) (rest : Option Json) → HasNoRepeatedKey value
    → (rest ≡ Some w → HasNoRepeatedKey w) → (if b then Some value else rest) ≡ Some w → HasNoRepeatedKey w
keys_in_choice true value w rest here later is = let same : value ≡ w = cc in subst HasNoRepeatedKey same here
keys_in_choice false value w rest here later is = later is

keys_in_row : {n : _} (members : Row_of-Member n) (key : List ℕ) (w : Json) → MembersHaveNoRepeatedKey members
    → value_of key (listed_members members) ≡ Some w → HasNoRepeatedKey w
keys_in_row json.end_of-Member key w keys is = absurd (cc)
keys_in_row (json.more_of-Member other value members) key w keys is =
    keys_in_choice (bytes_eq other key) value w (value_of key (listed_members members)) keys.1
    (keys_in_row members key w keys.2) is

pub keys_under : (v : Json) (key : List ℕ) (w : Json) → HasNoRepeatedKey v → value_of key (members_of v) ≡ Some w
    → HasNoRepeatedKey w
keys_under json.Null key w keys is = absurd (cc)
keys_under (json.Bool b) key w keys is = absurd (cc)
keys_under (json.Number text) key w keys is = absurd (cc)
keys_under (json.Str text) key w keys is = absurd (cc)
keys_under (json.List' shape items) key w keys is = absurd (cc)
keys_under (json.Object' shape members) key w keys is = keys_in_row members key w keys is

-- no member has the key
pub none_under : (v : Json) (key : List ℕ) (P : Json → List Step → Type 0) → None ≡ value_of key (members_of v)
    → Says (InMember key P) v None
none_under v key P none keys [] h = h
none_under v key P none keys (step.Item index ∷ place) h = h
none_under v key P none keys (step.Member other ∷ place) h =
    none_is (value_of key (members_of v)) (λ w. P w place) (sym none) h.1

-- a member has the key
module _ (v w : Json) (key : List ℕ) (P : Json → List Step → Type 0) (is : Some w ≡ value_of key (members_of v)) where
  in_member : (found : Option (List Step)) → Finds w (P w) found
      → Finds v (InMember key P v) (option_map (λ place. step.Member key ∷ place) found)
  in_member None finds = none_in_member v w key P (sym is) finds
  in_member (Some place) finds = first_in_member v w key P (sym is) place finds

  pub member_says : (found : Option (List Step)) (r : Result (Option (List Step)) Memory) → Says P w found
      → IfOk r (λ outer. outer ≡ option_map (λ place. step.Member key ∷ place) found)
      → IfOk r (Says (InMember key P) v)
  member_says found r says = if_ok r _ _ (λ outer outer_is keys.
      let Q : Option (List Step) → Type 0 = λ o. Finds v (InMember key P v) o in
      subst Q (sym outer_is) (in_member found (says (keys_under v key w keys (sym is)))))

-- a value that is no list, and one that is
pub no_items : (v : Json) (P : Json → List Step → Type 0) → items_of v ≡ [] → Says (InItem P) v None
no_items v P none keys [] h = h
no_items v P none keys (step.Member key ∷ place) h = h
no_items v P none keys (step.Item index ∷ place) h =
    let Q : List Json → Type 0 = λ l. IsSomeAnd (slice_get l index) (λ w. P w place) in subst Q none h

pub same_says : (v w : Json) (P : Json → List Step → Type 0) (r : Result (Option (List Step)) Memory) → v ≡ w
    → IfOk r (Says P w) → IfOk r (Says P v)
same_says v w P r is says = let Q : Json → Type 0 = λ u. IfOk r (Says P u) in subst Q (sym is) says

-- the value itself, or a place that another property names
module _ (v : Json) (A : Json → Type 0) (P : Json → List Step → Type 0) where
  pub top_says : (new : List Step) → new ≡ [] → A v → Says (λ u place. Here A u place ⊎ P u place) v (Some new)
  top_says new is a keys = let Q : List Step → Type 0 =
      λ p. Finds v (λ place. Here A v place ⊎ P v place) (Some p) in
      subst Q (sym is) (finds_top v (λ place. Here A v place ⊎ P v place) (inl (refl, a)))

  pub below_says : (r : Result (Option (List Step)) Memory) → ¬ (A v) → IfOk r (Says P v)
      → IfOk r (Says (λ u place. Here A u place ⊎ P u place) v)
  below_says r not_a = if_ok r _ _ (λ found says keys. finds_same v (P v) (λ place. Here A v place ⊎ P v place) found
      (λ place. ((λ p. inr p), (λ h. ⊎_elim (λ here. absurd (not_a here.1)) (λ p. p) h))) (says keys))
