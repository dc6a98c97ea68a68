-- Induction on a JSON value along its parts.
use Rattle.std.proofs.Common.{◌≡◌, ℕ, zero, suc, Bool, true, false, if◌then◌else◌, List, [], Option, Some, None, slice_get, refl, sym, ◌∙◌, ap, subst}
use Rattle.std.specs.Str.{bytes_eq}
use Rattle.helix_json.specs.declared.value.Json.{Json, Row_of-Json, Row_of-Member}
use Rattle.helix_json.specs.declared.value.Json as json
use Rattle.helix_places.specs.Members.{items_of, listed_items, listed_members, members_of, value_of}
use Rattle.helix_places.specs.Places.{part}
use Rattle.helix_places.specs.declared.place.Step.{Step}
use Rattle.helix_places.specs.declared.place.Step.TheVariants as step

-- what holds of all parts of a value
abbrev pub OfParts : (Json → Type 0) → Json → Type 0
OfParts P v = (s : Step) (w : Json) → part v s ≡ Some w → P w

-- the value under a key is that of the first member, or of a later one
pub by_key : (b : Bool) (v : Json) (rest : Option Json) (w : Json) (A : Type 0) → (v ≡ w → A) → (rest ≡ Some w → A)
    → (if b then Some v else rest) ≡ Some w → A
by_key true v rest w A here later is = here (let same : v ≡ w = cc in same)
by_key false v rest w A here later is = later is

module _ (P : Json → Type 0) where
  no_parts : (v : Json) → items_of v ≡ [] → members_of v ≡ [] → OfParts P v
  no_parts v items members (step.Member key) w is =
      let none : None ≡ Some w = sym (ap (value_of key) members) ∙ is in absurd (cc)
  no_parts v items members (step.Item i) w is =
      let none : None ≡ Some w = sym (ap (λ l. slice_get l i) items) ∙ is in absurd (cc)

  list_parts : (v : Json) → members_of v ≡ []
      → ((i : ℕ) (w : Json) → slice_get (items_of v) i ≡ Some w → P w) → OfParts P v
  list_parts v members each (step.Member key) w is =
      let none : None ≡ Some w = sym (ap (value_of key) members) ∙ is in absurd (cc)
  list_parts v members each (step.Item i) w is = each i w is

  object_parts : (v : Json) → items_of v ≡ []
      → ((key : List ℕ) (w : Json) → value_of key (members_of v) ≡ Some w → P w) → OfParts P v
  object_parts v items each (step.Member key) w is = each key w is
  object_parts v items each (step.Item i) w is =
      let none : None ≡ Some w = sym (ap (λ l. slice_get l i) items) ∙ is in absurd (cc)

  module _ (whole : (v : Json) → OfParts P v → P v) where
    mutual
      -- what holds of a value where it holds of all of its parts holds of each value
      pub by_parts : (v : Json) → P v
      by_parts json.Null = whole json.Null (no_parts json.Null refl refl)
      by_parts (json.Bool b) = whole (json.Bool b) (no_parts (json.Bool b) refl refl)
      by_parts (json.Number text) = whole (json.Number text) (no_parts (json.Number text) refl refl)
      by_parts (json.Str text) = whole (json.Str text) (no_parts (json.Str text) refl refl)
      by_parts (json.List' shape items) = whole (json.List' shape items)
          (list_parts (json.List' shape items) refl (λ i w is. in_items items i w is))
      by_parts (json.Object' shape members) = whole (json.Object' shape members)
          (object_parts (json.Object' shape members) refl (λ key w is. in_members members key w is))

      in_items : {n : _} (items : Row_of-Json n) (i : ℕ) (w : Json) → slice_get (listed_items items) i ≡ Some w → P w
      in_items json.end_of-Json i w is = absurd (let none : None ≡ Some w = is in cc)
      in_items (json.more_of-Json item items) zero w is =
          let same : item ≡ w = cc in subst P same (by_parts item)
      in_items (json.more_of-Json item items) (suc i) w is = in_items items i w is

      in_members : {n : _} (members : Row_of-Member n) (key : List ℕ) (w : Json)
          → value_of key (listed_members members) ≡ Some w → P w
      in_members json.end_of-Member key w is = absurd (let none : None ≡ Some w = is in cc)
      in_members (json.more_of-Member other v members) key w is = by_key (bytes_eq other key) v
          (value_of key (listed_members members)) w (P w) (λ same. subst P same (by_parts v))
          (λ later. in_members members key w later) is
