-- A member that is refused, and a value that is.
use Rattle.std.proofs.Common.{◌≡◌, ℕ, Bool, true, false, not, ◌&&◌, nat_le, if◌then◌else◌, List, [], ◌∷◌, length, Option, Some, None, is_some, Result, IfOk, refl, sym, ap, ◌∙◌, subst}
use Rattle.helix_base.specs.declared.memory.Memory.{Memory}
use Rattle.helix_json.specs.declared.value.Json.{Json}
use Rattle.helix_json.specs.declared.value.Json.TheViews as view
use Rattle.helix_places.specs.declared.place.Step.{Step}
use Rattle.helix_places.specs.declared.place.Step.TheVariants as step
use Rattle.helix_places.specs.Members.{members_of, value_of}
use Rattle.helix_places.specs.Places.{Finds, Here, InMember}
use Rattle.helix_places.specs.PlaceLaws.{finds_top, none_in_member, first_in_member}
use Rattle.helix_places.specs.PartLaws.{Says}
use Rattle.helix_places.specs.ViewLaws.{items_of_list}
use Rattle.helix_fields.specs.Whole.{is_list_within}
use Rattle.helix_fields.specs.SearchLaws.{if_ok}

pub not_both : (b : Bool) → b ≡ true → b ≡ false → ⊥
not_both b is_true is_false = cc

pub not_true : (b : Bool) → not b ≡ true → b ≡ false
not_true true e = absurd (cc)
not_true false e = refl

pub not_false : (b : Bool) → not b ≡ false → b ≡ true
not_false true e = refl
not_false false e = absurd (cc)

-- the place of a member where it is refused
abbrev pub place_where : Bool → List ℕ → Option (List Step)
place_where b key = if b then Some (step.Member key ∷ []) else None

module _ (v w : Json) (key : List ℕ) (P : Json → Type 0) (is : Some w ≡ value_of key (members_of v)) where
  refused_is : (b : Bool) → (b ≡ true → P w) → (b ≡ false → ¬ (P w))
      → Finds v (InMember key (Here P) v) (place_where b key)
  refused_is true holds fails =
      first_in_member v w key (Here P) (sym is) [] (finds_top w (Here P w) (refl, holds refl))
  refused_is false holds fails = none_in_member v w key (Here P) (sym is) (λ place h. fails refl h.1)

  pub refused_says : (b : Bool) (r : Result (Option (List Step)) Memory) → (b ≡ true → P w) → (b ≡ false → ¬ (P w))
      → IfOk r (λ found. found ≡ place_where b key) → IfOk r (Says (InMember key (Here P)) v)
  refused_says b r holds fails = if_ok r _ _ (λ found found_is keys.
      let Q : Option (List Step) → Type 0 = λ o. Finds v (InMember key (Here P) v) o in
      subst Q (sym found_is) (refused_is b holds fails))

-- a member that a test refuses, or that is refused because a test fails
module _ (v w : Json) (key : List ℕ) (test : Json → Bool) (is : Some w ≡ value_of key (members_of v)) (b : Bool)
    (tested : b ≡ test w) (r : Result (Option (List Step)) Memory)
  where
    pub true_refused : IfOk r (λ found. found ≡ place_where b key)
        → IfOk r (Says (InMember key (Here (λ u. test u ≡ true))) v)
    true_refused = refused_says v w key (λ u. test u ≡ true) is b r (λ e. sym tested ∙ e)
        (λ e h. not_both (test w) h (sym tested ∙ e))

    pub false_refused : IfOk r (λ found. found ≡ place_where (not b) key)
        → IfOk r (Says (InMember key (Here (λ u. test u ≡ false))) v)
    false_refused = refused_says v w key (λ u. test u ≡ false) is (not b) r
        (λ e. sym tested ∙ not_true b e) (λ e h. not_both (test w) (sym tested ∙ not_false b e) h)

-- a list with so many items
pub list_within : (least most : ℕ) (v : Json) (items : List Json) → v ≡ view.List items
    → is_list_within least most v ≡ (nat_le least (length items) && nat_le (length items) most)
list_within least most v items is = ap (is_list_within least most) is
    ∙ ap (λ l. nat_le least (length l) && nat_le (length l) most) (items_of_list items)

-- a value that is refused, or isn't
pub top_refused : (v : Json) (P : Json → Type 0) (new : List Step) → new ≡ [] → P v → Says (Here P) v (Some new)
top_refused v P new is p keys = let Q : List Step → Type 0 = λ o. Finds v (Here P v) (Some o) in
    subst Q (sym is) (finds_top v (Here P v) (refl, p))

pub top_allowed : (v : Json) (P : Json → Type 0) → ¬ (P v) → Says (Here P) v None
top_allowed v P not_p keys place h = not_p h.1

pub no_key : (o : Option Json) → None ≡ o → is_some o ≡ false
no_key o none = ap is_some (sym none)

pub a_key : (o : Option Json) (w : Json) → Some w ≡ o → is_some o ≡ true
a_key o w some = ap is_some (sym some)
