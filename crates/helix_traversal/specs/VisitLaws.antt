-- A place that a property of constraints names in a visited constraint is one that it names in the profile.
use Rattle.std.proofs.Common.{◌≡◌, ◌⊎◌, inl, inr, ⊎_elim, ℕ, zero, suc, ◌+◌, Bool, true, false, if◌then◌else◌, List, [], ◌∷◌, ◌++◌, Option, None, Some, slice_get, codes, refl, sym, ◌∙◌, ap, subst, arith}
use Rattle.std.specs.Option.{IsSomeAnd}
use Rattle.std.specs.Str.{bytes_eq}
use Rattle.std.proofs.lemmas.List.{append_assoc, append-nil}
use Rattle.helix_constraints.specs.Visited.{InConstraint, InConstraints, Visited, role_of_parts}
use Rattle.helix_constraints.specs.declared.role.Role.{Role}
use Rattle.helix_constraints.specs.declared.role.Role.TheVariants as role
use Rattle.helix_json.specs.Values.{HasKey, HasNoRepeatedKey, ItemsHaveNoRepeatedKey, MembersHaveNoRepeatedKey}
use Rattle.helix_json.specs.declared.value.Json.{Json, Row_of-Json, Row_of-Member}
use Rattle.helix_json.specs.declared.value.Json as json
use Rattle.helix_keywords.specs.Forms.{form_of}
use Rattle.helix_places.specs.KeyLaws.{bytes_same, other_bytes, same_bytes}
use Rattle.helix_places.specs.Members.{listed_items, listed_members, members_of, value_of}
use Rattle.helix_places.specs.PlaceLaws.{and_some}
use Rattle.helix_places.specs.Places.{InItem, part}
use Rattle.helix_places.specs.declared.place.Step.{Step}
use Rattle.helix_places.specs.declared.place.Step.TheVariants as step
use Rattle.helix_traversal.specs.Inner.Parts.{whole}
use Rattle.helix_traversal.specs.Traversal.{Visit, all_constraints, at_index, at_key, chosen, inside_of, of_branches, of_items, of_list, of_operands, of_some_list, within}
use Rattle.helix_traversal.specs.declared.inside.Inside.{Inside}
use Rattle.helix_traversal.specs.declared.inside.Inside.TheVariants as inside
use Rattle.helix_traversal.specs.RoleLaws.{IsOne, one_of_two, role_of_inside, same_role}

by_key : {B : Type 0} (b : Bool) (other key : List ℕ) (v : Json) (later : Option Json) (w : Json)
    → bytes_eq other key ≡ b → (later ≡ Some w → B) → (if b then Some v else later) ≡ Some w → (other ≡ key) ⊎ B
by_key true other key v later w e more is = inl (same_bytes other key e)
by_key false other key v later w e more is = inr (more is)

has_key : {n : _} (members : Row_of-Member n) (key : List ℕ) (w : Json) → value_of key (listed_members members) ≡ Some w
    → HasKey key members
has_key json.end_of-Member key w is = absurd (cc)
has_key (json.more_of-Member other v members) key w is =
    by_key (bytes_eq other key) other key v (value_of key (listed_members members)) w refl
    (λ later. has_key members key w later) is

module _ (P : Json → List Step → Type 0) where
  -- a visit to a place in a value at a place: what names a place in the visited value names it in the value
  pub record IsVisit (which : Role) (place : List Step) (v : Json) (one : Visit) : Type 0 where
    pub rest : List Step
    pub is : one.place ≡ place ++ rest
    pub named : (there : List Step) → P one.value there → Visited P which v (rest ++ there)

  itself : (v : Json) (there : List Step) → P v there → Visited P role.One v there
  itself v [] h = h
  itself v (next ∷ there) h = inl h

  deeper : (which next : Role) (place : List Step) (v w : Json) (to : Step) (one : Visit)
      → role_of_parts which v ≡ Some next → part v to ≡ Some w → IsVisit next (place ++ to ∷ []) w one
      → IsVisit which place v one
  deeper which next place v w to one role_is part_is at = record {
    rest = to ∷ at.rest;
    is = at.is ∙ append_assoc place (to ∷ []) at.rest;
    named = λ there h. inr (and_some (role_of_parts which v)
        (λ r. IsSomeAnd (part v to) (λ u. Visited P r u (at.rest ++ there))) next role_is
        (and_some (part v to) (λ u. Visited P next u (at.rest ++ there)) w part_is (at.named there h)));
  }

  -- a visit to a member
  abbrev ToMember : Role → List Step → {n : _} → Row_of-Member n → Visit → Type 0
  ToMember which place members one = (key : List ℕ) × ((w : Json)
      × ((value_of key (listed_members members) ≡ Some w) × IsVisit which (at_key place key) w one))

  first_member : (which : Role) (place : List Step) {n : _} (key : List ℕ) (v : Json) (members : Row_of-Member n)
      (one : Visit) → IsVisit which (at_key place key) v one → ToMember which place (json.more_of-Member key v members) one
  first_member which place key v members one at =
      (key, (v, (ap (λ b. if b then Some v else value_of key (listed_members members)) (bytes_same key), at)))

  later_member : (which : Role) (place : List Step) {n : _} (key : List ℕ) (v : Json) (members : Row_of-Member n)
      (one : Visit) → ¬ (HasKey key members) → ToMember which place members one
      → ToMember which place (json.more_of-Member key v members) one
  later_member which place key v members one only (other, (w, (is, at))) = (
    other,
    (
      w,
      (
        ap (λ b. if b then Some v else value_of other (listed_members members))
            (other_bytes key other (λ same. only (subst (λ k. HasKey k members) (sym same) (has_key members other w is))))
            ∙ is,
        at,
      ),
    ),
  )

  by_inside : (place : List Step) (v : Json) {n : _} (members : Row_of-Member n) (one : Visit) (which : Inside)
      → ((key : List ℕ) → part v (step.Member key) ≡ value_of key (listed_members members))
      → role_of_parts role.One v ≡ role_of_inside which
      → (IsOne (of_operands place members) one → ToMember role.One place members one)
      → (IsOne (of_branches place members) one → ToMember role.Many place members one)
      → IsOne (chosen which (of_operands place members) (of_branches place members)) one → IsVisit role.One place v one
  by_inside place v members one inside.Nothing part_is role_is operands branches none = absurd none
  by_inside place v members one inside.Operands part_is role_is operands branches deep =
      let at : ToMember role.One place members one = operands deep in
      deeper role.One role.One place v at.1.0 (step.Member at.0) one role_is (part_is at.0 ∙ at.1.1.0) at.1.1.1
  by_inside place v members one inside.Branches part_is role_is operands branches deep =
      let at : ToMember role.Many place members one = branches deep in
      deeper role.One role.Many place v at.1.0 (step.Member at.0) one role_is (part_is at.0 ∙ at.1.1.0) at.1.1.1

  whole_by : (v : Json) (place : List Step) (one : Visit)
      → (IsOne (within place v) one → IsVisit role.One place v one) → IsOne (whole place v) one
      → IsVisit role.One place v one
  whole_by v place one within_is (inl same) = record {
    rest = [];
    is = sym (ap (λ x. x.place) same) ∙ sym (append-nil place);
    named = λ there h. itself v there (subst (λ w. P w there) (sym (ap (λ x. x.value) same)) h);
  }
  whole_by v place one within_is (inr deep) = within_is deep

  mutual
    in_within : (v : Json) → HasNoRepeatedKey v → (place : List Step) (one : Visit) → IsOne (within place v) one
        → IsVisit role.One place v one
    in_within json.Null keys place one is = absurd is
    in_within (json.Bool b) keys place one is = absurd is
    in_within (json.Number text) keys place one is = absurd is
    in_within (json.Str text) keys place one is = absurd is
    in_within (json.List' shape items) keys place one is = absurd is
    in_within (json.Object' shape members) keys place one is =
        by_inside place (json.Object' shape members) members one (inside_of (form_of (listed_members members)))
        (λ key. refl) (same_role (form_of (listed_members members)))
        (λ deep. in_operands members keys place one deep) (λ deep. in_branches members keys place one deep) is

    in_operands : {n : _} (members : Row_of-Member n) → MembersHaveNoRepeatedKey members → (place : List Step)
        (one : Visit) → IsOne (of_operands place members) one → ToMember role.One place members one
    in_operands json.end_of-Member keys place one is = absurd is
    in_operands (json.more_of-Member key v members) keys place one is = ⊎_elim
        (λ here. first_member role.One place key v members one (whole_by v (at_key place key) one
        (λ deep. in_within v keys.1 (at_key place key) one deep) here))
        (λ later. later_member role.One place key v members one keys.0 (in_operands members keys.2 place one later))
        (one_of_two (whole (at_key place key) v) (of_operands place members) one is)

    in_branches : {n : _} (members : Row_of-Member n) → MembersHaveNoRepeatedKey members → (place : List Step)
        (one : Visit) → IsOne (of_branches place members) one → ToMember role.Many place members one
    in_branches json.end_of-Member keys place one is = absurd is
    in_branches (json.more_of-Member key v members) keys place one is = ⊎_elim
        (λ here. first_member role.Many place key v members one (in_list v keys.1 (at_key place key) one here))
        (λ later. later_member role.Many place key v members one keys.0 (in_branches members keys.2 place one later))
        (one_of_two (of_list (at_key place key) v) (of_branches place members) one is)

    pub in_list : (v : Json) → HasNoRepeatedKey v → (place : List Step) (one : Visit) → IsOne (of_list place v) one
        → IsVisit role.Many place v one
    in_list json.Null keys place one is = absurd is
    in_list (json.Bool b) keys place one is = absurd is
    in_list (json.Number text) keys place one is = absurd is
    in_list (json.Str text) keys place one is = absurd is
    in_list (json.Object' shape members) keys place one is = absurd is
    in_list (json.List' shape items) keys place one is =
        let at = in_items items keys place 0 one is in
        let same : 0 + at.0 ≡ at.0 = omega arith in
        deeper role.Many role.One place (json.List' shape items) at.1.0 (step.Item at.0) one refl at.1.1.0
        (subst (λ k. IsVisit role.One (at_index place k) at.1.0 one) same at.1.1.1)

    in_items : {n : _} (items : Row_of-Json n) → ItemsHaveNoRepeatedKey items → (place : List Step) (index : ℕ)
        (one : Visit) → IsOne (of_items place index items) one
        → (i : ℕ) × ((w : Json) × ((slice_get (listed_items items) i ≡ Some w)
        × IsVisit role.One (at_index place (index + i)) w one))
    in_items json.end_of-Json keys place index one is = absurd is
    in_items (json.more_of-Json item items) keys place index one is = ⊎_elim
        (λ here. (
          zero,
          (
            item,
            (
              refl,
              let same : index ≡ index + zero = omega arith in
                  subst (λ k. IsVisit role.One (at_index place k) item one) same
                  (whole_by item (at_index place index) one
                  (λ deep. in_within item keys.0 (at_index place index) one deep) here),
            ),
          ),
        ))
        (λ later. let at = in_items items keys.1 place (index + 1) one later in
        let same : (index + 1) + at.0 ≡ index + suc at.0 = omega arith in
        (suc at.0, (at.1.0, (at.1.1.0, subst (λ k. IsVisit role.One (at_index place k) at.1.0 one) same at.1.1.1))))
        (one_of_two (whole (at_index place index) item) (of_items place (index + 1) items) one is)

  pub in_whole : (v : Json) → HasNoRepeatedKey v → (place : List Step) (one : Visit) → IsOne (whole place v) one
      → IsVisit role.One place v one
  in_whole v keys place one is = whole_by v place one (λ deep. in_within v keys place one deep) is

  abbrev under : List Step
  under = step.Member (codes "constraints") ∷ []

  in_item : (w : Json) (place : List Step) → Visited P role.Many w place → InItem (InConstraint P) w place
  in_item w [] h = absurd h
  in_item w (to ∷ place) (inl h) = absurd h
  in_item json.Null (to ∷ place) (inr h) = absurd h
  in_item (json.Bool b) (to ∷ place) (inr h) = absurd h
  in_item (json.Number text) (to ∷ place) (inr h) = absurd h
  in_item (json.Str text) (to ∷ place) (inr h) = absurd h
  in_item (json.Object' shape members) (to ∷ place) (inr h) = absurd h
  in_item (json.List' shape items) (step.Item i ∷ place) (inr h) = h
  in_item (json.List' shape items) (step.Member key ∷ place) (inr h) = absurd h

  keys_in : {n : _} (members : Row_of-Member n) (key : List ℕ) (w : Json) → MembersHaveNoRepeatedKey members
      → value_of key (listed_members members) ≡ Some w → HasNoRepeatedKey w
  keys_in json.end_of-Member key w keys is = absurd (cc)
  keys_in (json.more_of-Member other v members) key w keys is =
      chosen_keys (bytes_eq other key) v (value_of key (listed_members members)) w keys.1
      (λ later. keys_in members key w keys.2 later) is
    where
      chosen_keys : (b : Bool) (v : Json) (later : Option Json) (w : Json) → HasNoRepeatedKey v
          → (later ≡ Some w → HasNoRepeatedKey w) → (if b then Some v else later) ≡ Some w → HasNoRepeatedKey w
      chosen_keys true v later w here more is = let same : v ≡ w = cc in subst HasNoRepeatedKey same here
      chosen_keys false v later w here more is = more is

  keys_under : (v : Json) (key : List ℕ) (w : Json) → HasNoRepeatedKey v → value_of key (members_of v) ≡ Some w
      → HasNoRepeatedKey w
  keys_under json.Null key w keys is = absurd (cc)
  keys_under (json.Bool b) key w keys is = absurd (cc)
  keys_under (json.Number text) key w keys is = absurd (cc)
  keys_under (json.Str text) key w keys is = absurd (cc)
  keys_under (json.List' shape items) key w keys is = absurd (cc)
  keys_under (json.Object' shape members) key w keys is = keys_in members key w keys is

  -- and a place that it names in a visited constraint is one that it names in the profile
  pub in_all : (v : Json) (one : Visit) (there : List Step) → HasNoRepeatedKey v → IsOne (all_constraints v) one
      → P one.value there → InConstraints P v (one.place ++ there)
  in_all v one there keys visited h = by_value (value_of (codes "constraints") (members_of v)) refl visited
    where
      by_value : (o : Option Json) → value_of (codes "constraints") (members_of v) ≡ o
          → IsOne (of_some_list under o) one → InConstraints P v (one.place ++ there)
      by_value None is none = absurd none
      by_value (Some w) is visited =
          let at : IsVisit role.Many under w one = in_list w (keys_under v (codes "constraints") w keys is) under one visited in
          let named : InItem (InConstraint P) w (at.rest ++ there) = in_item w (at.rest ++ there) (at.named there h) in
          subst (InConstraints P v) (sym (ap (λ p. p ++ there) at.is)) (
            refl,
            and_some (value_of (codes "constraints") (members_of v))
                (λ u. InItem (InConstraint P) u (at.rest ++ there)) w is named,
          )
