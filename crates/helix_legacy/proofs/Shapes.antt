-- The form of `rules` and of a rule.
use Rattle.std.proofs.Common.{◌≡◌, ◌↔◌, inl, inr, ⊎_elim, Bool, true, false, List, [], ◌∷◌, Option, Some, None, is_some, Result, IfOk, codes, refl, sym, ◌∙◌, ap, subst}
use Rattle.std.specs.Option.{IsSomeAnd}
use Rattle.std.proofs.lemmas.Bool.{and_parts}
use Rattle.helix_json.specs.declared.value.Json.{Json}
use Rattle.helix_json.specs.declared.value.Json.TheViews as view
use Rattle.helix_json.specs.declared.value.Member.{Member}
use Rattle.helix_json.specs.Values.{HasNoRepeatedKey}
use Rattle.helix_base.specs.declared.memory.Memory.{Memory}
use Rattle.helix_places.specs.declared.place.Step.{Step}
use Rattle.helix_places.specs.declared.place.Step.TheVariants as step
use Rattle.helix_places.specs.Members.{members_of, value_of, has_key, are_keys, is_list, some_is}
use Rattle.helix_legacy.specs.Broken.{BreaksForm, BreaksRuleForm, is_rule}
use Rattle.helix_places.specs.Places.{Finds, InItem, Here}
use Rattle.helix_places.specs.PlaceLaws.{finds_same, finds_top_at, some_and, and_some}
use Rattle.helix_places.specs.ViewLaws.{members_of_object}
use Rattle.helix_legacy.proofs.Visiting.{if_ok}

abbrev Says : (Json → List Step → Type 0) → Json → Option (List Step) → Type 0
Says P v found = HasNoRepeatedKey v → Finds v (P v) found

not_both : (b : Bool) → b ≡ true → b ≡ false → ⊥
not_both b yes_it_is not_it = cc

pub no_list : (v : Json) (new : List Step) → is_list v ≡ false → new ≡ [] → Says BreaksForm v (Some new)
no_list v new none is keys = finds_top_at v (BreaksForm v) new is (inl (refl, none))

pub no_object : (v : Json) (new : List Step) → members_of v ≡ [] → new ≡ [] → Says BreaksRuleForm v (Some new)
no_object v new none is keys = finds_top_at v (BreaksRuleForm v) new is
    (inl (refl, ap (are_keys (codes "rule" ∷ codes "constraints" ∷ [])) none))

in_list : (items : List Json) (place : List Step) → InItem BreaksRuleForm (view.List items) place
    ↔ BreaksForm (view.List items) place
in_list items place = ((λ h. inr h), (λ h. ⊎_elim (λ none. absurd (not_both true refl none.1)) (λ deep. deep) h))

pub items_say : (v : Json) (items : List Json) (r : Result (Option (List Step)) Memory) → v ≡ view.List items
    → IfOk r (Says (InItem BreaksRuleForm) (view.List items)) → IfOk r (Says BreaksForm v)
items_say v items r is says =
    let Q : Json → Type 0 = λ w. IfOk r (Says BreaksForm w) in
    subst Q (sym is) (if_ok r _ _ (λ found finds keys. finds_same (view.List items)
    (InItem BreaksRuleForm (view.List items))
    (BreaksForm (view.List items)) found (in_list items) (finds keys)) says)

pub object_says : (v : Json) (members : List Member) (r : Result (Option (List Step)) Memory) → v ≡ view.Object members
    → IfOk r (Finds (view.Object members) (BreaksRuleForm (view.Object members))) → IfOk r (Says BreaksRuleForm v)
object_says v members r is says =
    let Q : Json → Type 0 = λ w. IfOk r (Says BreaksRuleForm w) in
    subst Q (sym is) (if_ok r _ _ (λ found finds keys. finds) says)

module _ (members : List Member) where
  rule_is : is_rule (view.Object members) ≡ are_keys (codes "rule" ∷ codes "constraints" ∷ []) members
  rule_is = ap (are_keys (codes "rule" ∷ codes "constraints" ∷ [])) (members_of_object members)

  pub other_keys : (new : List Step) → are_keys (codes "rule" ∷ codes "constraints" ∷ []) members ≡ false → new ≡ []
      → Finds (view.Object members) (BreaksRuleForm (view.Object members)) (Some new)
  other_keys new other is =
      finds_top_at (view.Object members) (BreaksRuleForm (view.Object members)) new is (inl (refl, rule_is ∙ other))

  -- in an object with the two keys
  module _ (keys : are_keys (codes "rule" ∷ codes "constraints" ∷ []) members ≡ true) where
    list_fault : (some : Option Json) → value_of (codes "constraints") (members_of (view.Object members)) ≡ some
        → (place : List Step) → BreaksRuleForm (view.Object members) place
        → (w : Json) × (some ≡ Some w) × (is_list w ≡ false) × (place ≡ step.Member (codes "constraints") ∷ [])
    list_fault some is place (inl here) = absurd (not_both (is_rule (view.Object members)) (rule_is ∙ keys) here.1)
    list_fault some is [] (inr deep) = absurd deep
    list_fault some is (step.Item index ∷ place) (inr deep) = absurd deep
    list_fault None is (step.Member key ∷ place) (inr deep) =
        absurd (let Q : Option Json → Type 0 = λ o. IsSomeAnd o (λ w. Here (λ v. is_list v ≡ false) w place) in subst
        Q is deep.1)
    list_fault (Some w) is (step.Member key ∷ place) (inr deep) =
        let fault : (place ≡ []) × (is_list w ≡ false) =
        some_and (value_of (codes "constraints") (members_of (view.Object members)))
        (λ v. Here (λ u. is_list u ≡ false) v place) w is deep.1 in (
          w,
          refl,
          fault.1,
          ap (λ k. step.Member k ∷ place) deep.0 ∙ ap (λ p. step.Member (codes "constraints") ∷ p)
              fault.0,
        )

    value_is : value_of (codes "constraints") (members_of (view.Object members))
        ≡ value_of (codes "constraints") members
    value_is = ap (value_of (codes "constraints")) (members_of_object members)

    pub a_list : some_is is_list (value_of (codes "constraints") members) ≡ true
        → Finds (view.Object members) (BreaksRuleForm (view.Object members)) None
    a_list list place broken =
        let fault : (w : Json) × (value_of (codes "constraints") members ≡ Some w) × (is_list w ≡ false)
        × (place ≡ step.Member (codes "constraints") ∷ []) =
        list_fault (value_of (codes "constraints") members) value_is place broken in
        not_both (is_list fault.0) (ap (some_is is_list) (sym fault.1) ∙ list) fault.2

    has_constraints : has_key (codes "constraints") members ≡ true
    has_constraints = (and_parts _ true (and_parts (has_key (codes "rule") members) _ (and_parts _ _ keys).1).1).0

    no_list_at : (some : Option Json) → value_of (codes "constraints") members ≡ some → some_is is_list some ≡ false
        → BreaksRuleForm (view.Object members) (step.Member (codes "constraints") ∷ [])
    no_list_at None is none = absurd (not_both (has_key (codes "constraints") members) has_constraints
        (let P : Option Json → Bool = λ o. is_some o in ap P is))
    no_list_at (Some w) is none = inr (
      refl,
      and_some (value_of (codes "constraints") (members_of (view.Object members)))
          (λ v. Here (λ u. is_list u ≡ false) v []) w (value_is ∙ is) (refl, none),
    )

    pub not_a_list : some_is is_list (value_of (codes "constraints") members) ≡ false → (new : List Step)
        → new ≡ step.Member (codes "constraints") ∷ []
        → Finds (view.Object members) (BreaksRuleForm (view.Object members)) (Some new)
    not_a_list none new new_is = record {
      named = let Q : List Step → Type 0 = BreaksRuleForm (view.Object members) in subst Q (sym new_is)
          (no_list_at (value_of (codes "constraints") members) refl none);
      first = λ other broken. let fault = list_fault (value_of (codes "constraints")
          (members_of (view.Object members))) refl
          other broken in inl (fault.3 ∙ sym new_is);
    }
