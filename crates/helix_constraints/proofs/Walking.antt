-- The walk over the constraints of a value, part by part.
use Rattle.std.proofs.Common.{◌≡◌, ◌⊎◌, ◌↔◌, inl, inr, ⊎_elim, false, if◌then◌else◌, List, [], ◌∷◌, Option, Some, None, Result, IfOk, refl, sym, ◌∙◌, ap, subst}
use Rattle.std.specs.Option.{IsSomeAnd}
use Rattle.helix_base.specs.declared.memory.Memory.{Memory}
use Rattle.helix_json.specs.declared.value.Json.{Json}
use Rattle.helix_json.specs.declared.value.Json as json
use Rattle.helix_json.specs.declared.value.Json.TheViews as view
use Rattle.helix_json.specs.declared.value.Member.{Member}
use Rattle.helix_keywords.specs.Forms.{form_of, has_form, key_sets}
use Rattle.helix_places.specs.declared.place.Step.{Step}
use Rattle.helix_places.specs.declared.place.Step.TheVariants as step
use Rattle.helix_places.specs.Members.{members_of, is_list}
use Rattle.helix_places.specs.Places.{part, Finds, IsFirstPlace, InItem, InPart, Precedes}
use Rattle.helix_places.specs.PartLaws.{Says}
use Rattle.helix_places.specs.PlaceLaws.{finds_same, some_and, and_some}
use Rattle.helix_places.specs.ViewLaws.{members_of_object}
use Rattle.helix_fields.specs.SearchLaws.{if_ok, none_is}
use Rattle.helix_constraints.specs.declared.role.Role.{Role}
use Rattle.helix_constraints.specs.declared.role.Role.TheVariants as role
use Rattle.helix_constraints.specs.Visited.{IsAlone, Itself, Visited, Within, role_by_form, role_of_parts}

abbrev Anything : Json → List Step → Type 0
Anything w place = Unit {0}

some_map : {A : Type 0} (o : Option A) (P Q : A → Type 0) → ((x : A) → P x → Q x) → IsSomeAnd o P → IsSomeAnd o Q
some_map None P Q f h = h
some_map (Some x) P Q f h = f x h

module _ (P : Json → List Step → Type 0) where
  itself_or : (r : Role) (v : Json) (place : List Step)
      → (Itself P r v place ⊎ Within P r v place) ↔ Visited P r v place
  itself_or r v [] = ((λ h. ⊎_elim (λ p. p) (λ deep. absurd deep) h), (λ p. inl p))
  itself_or r v (next ∷ place) = ((λ h. h), (λ h. h))

  any_itself : (r : Role) (v : Json) (place : List Step) → Itself P r v place → Itself Anything r v place
  any_itself role.One v place h = tt
  any_itself role.Many v place h = h

  any_visited : (place : List Step) (r : Role) (v : Json) → Visited P r v place → Visited Anything r v place
  any_visited [] r v h = any_itself r v [] h
  any_visited (next ∷ place) r v h = ⊎_elim (λ itself. inl (any_itself r v (next ∷ place) itself))
      (λ deep. inr (some_map (role_of_parts r v) (λ s. IsSomeAnd (part v next) (λ w. Visited P s w place))
      (λ s. IsSomeAnd (part v next) (λ w. Visited Anything s w place))
      (λ s. some_map (part v next) (λ w. Visited P s w place) (λ w. Visited Anything s w place)
      (λ w. any_visited place s w)) deep)) h

  any_within : (place : List Step) (r : Role) (v : Json) → Within P r v place → Within Anything r v place
  any_within [] r v h = h
  any_within (next ∷ place) r v h = some_map (role_of_parts r v)
      (λ s. IsSomeAnd (part v next) (λ w. Visited P s w place))
      (λ s. IsSomeAnd (part v next) (λ w. Visited Anything s w place))
      (λ s. some_map (part v next) (λ w. Visited P s w place) (λ w. Visited Anything s w place)
      (λ w. any_visited place s w)) h

  -- the constraint itself is before those within it
  top_before : (v : Json) (place other : List Step) → place ≡ [] → Within P role.One v other
      → (other ≡ place) ⊎ Precedes v place other
  top_before v place [] top h = absurd h
  top_before v place (next ∷ other) top h =
      let Q : List Step → Type 0 = λ p. Precedes v p (next ∷ other) in inr (subst Q (sym top) tt)

  module _ (v : Json) (own_first : (place : List Step) → P v place → (place ≡ []) ⊎ IsAlone v) where
    -- the first place in the constraint itself, where there is one
    pub first_itself : (place : List Step) → IsFirstPlace v (P v) place
        → IsFirstPlace v (Visited P role.One v) place
    first_itself place first = record {
      named = (itself_or role.One v place).0 (inl first.named);
      first = λ other h. ⊎_elim (λ itself. first.first other itself)
          (λ deep. ⊎_elim (λ top. top_before v place other top deep)
          (λ alone. absurd (alone other (any_within other role.One v deep))) (own_first place first.named))
          ((itself_or role.One v other).1 h);
    }

    pub itself_says : (found : Option (List Step)) (place : List Step) → Says P v found → found ≡ Some place
        → Says (Visited P role.One) v (Some place)
    itself_says found place says some keys =
        let Q : Option (List Step) → Type 0 = λ o. Finds v (P v) o in first_itself place (subst Q some (says keys))

  -- and otherwise the first place within it
  within_finds : (v : Json) (found : Option (List Step)) → Finds v (P v) None → Finds v (Within P role.One v) found
      → Finds v (Visited P role.One v) found
  within_finds v found none = finds_same v (Within P role.One v) (Visited P role.One v) found (λ place. (
    (λ deep. (itself_or role.One v place).0 (inr deep)),
    (λ h. ⊎_elim (λ itself. absurd (none place itself)) (λ deep. deep) ((itself_or role.One v place).1 h)),
  ))

  pub within_says : (v : Json) (found : Option (List Step)) (r : Result (Option (List Step)) Memory) → Says P v found
      → found ≡ None → IfOk r (Says (Within P role.One) v) → IfOk r (Says (Visited P role.One) v)
  within_says v found r says none = if_ok r _ _ (λ deep finds keys.
      let Q : Option (List Step) → Type 0 = λ o. Finds v (P v) o in
      within_finds v deep (subst Q none (says keys)) (finds keys))

  -- parts that are or have constraints, and parts that don't
  parts_same : (r next : Role) (v : Json) → role_of_parts r v ≡ Some next → (place : List Step)
      → InPart (Visited P next) v place ↔ Within P r v place
  parts_same r next v is [] = ((λ h. h), (λ h. h))
  parts_same r next v is (s ∷ place) = (
    (λ h. and_some (role_of_parts r v) (λ q. IsSomeAnd (part v s) (λ w. Visited P q w place)) next is h),
    (λ h. some_and (role_of_parts r v) (λ q. IsSomeAnd (part v s) (λ w. Visited P q w place)) next is h),
  )

  none_within : (r : Role) (v : Json) → role_of_parts r v ≡ None → (place : List Step) → ¬ (Within P r v place)
  none_within r v none [] h = h
  none_within r v none (s ∷ place) h =
      none_is (role_of_parts r v) (λ q. IsSomeAnd (part v s) (λ w. Visited P q w place)) none h

  -- an object
  object_role : (members : List Member)
      → role_of_parts role.One (view.Object members) ≡ role_by_form (form_of members)
  object_role members = ap (λ ms. role_by_form (form_of ms)) (members_of_object members)

  pub members_say : (members : List Member) (o : Option Role) (next : Role)
      (r : Result (Option (List Step)) Memory) → o ≡ role_by_form (form_of members) → o ≡ Some next
      → IfOk r (Says (InPart (Visited P next)) (view.Object members))
      → IfOk r (Says (Within P role.One) (view.Object members))
  members_say members o next r is some = if_ok r _ _ (λ found says keys. finds_same (view.Object members)
      (InPart (Visited P next) (view.Object members)) (Within P role.One (view.Object members)) found
      (parts_same role.One next (view.Object members) (object_role members ∙ (sym is ∙ some))) (says keys))

  pub no_members_say : (members : List Member) (o : Option Role) → o ≡ role_by_form (form_of members) → o ≡ None
      → Says (Within P role.One) (view.Object members) None
  no_members_say members o is none keys =
      none_within role.One (view.Object members) (object_role members ∙ (sym is ∙ none))

  no_form : form_of [] ≡ None
  unfolding form_of has_form key_sets
  no_form = refl

  pub no_object_says : (v : Json) → members_of v ≡ [] → Says (Within P role.One) v None
  no_object_says v none keys = none_within role.One v
      (ap (λ ms. role_by_form (form_of ms)) none ∙ ap role_by_form no_form)

  -- a list
  many_same : (v : Json) (place : List Step) → Within P role.Many v place ↔ Visited P role.Many v place
  many_same v place = (
    (λ deep. (itself_or role.Many v place).0 (inr deep)),
    (λ h. ⊎_elim (λ itself. absurd itself) (λ deep. deep) ((itself_or role.Many v place).1 h)),
  )

  -- a value that is to be a list
  many_items : (w : Json) (place : List Step) → Visited P role.Many w place ↔ InItem (Visited P role.One) w place
  many_items w [] = ((λ h. h), (λ h. h))
  many_items json.Null (step.Item i ∷ place) = ((λ h. ⊎_elim (λ a. a) (λ b. b) h), (λ h. absurd h))
  many_items (json.Bool b) (step.Item i ∷ place) = ((λ h. ⊎_elim (λ a. a) (λ c. c) h), (λ h. absurd h))
  many_items (json.Number text) (step.Item i ∷ place) = ((λ h. ⊎_elim (λ a. a) (λ b. b) h), (λ h. absurd h))
  many_items (json.Str text) (step.Item i ∷ place) = ((λ h. ⊎_elim (λ a. a) (λ b. b) h), (λ h. absurd h))
  many_items (json.List' shape items) (step.Item i ∷ place) = ((λ h. ⊎_elim (λ a. absurd a) (λ b. b) h), (λ h. inr h))
  many_items (json.Object' shape members) (step.Item i ∷ place) =
      ((λ h. ⊎_elim (λ a. a) (λ b. b) h), (λ h. absurd h))
  many_items json.Null (step.Member key ∷ place) = ((λ h. ⊎_elim (λ a. a) (λ b. b) h), (λ h. absurd h))
  many_items (json.Bool b) (step.Member key ∷ place) = ((λ h. ⊎_elim (λ a. a) (λ c. c) h), (λ h. absurd h))
  many_items (json.Number text) (step.Member key ∷ place) = ((λ h. ⊎_elim (λ a. a) (λ b. b) h), (λ h. absurd h))
  many_items (json.Str text) (step.Member key ∷ place) = ((λ h. ⊎_elim (λ a. a) (λ b. b) h), (λ h. absurd h))
  many_items (json.List' shape items) (step.Member key ∷ place) =
      ((λ h. ⊎_elim (λ a. a) (λ b. b) h), (λ h. absurd h))
  many_items (json.Object' shape members) (step.Member key ∷ place) =
      ((λ h. ⊎_elim (λ a. a) (λ b. b) h), (λ h. absurd h))

  pub top_list_says : (w : Json) (found : Option (List Step)) → Says (Visited P role.Many) w found
      → Says (InItem (Visited P role.One)) w found
  top_list_says w found says keys = finds_same w (Visited P role.Many w) (InItem (Visited P role.One) w) found
      (many_items w) (says keys)

  items_same : (items : List Json) (place : List Step) → InItem (Visited P role.One) (view.List items) place
      ↔ InPart (Visited P role.One) (view.List items) place
  items_same items [] = ((λ h. h), (λ h. h))
  items_same items (step.Item index ∷ place) = ((λ h. h), (λ h. h))
  items_same items (step.Member key ∷ place) = ((λ h. absurd h), (λ h. absurd h))

  list_finds : (items : List Json) (found : Option (List Step))
      → Finds (view.List items) (InItem (Visited P role.One) (view.List items)) found
      → Finds (view.List items) (Visited P role.Many (view.List items)) found
  list_finds items found finds =
      let v : Json = view.List items in
      finds_same v (Within P role.Many v) (Visited P role.Many v) found (many_same v)
      (finds_same v (InPart (Visited P role.One) v) (Within P role.Many v) found
      (parts_same role.Many role.One v refl)
      (finds_same v (InItem (Visited P role.One) v) (InPart (Visited P role.One) v) found (items_same items) finds))

  pub list_says : (v : Json) (items : List Json) (r : Result (Option (List Step)) Memory) → v ≡ view.List items
      → IfOk r (Says (InItem (Visited P role.One)) (view.List items)) → IfOk r (Says (Visited P role.Many) v)
  list_says v items r is says =
      let Q : Json → Type 0 = λ w. IfOk r (Says (Visited P role.Many) w) in
      subst Q (sym is) (if_ok r _ _ (λ found finds keys. list_finds items found (finds keys)) says)

  pub no_list_says : (v : Json) → false ≡ is_list v → Says (Visited P role.Many) v None
  no_list_says v none keys place h = none_within role.Many v
      (ap (λ b. if b then Some role.One else None) (sym none)) place ((many_same v place).1 h)
