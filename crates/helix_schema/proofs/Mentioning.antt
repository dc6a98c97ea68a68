-- The mentions that are listed are those that the constraints name.
use Rattle.std.proofs.Common.{◌≡◌, inl, inr, ⊎_elim, List, [], ◌∷◌, ◌++◌, Some, codes, refl, sym, ◌∙◌, ap, subst}
use Rattle.std.specs.Option.{IsSomeAnd}
use Rattle.helix_constraints.specs.Visited.{InConstraint, Itself, Visited, role_of_parts}
use Rattle.helix_constraints.specs.declared.role.Role.{Role}
use Rattle.helix_constraints.specs.declared.role.Role.TheVariants as role
use Rattle.helix_json.specs.Values.{HasNoRepeatedKey}
use Rattle.helix_json.specs.declared.value.Json.{Json}
use Rattle.helix_places.specs.Members.{members_of, value_of}
use Rattle.helix_places.specs.PlaceLaws.{some_and}
use Rattle.helix_places.specs.Places.{InItem, part}
use Rattle.helix_places.specs.declared.place.Step.{Step}
use Rattle.helix_places.specs.declared.place.Step.TheVariants as step
use Rattle.helix_profile.specs.declared.field.Field.{Field}
use Rattle.helix_references.specs.RefusalLaws.{some_of}
use Rattle.helix_traversal.specs.Traversal.{Visit, all_constraints, at_key, collected}
use Rattle.helix_traversal.specs.NamedLaws.{named_in_all}
use Rattle.helix_traversal.specs.RoleLaws.{IsOne, one_after, one_before, one_of_two}
use Rattle.helix_traversal.specs.VisitLaws.{in_all}
use Rattle.helix_validity.specs.Mentions.{Mentions, NamesSetFile}
use Rattle.helix_values.specs.declared.kind.Kind.{Kind}
use Rattle.helix_schema.specs.Mentions.{mentions_of, own_mentions}
use Rattle.helix_schema.specs.declared.mention.Mention.{Mention}
use Rattle.helix_schema.proofs.Naming.{naming, named, own_mention, own_naming}

module _ (fields : List Field) where
  -- one of what is collected
  one_collected : (visits : List Visit) (m : Mention) → IsOne (collected (own_mentions fields) visits) m
      → (one : Visit) × IsOne visits one × IsOne (own_mentions fields one.place one.value) m
  one_collected [] m is = absurd is
  one_collected (first ∷ visits) m is = ⊎_elim
      (λ here. (first, inl refl, here))
      (λ later. let at = one_collected visits m later in (at.0, inr at.1, at.2))
      (one_of_two (own_mentions fields first.place first.value) (collected (own_mentions fields) visits) m is)

  collected_one : (visits : List Visit) (one : Visit) (m : Mention) → IsOne visits one
      → IsOne (own_mentions fields one.place one.value) m → IsOne (collected (own_mentions fields) visits) m
  collected_one [] one m at is = absurd at
  collected_one (first ∷ visits) one m (inl same) is =
      one_before (own_mentions fields first.place first.value) (collected (own_mentions fields) visits) m
      (subst (λ x. IsOne (own_mentions fields x.place x.value) m) (sym same) is)
  collected_one (first ∷ visits) one m (inr at) is =
      one_after (own_mentions fields first.place first.value) (collected (own_mentions fields) visits) m
      (collected_one visits one m at is)

  -- each mention of the list is one of the profile,
  pub mention_named : (v : Json) (m : Mention) → HasNoRepeatedKey v → IsOne (mentions_of fields v) m
      → Mentions fields m.kind v m.place
  mention_named v m keys is =
      let at = one_collected (all_constraints v) m is in
      let own = own_naming fields at.0.place at.0.value m at.2 in
      subst (Mentions fields m.kind v) (sym own.1)
      (in_all (NamesSetFile fields m.kind) v at.0 (step.Member (codes "inSet") ∷ []) keys at.1
      (named fields m.kind at.0.value (step.Member (codes "inSet") ∷ []) own.0))

  -- each mention of the profile is in the list,
  pub named_mention : (kind : Kind) (v : Json) (place : List Step) → Mentions fields kind v place
      → (m : Mention) × IsOne (mentions_of fields v) m × (m.place ≡ place)
  named_mention kind v place h =
      let at = named_in_all (NamesSetFile fields kind) v place h in
      let is = naming fields kind at.one.value at.rest at.named in (
        record { name = is.name; kind = kind; place = at_key at.one.place (codes "inSet") },
        collected_one (all_constraints v) at.one
            (record { name = is.name; kind = kind; place = at_key at.one.place (codes "inSet") }) at.visited
            (own_mention fields kind at.one.value at.one.place at.rest is),
        sym (at.is ∙ ap (λ p. at.one.place ++ p) is.is),
      )

  -- and at a place there is one of one kind
  module _ (kind other : Kind) where
    abbrev One : Json → List Step → Type 0
    One = NamesSetFile fields kind

    abbrev Two : Json → List Step → Type 0
    Two = NamesSetFile fields other

    same_kind : (v : Json) (place : List Step) → One v place → Two v place → kind ≡ other
    same_kind v place one two =
        let first = naming fields kind v place one in let second = naming fields other v place two in
        let same : Some kind ≡ Some other = sym first.kind_is ∙ second.kind_is in cc

    no_more : (kind : Kind) (v : Json) (to : Step) (next : Step) (place : List Step)
        → NamesSetFile fields kind v (to ∷ next ∷ place) → ⊥
    no_more kind v to next place h =
        let is = naming fields kind v (to ∷ next ∷ place) h in absurd (cc)

    not_here : (kind : Kind) (v : Json) → NamesSetFile fields kind v [] → ⊥
    not_here kind v h = let is = naming fields kind v [] h in absurd (cc)

    no_end : (kind : Kind) (which : Role) (v : Json) → Visited (NamesSetFile fields kind) which v [] → ⊥
    no_end kind role.One v h = not_here kind v h
    no_end kind role.Many v h = h

    own_end : (kind : Kind) (which : Role) (v : Json) (to : Step) (place : List Step)
        → Itself (NamesSetFile fields kind) which v (to ∷ place) → place ≡ []
    own_end kind role.One v to [] h = refl
    own_end kind role.One v to (next ∷ place) h = absurd (no_more kind v to next place h)
    own_end kind role.Many v to place h = absurd h

    end_of : (kind : Kind) (which : Role) (v : Json) (to : Step) (place : List Step) → place ≡ []
        → IsSomeAnd (role_of_parts which v) (λ r. IsSomeAnd (part v to) (λ w. Visited (NamesSetFile fields kind) r w place))
        → ⊥
    end_of kind which v to place end deep =
        let r = some_of (role_of_parts which v)
        (λ r. IsSomeAnd (part v to) (λ w. Visited (NamesSetFile fields kind) r w place)) deep in
        let w = some_of (part v to) (λ w. Visited (NamesSetFile fields kind) r.0 w place) r.2 in
        no_end kind r.0 w.0 (subst (λ p. Visited (NamesSetFile fields kind) r.0 w.0 p) end w.2)

    own_kinds : (which : Role) (v : Json) (place : List Step) → Itself One which v place → Itself Two which v place
        → kind ≡ other
    own_kinds role.One v place one two = same_kind v place one two
    own_kinds role.Many v place one two = absurd one

    pub one_kind : (place : List Step) (which : Role) (v : Json) → Visited One which v place → Visited Two which v place
        → kind ≡ other
    one_kind [] which v one two = absurd (no_end kind which v one)
    one_kind (to ∷ place) which v (inl one) (inl two) = own_kinds which v (to ∷ place) one two
    one_kind (to ∷ place) which v (inl one) (inr two) =
        absurd (end_of other which v to place (own_end kind which v to place one) two)
    one_kind (to ∷ place) which v (inr one) (inl two) =
        absurd (end_of kind which v to place (own_end other which v to place two) one)
    one_kind (to ∷ place) which v (inr one) (inr two) =
        let r = some_of (role_of_parts which v) (λ r. IsSomeAnd (part v to) (λ w. Visited One r w place)) one in
        let w = some_of (part v to) (λ w. Visited One r.0 w place) r.2 in
        one_kind place r.0 w.0 w.2 (some_and (part v to) (λ w. Visited Two r.0 w place) w.0 w.1
        (some_and (role_of_parts which v) (λ r. IsSomeAnd (part v to) (λ w. Visited Two r w place)) r.0 r.1 two))

    item_kind : (place : List Step) (w : Json) → InItem (InConstraint One) w place → InItem (InConstraint Two) w place
        → kind ≡ other
    item_kind [] w one two = absurd one
    item_kind (step.Member key ∷ place) w one two = absurd one
    item_kind (step.Item i ∷ place) w one two =
        let at = some_of (part w (step.Item i)) (λ u. InConstraint One u place) one in
        one_kind place role.One at.0 at.2 (some_and (part w (step.Item i)) (λ u. InConstraint Two u place) at.0 at.1 two)

    pub kind_at : (v : Json) (place : List Step) → Mentions fields kind v place → Mentions fields other v place
        → kind ≡ other
    kind_at v [] one two = absurd one
    kind_at v (step.Item i ∷ place) one two = absurd one
    kind_at v (step.Member key ∷ place) one two =
        let at = some_of (value_of (codes "constraints") (members_of v)) (λ w. InItem (InConstraint One) w place) one.1 in
        item_kind place at.0 at.2 (some_and (value_of (codes "constraints") (members_of v))
        (λ w. InItem (InConstraint Two) w place) at.0 at.1 two.1)
