-- The first place where an operand breaks a rule.
use Rattle.std.proofs.Common.{◌≡◌, ◌↔◌, ◌⊎◌, inl, inr, ⊎_elim, ℕ, ◌+◌, ◌<◌, ◌≤◌, Bool, true, false, IsTrue, List, [], ◌∷◌, length, Option, Some, None, slice_get, get_or, refl, sym, ◌∙◌, ap, subst, arith}
use Rattle.std.specs.Option.{IsSomeAnd}
use Rattle.std.proofs.lemmas.Bool.{cases_lt}
use Rattle.std.proofs.lemmas.Option.{slice_get_read, slice_get_within}
use Rattle.helix_json.specs.declared.value.Json.{Json}
use Rattle.helix_keywords.specs.declared.keyword.Keyword.{Keyword}
use Rattle.helix_keywords.specs.declared.keyword.Keyword.TheVariants as keyword
use Rattle.helix_operands.specs.Inner.Members.{HoldsAt, IsFirstIndex, members_under}
use Rattle.helix_operands.specs.Rules.{BreaksOperand, InMembers, IsFaulty, IsFaultyMember}
use Rattle.helix_operands.specs.declared.rule.OperandRule.{OperandRule}
use Rattle.helix_places.specs.Members.{items_of}
use Rattle.helix_operands.specs.UnbrokenLaws.{member_named}
use Rattle.helix_places.specs.Places.{Finds, Here, Precedes}
use Rattle.helix_places.specs.declared.place.Step.{Step}
use Rattle.helix_places.specs.declared.place.Step.TheVariants as step
use Rattle.helix_values.specs.declared.kind.Kind.{Kind}

some_of : {A : Type 0} (o : Option A) (P : A → Type 0) → IsSomeAnd o P → (x : A) × (o ≡ Some x) × P x
some_of None P h = absurd h
some_of (Some x) P h = (x, refl, h)

-- a place in the members of the list is that of a member
named_member : (k : Keyword) (P : Json → Type 0) (v : Json) (place : List Step) → InMembers k P v place
    → (index : ℕ) × (place ≡ step.Item index ∷ []) × HoldsAt P (members_under k v) index
named_member keyword.InSet P v [] h = absurd h
named_member keyword.InSet P v (step.Member key ∷ place) h = absurd h
named_member keyword.InSet P v (step.Item index ∷ place) h =
    let there : (item : Json) × (slice_get (items_of v) index ≡ Some item) × Here P item place =
    some_of (slice_get (items_of v) index) (λ w. Here P w place) h in
    (index, ap (λ p. step.Item index ∷ p) there.2.0, (there.0, there.1, there.2.1))
named_member other P v place h = absurd h

module _ (rule : OperandRule) (kind : Kind) (k : Keyword) (v : Json) where
  module _ (answer : Bool) (says : IsTrue answer ↔ IsFaulty rule kind k v) (sound : answer ≡ false) where
    not_here : ¬ (IsFaulty rule kind k v)
    not_here faulty = let yes_it_is : answer ≡ true = says.1 faulty in cc

    others : (index : ℕ) → IsFirstIndex (IsFaultyMember rule kind) (members_under k v) (Some index)
        → (other : List Step) → BreaksOperand rule kind k v other
        → (other ≡ step.Item index ∷ []) ⊎ Precedes v (step.Item index ∷ []) other
    others index first other (inl here) = absurd (not_here here.1)
    others index first other (inr deep) =
        let there : (i : ℕ) × (other ≡ step.Item i ∷ []) × HoldsAt (IsFaultyMember rule kind) (members_under k v) i =
        named_member k (IsFaultyMember rule kind) v other deep in
        ⊎_elim (λ before. absurd (first.1 there.0 before there.2))
        (λ not_before. ⊎_elim
        (λ after. inr (let P : List Step → Type 0 = λ p. Precedes v (step.Item index ∷ []) p in
        subst P (sym there.1) (inl after)))
        (λ not_after. let same : there.0 ≡ index = omega arith in inl (there.1 ∙ ap (λ i. step.Item i ∷ []) same))
        (cases_lt index there.0)) (cases_lt there.0 index)

    pub finds_member : (index : ℕ) → IsFirstIndex (IsFaultyMember rule kind) (members_under k v) (Some index)
        → (place : List Step) → place ≡ step.Item index ∷ [] → Finds v (BreaksOperand rule kind k v) (Some place)
    finds_member index first place is =
        let Q : List Step → Type 0 = λ p. Finds v (BreaksOperand rule kind k v) (Some p) in
        subst Q (sym is) (record {
          named = inr (member_named k (IsFaultyMember rule kind) v index first.0);
          first = others index first;
        })

    pub finds_none : IsFirstIndex (IsFaultyMember rule kind) (members_under k v) None
        → Finds v (BreaksOperand rule kind k v) None
    finds_none none place (inl here) = not_here here.1
    finds_none none place (inr deep) =
        let there : (i : ℕ) × (place ≡ step.Item i ∷ []) × HoldsAt (IsFaultyMember rule kind) (members_under k v) i =
        named_member k (IsFaultyMember rule kind) v place deep in none there.0 there.2

-- the items of a list, one after the other
abbrev pub NoneHolds : (Json → Type 0) → List Json → ℕ → Type 0
NoneHolds P items i = (k : ℕ) → k < i → ¬ (HoldsAt P items k)

module _ (P : Json → Type 0) (items : List Json) (i : ℕ) where
  pub no_more : length items ≤ i → NoneHolds P items i → IsFirstIndex P items None
  no_more all none k holds = none k (omega (arith, slice_get_within items k holds.0 holds.1)) holds

  module _ (item : Json) (within : i < length items) (read : item ≡ get_or items i item) (answer : Bool)
      (says : IsTrue answer ↔ P item) (none : NoneHolds P items i)
    where
      at : slice_get items i ≡ Some item
      at = slice_get_read items (length items) i item refl within read

      pub next_sound : answer ≡ false → NoneHolds P items (i + 1)
      next_sound is k less holds = ⊎_elim (λ before. none k before holds)
          (λ not_before. let same : k ≡ i = omega arith in
          let here : slice_get items i ≡ Some holds.0 = subst (λ n. slice_get items n ≡ Some holds.0) same holds.1 in
          let equal : holds.0 ≡ item = let both : Some holds.0 ≡ Some item = sym here ∙ at in cc in
          let yes_it_is : answer ≡ true = says.1 (subst P equal holds.2) in
          let f : false ≡ true = sym is ∙ yes_it_is in cc) (cases_lt k i)
