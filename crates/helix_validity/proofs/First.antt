-- Of places that lead to parts of a value, where there is one there is a first one in the text.
use Rattle.std.proofs.Common.{◌≡◌, ◌⊎◌, inl, inr, ℕ, zero, suc, ◌<◌, List, [], ◌∷◌, Some, None, slice_get, refl, sym, ◌∙◌, ap, subst, arith, ⊎_elim}
use Rattle.std.proofs.lemmas.Bool.{cases_lt}
use Rattle.std.specs.Option.{IsSomeAnd}
use Rattle.helix_json.specs.declared.value.Json.{Json}
use Rattle.helix_json.specs.declared.value.Json as json
use Rattle.helix_json.specs.declared.value.Member.{Member}
use Rattle.helix_places.specs.KeyLaws.{Leads, leads}
use Rattle.helix_places.specs.Members.{items_of, members_of, value_of}
use Rattle.helix_places.specs.PlaceLaws.{finds_top, first_in_part, some_and}
use Rattle.helix_places.specs.Places.{IsFirstPlace, index_of, index_of_part, part}
use Rattle.helix_places.specs.declared.place.Step.{Step}
use Rattle.helix_places.specs.declared.place.Step.TheVariants as step
use Rattle.helix_references.specs.RefusalLaws.{some_of}
use Rattle.helix_validity.proofs.Parts.{OfParts, by_parts}

-- the place is that of a part
abbrev pub IsPlaceIn : Json → List Step → Type 0
IsPlaceIn v [] = Unit {0}
IsPlaceIn v (s ∷ place) = IsSomeAnd (part v s) (λ w. IsPlaceIn w place)

-- it isn't so that there is none
abbrev pub IsSomewhere : {A : Type 0} → (A → Type 0) → Type 0
IsSomewhere {A} P = ¬ ((x : A) → ¬ (P x))

-- a number with a property, and none below it with the property
abbrev IsLeast : (ℕ → Type 0) → ℕ → Type 0
IsLeast K n = K n × ((k : ℕ) → k < n → ¬ (K k))

module _ (K : ℕ → Type 0) (no_least : (n : ℕ) → ¬ (IsLeast K n)) where
  none_below : (n k : ℕ) → k < n → ¬ (K k)
  none_below zero k below h = absurd (omega arith)
  none_below (suc n) k below h = no_least k (h, λ j less. none_below n j (omega arith))

least : (K : ℕ → Type 0) (n : ℕ) → K n → IsSomewhere (IsLeast K)
least K n h no_least = none_below K no_least (suc n) n (omega arith) h

-- parts with the same index are the same
same_key : (members : List Member) (key other : List ℕ) (x y : Json) → Leads key members x → Leads other members y
    → index_of key members ≡ index_of other members → key ≡ other
same_key members key other x y one two e =
    let index : one.index ≡ two.index = sym one.index_is ∙ (e ∙ two.index_is) in
    let at : slice_get members two.index ≡ Some one.member =
    subst (λ k. slice_get members k ≡ Some one.member) index one.at in
    let both : Some one.member ≡ Some two.member = sym at ∙ two.at in
    let same : one.member ≡ two.member = cc in sym one.key_is ∙ (ap (λ m. m.key) same ∙ two.key_is)

no_item : (A : Type 0) (items : List Json) (i : ℕ) (x : Json) → items ≡ [] → slice_get items i ≡ Some x → A
no_item A items i x none is =
    let both : None ≡ Some x = sym (ap (λ l. slice_get l i) none) ∙ is in absurd (cc)

no_member : (A : Type 0) (members : List Member) (key : List ℕ) (x : Json) → members ≡ []
    → value_of key members ≡ Some x → A
no_member A members key x none is =
    let both : None ≡ Some x = sym (ap (value_of key) none) ∙ is in absurd (cc)

-- nothing has members and items
not_both : (A : Type 0) (v : Json) (key : List ℕ) (i : ℕ) (x y : Json) → value_of key (members_of v) ≡ Some x
    → slice_get (items_of v) i ≡ Some y → A
not_both A json.Null key i x y one two = no_member A [] key x refl one
not_both A (json.Bool b) key i x y one two = no_member A [] key x refl one
not_both A (json.Number text) key i x y one two = no_member A [] key x refl one
not_both A (json.Str text) key i x y one two = no_member A [] key x refl one
not_both A (json.List' shape row) key i x y one two = no_member A [] key x refl one
not_both A (json.Object' shape row) key i x y one two = no_item A [] i y refl two

same_step : (v : Json) (s t : Step) (x y : Json) → part v s ≡ Some x → part v t ≡ Some y
    → index_of_part v s ≡ index_of_part v t → s ≡ t
same_step v (step.Member key) (step.Member other) x y one two e = ap step.Member
    (same_key (members_of v) key other x y (leads key (members_of v) x one) (leads other (members_of v) y two) e)
same_step v (step.Item i) (step.Item j) x y one two e = ap step.Item e
same_step v (step.Member key) (step.Item j) x y one two e = not_both _ v key j x y one two
same_step v (step.Item i) (step.Member key) x y one two e = not_both _ v key i y x two one

module _ (Q : List Step → Type 0) where
  -- the places that a property names, after some steps
  abbrev After : (List Step → List Step) → List Step → Type 0
  After into place = Q (into place)

  abbrev HasFirst : Json → Type 0
  HasFirst v = (into : List Step → List Step) → ((place : List Step) → After into place → IsPlaceIn v place)
      → (place : List Step) → After into place → IsSomewhere (IsFirstPlace v (After into))

  module _ (v : Json) (parts : OfParts HasFirst v) (into : List Step → List Step)
      (leads_on : (place : List Step) → After into place → IsPlaceIn v place)
      (none : (first : List Step) → ¬ (IsFirstPlace v (After into) first))
    where
      not_top : ¬ (After into [])
      not_top here = none [] (finds_top v (After into) here)

      -- a place that begins with a step to the part with an index
      abbrev Begins : ℕ → Type 0
      Begins k = (s : Step) × (rest : List Step) × After into (s ∷ rest) × (index_of_part v s ≡ k)

      module _ (k : ℕ) (before : (j : ℕ) → j < k → ¬ (Begins j)) (s : Step) (w : Json) (is : part v s ≡ Some w)
          (index : index_of_part v s ≡ k)
        where
          others : (other : List Step) → After into other → (next : Step) × ((rest : List Step) × (other ≡ next ∷ rest)
              × (((next ≡ s) × After into (s ∷ rest)) ⊎ (index_of_part v s < index_of_part v next)))
          others [] h = absurd (not_top h)
          others (next ∷ rest) h = (
            next,
            (
              rest,
              refl,
              ⊎_elim (λ less. absurd (before (index_of_part v next) less (next, rest, h, refl)))
                  (λ not_less. ⊎_elim (λ more. inr (omega (arith, more, index)))
                  (λ not_more.
                  let there = some_of (part v next) (λ u. IsPlaceIn u rest) (leads_on (next ∷ rest) h) in
                  let same : next ≡ s = same_step v next s there.0 w there.1 is (omega (arith, index)) in
                  inl (same, subst (λ t. After into (t ∷ rest)) same h)) (cases_lt k (index_of_part v next)))
                  (cases_lt (index_of_part v next) k),
            ),
          )

          under : (rest : List Step) → After into (s ∷ rest) → ⊥
          under rest h = parts s w is (λ place. into (s ∷ place))
              (λ place named. some_and (part v s) (λ u. IsPlaceIn u place) w is (leads_on (s ∷ place) named)) rest h
              (λ first found. none (s ∷ first)
              (first_in_part v w s first (λ place. After into (s ∷ place)) (After into) is found (λ named. named) others))

      at_least : (k : ℕ) → ¬ (IsLeast Begins k)
      at_least k ((s, rest, h, index), before) =
          let there = some_of (part v s) (λ u. IsPlaceIn u rest) (leads_on (s ∷ rest) h) in
          under k before s there.0 there.1 index rest h

      not_there : (place : List Step) → ¬ (After into place)
      not_there [] h = not_top h
      not_there (s ∷ rest) h = least Begins (index_of_part v s) (s, rest, h, refl) at_least

  pub has_first : (v : Json) → HasFirst v
  has_first = by_parts HasFirst (λ v parts into leads_on place named none. not_there v parts into leads_on none place named)
