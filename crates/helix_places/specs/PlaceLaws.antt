-- The first place that a property names, by the parts of a value.
use Rattle.std.proofs.Common.{◌≡◌, ℕ, ◌<◌, ◌⊎◌, inl, inr, ⊎_elim, ◌↔◌, List, [], ◌∷◌, Option, Some, None, refl, sym, ◌∙◌, ap, subst}
use Rattle.std.specs.Option.{IsSomeAnd}
use Rattle.helix_json.specs.declared.value.Json.{Json}
use Rattle.helix_places.specs.declared.place.Step.{Step}
use Rattle.helix_places.specs.declared.place.Step.TheVariants as step
use Rattle.helix_places.specs.Members.{members_of, value_of}
use Rattle.helix_places.specs.Places.{part, index_of_part, Precedes, IsFirstPlace, Finds, InMember}

-- a property with the same places
pub finds_same : (v : Json) (P Q : List Step → Type 0) (found : Option (List Step))
    → ((place : List Step) → P place ↔ Q place) → Finds v P found → Finds v Q found
finds_same v P Q None same none = λ place q. none place ((same place).1 q)
finds_same v P Q (Some place) same is = record {
  named = (same place).0 is.named;
  first = λ other q. is.first other ((same other).1 q);
}

-- a property of one place at most
pub finds_only : (v : Json) (P : List Step → Type 0) (found : Option (List Step))
    → ((place : List Step) → P place ↔ (found ≡ Some place)) → Finds v P found
finds_only v P None only = λ place p. let none : None ≡ Some place = (only place).0 p in cc
finds_only v P (Some place) only = record {
  named = (only place).1 refl;
  first = λ other p. let same : Some place ≡ Some other = (only other).0 p in
      let is : other ≡ place = cc in inl is;
}

pub some_and : {A : Type 0} (o : Option A) (P : A → Type 0) (x : A) → o ≡ Some x → IsSomeAnd o P → P x
some_and o P x is holds = let Q : Option _ → Type 0 = λ q. IsSomeAnd q P in subst Q is holds

pub and_some : {A : Type 0} (o : Option A) (P : A → Type 0) (x : A) → o ≡ Some x → P x → IsSomeAnd o P
and_some o P x is holds = let Q : Option _ → Type 0 = λ q. IsSomeAnd q P in subst Q (sym is) holds

-- A part with its step: the first place in the part is the first place in the whole, if the steps that a property of
-- the whole names lead to no earlier part.
module _ (v w : Json) (step : Step) (place : List Step) (P Q : List Step → Type 0) (is : part v step ≡ Some w)
    (first : IsFirstPlace w P place)
    (named : P place → Q (step ∷ place))
    (others : (other : List Step) → Q other → (next : Step) × ((rest : List Step) × (other ≡ next ∷ rest)
    × (((next ≡ step) × P rest) ⊎ (index_of_part v step < index_of_part v next))))
  where
    pub first_in_part : IsFirstPlace v Q (step ∷ place)
    first_in_part = record {
      named = named first.named;
      first = λ other q.
          let there = others other q in
          ⊎_elim
          (λ same. ⊎_elim
          (λ equal. inl (there.1.1 ∙ (ap (λ s. s ∷ there.1.0) same.0 ∙ ap (λ p. step ∷ p) equal)))
          (λ precedes. let Before : List Step → Type 0 = λ p. Precedes v (step ∷ place) p in
          inr (subst Before (sym there.1.1)
          (inr (sym same.0, and_some (part v step) (λ u. Precedes u place there.1.0) w is precedes))))
          (first.first there.1.0 same.1))
          (λ less. let Before : List Step → Type 0 = λ p. Precedes v (step ∷ place) p in
          inr (subst Before (sym there.1.1) (inl less)))
          there.1.2;
    }

-- the value itself is before all of its parts
top_first : (v : Json) (other : List Step) → (other ≡ []) ⊎ Precedes v [] other
top_first v [] = inl refl
top_first v (step ∷ place) = inr tt

pub finds_top : (v : Json) (P : List Step → Type 0) → P [] → Finds v P (Some [])
finds_top v P here = record { named = here; first = λ other p. top_first v other }

-- in one member
module _ (v w : Json) (key : List ℕ) (P : Json → List Step → Type 0) (is : value_of key (members_of v) ≡ Some w) where
  pub none_in_member : Finds w (P w) None → Finds v (InMember key P v) None
  none_in_member none [] h = h
  none_in_member none (step.Item index ∷ place) h = h
  none_in_member none (step.Member other ∷ place) h =
      none place (some_and (value_of key (members_of v)) (λ u. P u place) w is h.1)

  others_in_member : (other : List Step) → InMember key P v other
      → (next : Step) × ((rest : List Step) × (other ≡ next ∷ rest) × (((next ≡ step.Member key) × P w rest)
      ⊎ (index_of_part v (step.Member key) < index_of_part v next)))
  others_in_member [] h = absurd h
  others_in_member (step.Item index ∷ place) h = absurd h
  others_in_member (step.Member other ∷ place) h = (
    step.Member other,
    (
      place,
      refl,
      inl (ap step.Member h.0, some_and (value_of key (members_of v)) (λ u. P u place) w is h.1),
    ),
  )

  pub first_in_member : (place : List Step) → IsFirstPlace w (P w) place
      → IsFirstPlace v (InMember key P v) (step.Member key ∷ place)
  first_in_member place first = first_in_part v w (step.Member key) place (P w) (InMember key P v) is first
      (λ p. (refl, and_some (value_of key (members_of v)) (λ u. P u place) w is p)) others_in_member

pub finds_top_at : (v : Json) (P : List Step → Type 0) (new : List Step) → new ≡ [] → P [] → Finds v P (Some new)
finds_top_at v P new is here = let Q : List Step → Type 0 = λ p. Finds v P (Some p) in subst Q (sym is)
    (finds_top v P here)
