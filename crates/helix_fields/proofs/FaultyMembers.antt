-- The first member that an object may not have.
use Rattle.std.proofs.Common.{◌≡◌, ℕ, ◌+◌, ◌<◌, ◌≤◌, ◌⊎◌, inl, inr, Bool, true, false, List, [], ◌∷◌, length, Option, Some, None, slice_get, get_or, refl, sym, ◌∙◌, ap, subst, arith}
use Rattle.std.specs.Option.{IsSomeAnd}
use Rattle.std.proofs.lemmas.Bool.{cases_lt}
use Rattle.std.proofs.lemmas.Option.{slice_get_read}
use Rattle.helix_json.specs.declared.value.Json.{Json}
use Rattle.helix_json.specs.declared.value.Json.TheViews as view
use Rattle.helix_json.specs.declared.value.Member.{Member}
use Rattle.helix_json.specs.Values.{HaveDifferentKeys}
use Rattle.helix_json.specs.ValueLaws.{keys_of_members}
use Rattle.helix_places.specs.declared.place.Step.{Step}
use Rattle.helix_places.specs.declared.place.Step.TheVariants as step
use Rattle.helix_places.specs.Members.{members_of, value_of}
use Rattle.helix_places.specs.Places.{part, index_of, index_of_part, IsFirstPlace, Finds, Here}
use Rattle.helix_places.specs.PlaceLaws.{and_some, finds_top, first_in_part}
use Rattle.helix_places.specs.KeyLaws.{Leads, leads, value_at, index_at, NoneBefore, none_at_all, none_more}
use Rattle.helix_places.specs.PartLaws.{Says}
use Rattle.helix_places.specs.ViewLaws.{members_of_object}
use Rattle.helix_fields.specs.FaultyMember.{IsFaultyMember}
use Rattle.helix_fields.specs.SearchLaws.{none_is}
use Rattle.helix_fields.specs.RefusalLaws.{not_both}

-- no object has a member
pub no_members : (v : Json) (allowed : List ℕ → Json → Bool) → members_of v ≡ []
    → Says (IsFaultyMember allowed) v None
no_members v allowed none keys [] h = h
no_members v allowed none keys (step.Item index ∷ place) h = h
no_members v allowed none keys (step.Member key ∷ place) h =
    none_is (value_of key (members_of v)) (λ w. allowed key w ≡ false) (ap (value_of key) none) h.1

abbrev pub IsFault : (List ℕ → Json → Bool) → Member → Type 0
IsFault allowed member = allowed member.key member.value ≡ false

abbrev IsFaultValue : (List ℕ → Json → Bool) → List ℕ → Json → Type 0
IsFaultValue allowed key w = allowed key w ≡ false

module _ (allowed : List ℕ → Json → Bool) (members : List Member) where
  -- a member that may not be, by its index
  fault_at : (key : List ℕ) (o : Option Json) → value_of key (members_of (view.Object members)) ≡ o
      → IsSomeAnd o (λ w. allowed key w ≡ false)
      → (index : ℕ) × ((member : Member) × (slice_get members index ≡ Some member) × (member.key ≡ key)
      × IsFault allowed member × (index_of_part (view.Object members) (step.Member key) ≡ index))
  fault_at key None is fault = absurd fault
  fault_at key (Some w) is fault =
      let found : Leads key members w = leads key members w (ap (value_of key) (sym (members_of_object members)) ∙ is)
      in (
        found.index,
        (
          found.member,
          found.at,
          found.key_is,
          ap (λ k. allowed k found.member.value) found.key_is ∙ (ap (allowed key) found.value_is ∙ fault),
          ap (index_of key) (members_of_object members) ∙ found.index_is,
        ),
      )

  none_faulty : ((k : ℕ) (m : Member) → slice_get members k ≡ Some m → ¬ (IsFault allowed m))
      → Finds (view.Object members) (IsFaultyMember allowed (view.Object members)) None
  none_faulty none [] h = h
  none_faulty none (step.Item index ∷ place) h = h
  none_faulty none (step.Member key ∷ place) h =
      let there = fault_at key (value_of key (members_of (view.Object members))) refl h.1 in
      none there.0 there.1.0 there.1.1 there.1.3

  module _ (i : ℕ) (m : Member) (at : slice_get members i ≡ Some m) (different : HaveDifferentKeys members)
      (none : NoneBefore (IsFault allowed) members i) (fault : IsFault allowed m)
    where
      part_is : part (view.Object members) (step.Member m.key) ≡ Some m.value
      part_is = ap (value_of m.key) (members_of_object members) ∙ value_at members i m different at

      index_is : index_of_part (view.Object members) (step.Member m.key) ≡ i
      index_is = ap (index_of m.key) (members_of_object members) ∙ index_at members i m different at

      others : (other : List Step) → IsFaultyMember allowed (view.Object members) other
          → (next : Step) × ((rest : List Step) × (other ≡ next ∷ rest)
          × (((next ≡ step.Member m.key) × Here (IsFaultValue allowed m.key) m.value rest)
          ⊎ (index_of_part (view.Object members) (step.Member m.key) < index_of_part (view.Object members) next)))
      others [] h = absurd h
      others (step.Item index ∷ rest) h = absurd h
      others (step.Member key ∷ rest) h =
          let there = fault_at key (value_of key (members_of (view.Object members))) refl h.1 in (
            step.Member key,
            (
              rest,
              refl,
              elim (cases_lt there.0 i) [
                | inl before ↦ absurd (none there.0 before there.1.0 there.1.1 there.1.3)
                | inr not_before ↦ elim (cases_lt i there.0) [
                  | inl after ↦ inr (omega (arith, there.1.4, index_is))
                  | inr not_after ↦
                      let same : there.0 ≡ i = omega arith in
                      let here : slice_get members i ≡ Some there.1.0 =
                      subst (λ k. slice_get members k ≡ Some there.1.0) same there.1.1 in
                      let equal : there.1.0 ≡ m = let both : Some there.1.0 ≡ Some m = sym here ∙ at in cc in
                      inl (ap step.Member (sym there.1.2 ∙ ap (λ n. n.key) equal), (h.0, fault))
                ]
              ],
            ),
          )

      first_faulty : IsFirstPlace (view.Object members) (IsFaultyMember allowed (view.Object members))
          (step.Member m.key ∷ [])
      first_faulty = first_in_part (view.Object members) m.value (step.Member m.key) []
          (Here (IsFaultValue allowed m.key) m.value) (IsFaultyMember allowed (view.Object members)) part_is
          (finds_top m.value (Here (IsFaultValue allowed m.key) m.value) (refl, fault))
          (λ p. (
            refl,
            and_some (value_of m.key (members_of (view.Object members))) (λ w. allowed m.key w ≡ false)
                m.value part_is fault,
          )) others

-- the members, one after the other
module _ (allowed : List ℕ → Json → Bool) (members : List Member) (i : ℕ) where
  pub no_more_faults : length members ≤ i → NoneBefore (IsFault allowed) members i
      → Says (IsFaultyMember allowed) (view.Object members) None
  no_more_faults all none keys = none_faulty allowed members
      (λ k m is. none_at_all (IsFault allowed) members i k m all none is)

  module _ (m : Member) (within : i < length members) (read : m ≡ get_or members i m)
      (none : NoneBefore (IsFault allowed) members i)
    where
      pub next_fault : allowed m.key m.value ≡ true → NoneBefore (IsFault allowed) members (i + 1)
      next_fault is_allowed = none_more (IsFault allowed) members i m within read none
          (λ fault. not_both (allowed m.key m.value) is_allowed fault)

      pub found_fault : allowed m.key m.value ≡ false → (key : List ℕ) (new : List Step) → key ≡ m.key
          → new ≡ step.Member key ∷ [] → Says (IsFaultyMember allowed) (view.Object members) (Some new)
      found_fault fault key new key_is new_is keys =
          let R : List Step → Type 0 = λ s. IsFirstPlace (view.Object members)
          (IsFaultyMember allowed (view.Object members)) s in
          subst R (sym (new_is ∙ ap (λ k. step.Member k ∷ []) key_is))
          (first_faulty allowed members i m (slice_get_read members (length members) i m refl within read)
          ((keys_of_members members).0 keys).0 none fault)
