-- The first place that is that of a member, where members are searched in their order.
use Rattle.std.proofs.Common.{◌≡◌, ℕ, ◌<◌, ◌≤◌, ◌⊎◌, inl, inr, List, [], ◌∷◌, length, Option, Some, None, slice_get, get_or, refl, sym, ◌∙◌, ap, subst, arith}
use Rattle.std.specs.Option.{IsSomeAnd}
use Rattle.std.proofs.lemmas.Bool.{cases_lt}
use Rattle.std.proofs.lemmas.Option.{slice_get_read}
use Rattle.helix_json.specs.declared.value.Json.{Json}
use Rattle.helix_json.specs.declared.value.Json.TheViews as view
use Rattle.helix_json.specs.declared.value.Member.{Member}
use Rattle.helix_json.specs.Values.{HaveDifferentKeys, HasNoRepeatedKey}
use Rattle.helix_json.specs.ValueLaws.{keys_of_members}
use Rattle.helix_places.specs.declared.place.Step.{Step}
use Rattle.helix_places.specs.declared.place.Step.TheVariants as step
use Rattle.helix_places.specs.Members.{members_of, value_of}
use Rattle.helix_places.specs.Places.{part, index_of, index_of_part, IsFirstPlace, Finds}
use Rattle.helix_places.specs.PlaceLaws.{and_some, first_in_part}
use Rattle.helix_places.specs.KeyLaws.{Leads, leads, value_at, index_at, NoneBefore, none_at_all}
use Rattle.helix_places.specs.ViewLaws.{members_of_object}
use Rattle.helix_references.specs.AtMember.{AtMember}

-- a member is as `Faulty` says
abbrev pub HasFault : (List ℕ → Json → Type 0) → Member → Type 0
HasFault Faulty m = Faulty m.key m.value

some_of : {A : Type 0} (o : Option A) (P : A → Type 0) → IsSomeAnd o P → (x : A) × (o ≡ Some x) × P x
some_of None P h = absurd h
some_of (Some x) P h = (x, refl, h)

module _ (Faulty : List ℕ → Json → Type 0) (members : List Member) where
  -- the member to which a place leads
  there : (key : List ℕ) → IsSomeAnd (value_of key (members_of (view.Object members))) (Faulty key)
      → (w : Json) × Leads key members w × Faulty key w
  there key h =
      let some = some_of (value_of key (members_of (view.Object members))) (Faulty key) h in
      (some.0, leads key members some.0 (ap (value_of key) (sym (members_of_object members)) ∙ some.1), some.2)

  named_there : (key : List ℕ) (w : Json) (found : Leads key members w) → Faulty key w → HasFault Faulty found.member
  named_there key w found faulty = let P : List ℕ → Type 0 = λ k. Faulty k found.member.value in
      subst P (sym found.key_is) (subst (Faulty key) (sym found.value_is) faulty)

  none_faulty : ((k : ℕ) (m : Member) → slice_get members k ≡ Some m → ¬ (HasFault Faulty m))
      → Finds (view.Object members) (AtMember Faulty (view.Object members)) None
  none_faulty none [] h = h
  none_faulty none (step.Item index ∷ place) h = h
  none_faulty none (step.Member key ∷ place) h = let at = there key h.1 in
      none at.1.index at.1.member at.1.at (named_there key at.0 at.1 at.2)

  module _ (i : ℕ) (m : Member) (at : slice_get members i ≡ Some m) (different : HaveDifferentKeys members)
      (none : NoneBefore (HasFault Faulty) members i)
    where
      part_is : part (view.Object members) (step.Member m.key) ≡ Some m.value
      part_is = ap (value_of m.key) (members_of_object members) ∙ value_at members i m different at

      index_is : index_of_part (view.Object members) (step.Member m.key) ≡ i
      index_is = ap (index_of m.key) (members_of_object members) ∙ index_at members i m different at

      Itself : List Step → Type 0
      Itself place = (place ≡ []) × Faulty m.key m.value

      others : (other : List Step) → AtMember Faulty (view.Object members) other
          → (next : Step) × ((rest : List Step) × (other ≡ next ∷ rest)
          × (((next ≡ step.Member m.key) × ((rest ≡ []) × Faulty m.key m.value))
          ⊎ (index_of_part (view.Object members) (step.Member m.key) < index_of_part (view.Object members) next)))
      others [] h = absurd h
      others (step.Item index ∷ rest) h = absurd h
      others (step.Member key ∷ rest) h =
          let found = there key h.1 in
          let names : HasFault Faulty found.1.member = named_there key found.0 found.1 found.2 in
          let its : index_of_part (view.Object members) (step.Member key) ≡ found.1.index =
          ap (index_of key) (members_of_object members) ∙ found.1.index_is in (
            step.Member key,
            (
              rest,
              refl,
              elim (cases_lt found.1.index i) [
                | inl before ↦ absurd (none found.1.index before found.1.member found.1.at names)
                | inr not_before ↦ elim (cases_lt i found.1.index) [
                  | inl after ↦ inr (omega (arith, its, index_is))
                  | inr not_after ↦
                      let same : found.1.index ≡ i = omega arith in
                      let here : slice_get members i ≡ Some found.1.member =
                      subst (λ k. slice_get members k ≡ Some found.1.member) same found.1.at in
                      let equal : found.1.member ≡ m = let both : Some found.1.member ≡ Some m = sym here ∙ at in cc in
                      inl (
                        ap step.Member (sym found.1.key_is ∙ ap (λ n. n.key) equal),
                        (h.0, subst (HasFault Faulty) equal names),
                      )
                ]
              ],
            ),
          )

      first_faulty : Faulty m.key m.value → IsFirstPlace (view.Object members)
          (AtMember Faulty (view.Object members)) (step.Member m.key ∷ [])
      first_faulty faulty = first_in_part (view.Object members) m.value (step.Member m.key) []
          (λ p. (p ≡ []) × Faulty m.key m.value)
          (AtMember Faulty (view.Object members)) part_is
          (record { named = (refl, faulty); first = λ other p. inl p.0 })
          (λ p. (
            refl,
            and_some (value_of m.key (members_of (view.Object members))) (Faulty m.key) m.value part_is
                faulty,
          )) others

-- what a search over the members says
abbrev pub SaysAt : (List ℕ → Json → Type 0) → List Member → Option (List Step) → Type 0
SaysAt Faulty members found = HasNoRepeatedKey (view.Object members)
    → Finds (view.Object members) (AtMember Faulty (view.Object members)) found

module _ (Faulty : List ℕ → Json → Type 0) (members : List Member) (i : ℕ) where
  pub no_more_faulty : length members ≤ i → NoneBefore (HasFault Faulty) members i → SaysAt Faulty members None
  no_more_faulty all none keys = none_faulty Faulty members
      (λ k m is. none_at_all (HasFault Faulty) members i k m all none is)

  pub found_faulty : (m : Member) → i < length members → m ≡ get_or members i m
      → NoneBefore (HasFault Faulty) members i → Faulty m.key m.value → (key : List ℕ) (new : List Step) → key ≡ m.key
      → new ≡ step.Member key ∷ [] → SaysAt Faulty members (Some new)
  found_faulty m within read none faulty key new key_is new_is keys =
      let R : List Step → Type 0 =
      λ s. IsFirstPlace (view.Object members) (AtMember Faulty (view.Object members)) s in
      subst R (sym (new_is ∙ ap (λ k. step.Member k ∷ []) key_is))
      (first_faulty Faulty members i m (slice_get_read members (length members) i m refl within read)
      ((keys_of_members members).0 keys).0 none faulty)
