-- The first place in the members of an object or the items of a list, which are searched in their order.
use Rattle.std.proofs.Common.{◌≡◌, ℕ, ◌+◌, ◌<◌, ◌≤◌, ◌⊎◌, inl, inr, List, [], ◌∷◌, length, Option, Some, None, slice_get, get_or, refl, sym, ◌∙◌, ap, subst, arith}
use Rattle.std.specs.Option.{IsSomeAnd}
use Rattle.std.proofs.lemmas.Bool.{cases_lt}
use Rattle.std.proofs.lemmas.Option.{slice_get_read}
use Rattle.helix_json.specs.declared.value.Json.{Json}
use Rattle.helix_json.specs.declared.value.Json.TheViews as view
use Rattle.helix_json.specs.declared.value.Member.{Member}
use Rattle.helix_json.specs.Values.{HaveDifferentKeys, HasNoRepeatedKey}
use Rattle.helix_json.specs.ValueLaws.{keys_of_items, keys_of_members}
use Rattle.helix_places.specs.declared.place.Step.{Step}
use Rattle.helix_places.specs.declared.place.Step.TheVariants as step
use Rattle.helix_places.specs.Members.{members_of, items_of, value_of}
use Rattle.helix_places.specs.Places.{part, index_of, index_of_part, IsFirstPlace, Finds, InItem, InPart}
use Rattle.helix_places.specs.PlaceLaws.{and_some, first_in_part}
use Rattle.helix_places.specs.KeyLaws.{Leads, leads, value_at, index_at, all_at, NoneBefore, none_at_all, none_more}
use Rattle.helix_places.specs.ViewLaws.{members_of_object, items_of_list}

-- a place is named in a value
abbrev pub Named : (Json → List Step → Type 0) → Json → Type 0
Named P v = (place : List Step) × P v place

pub item_keys : (items : List Json) (i : ℕ) (item : Json) → HasNoRepeatedKey (view.List items) → i < length items
    → item ≡ get_or items i item → HasNoRepeatedKey item
item_keys items i item keys within read = all_at HasNoRepeatedKey items i item ((keys_of_items items).0 keys)
    (slice_get_read items (length items) i item refl within read)

pub member_keys : (members : List Member) (i : ℕ) (m : Member) → HasNoRepeatedKey (view.Object members)
    → i < length members → m ≡ get_or members i m → HasNoRepeatedKey m.value
member_keys members i m keys within read = all_at (λ n. HasNoRepeatedKey n.value) members i m
    ((keys_of_members members).0 keys).1 (slice_get_read members (length members) i m refl within read)

some_of : {A : Type 0} (o : Option A) (P : A → Type 0) → IsSomeAnd o P → (x : A) × (o ≡ Some x) × P x
some_of None P h = absurd h
some_of (Some x) P h = (x, refl, h)

module _ (P : Json → List Step → Type 0) (members : List Member) where
  v : Json
  v = view.Object members

  pub none_in_members : ((k : ℕ) (m : Member) → slice_get members k ≡ Some m → ¬ (Named P m.value))
      → Finds (view.Object members) (InPart P (view.Object members)) None
  none_in_members none [] h = h
  none_in_members none (step.Item index ∷ place) h = h
  none_in_members none (step.Member key ∷ place) h =
      let there : (w : Json) × (value_of key (members_of (view.Object members)) ≡ Some w) × P w place =
      some_of (value_of key (members_of (view.Object members))) (λ w. P w place) h in
      let found : Leads key members there.0 =
      leads key members there.0 (ap (value_of key) (sym (members_of_object members)) ∙ there.1) in
      none found.index found.member found.at (place, subst (λ w. P w place) (sym found.value_is) there.2)

  module _ (i : ℕ) (m : Member) (at : slice_get members i ≡ Some m) (different : HaveDifferentKeys members)
      (none : NoneBefore (λ n. Named P n.value) members i) (place : List Step)
    where
      part_is : part (view.Object members) (step.Member m.key) ≡ Some m.value
      part_is = ap (value_of m.key) (members_of_object members) ∙ value_at members i m different at

      index_is : index_of_part (view.Object members) (step.Member m.key) ≡ i
      index_is = ap (index_of m.key) (members_of_object members) ∙ index_at members i m different at

      others : (other : List Step) → InPart P (view.Object members) other
          → (next : Step) × ((rest : List Step) × (other ≡ next ∷ rest)
          × (((next ≡ step.Member m.key) × P m.value rest)
          ⊎ (index_of_part (view.Object members) (step.Member m.key) < index_of_part (view.Object members) next)))
      others [] h = absurd h
      others (step.Item index ∷ rest) h = absurd h
      others (step.Member key ∷ rest) h =
          let there : (w : Json) × (value_of key (members_of (view.Object members)) ≡ Some w) × P w rest =
          some_of (value_of key (members_of (view.Object members))) (λ w. P w rest) h in
          let found : Leads key members there.0 =
          leads key members there.0 (ap (value_of key) (sym (members_of_object members)) ∙ there.1) in
          let names : P found.member.value rest = subst (λ w. P w rest) (sym found.value_is) there.2 in
          let its : index_of_part (view.Object members) (step.Member key) ≡ found.index =
          ap (index_of key) (members_of_object members) ∙ found.index_is in (
            step.Member key,
            (
              rest,
              refl,
              elim (cases_lt found.index i) [
                | inl before ↦ absurd (none found.index before found.member found.at (rest, names))
                | inr not_before ↦ elim (cases_lt i found.index) [
                  | inl after ↦ inr (omega (arith, its, index_is))
                  | inr not_after ↦
                      let same : found.index ≡ i = omega arith in
                      let here : slice_get members i ≡ Some found.member =
                      subst (λ k. slice_get members k ≡ Some found.member) same found.at in
                      let equal : found.member ≡ m = let both : Some found.member ≡ Some m = sym here ∙ at in cc in
                      inl (
                        ap step.Member (sym found.key_is ∙ ap (λ n. n.key) equal),
                        subst (λ n. P n.value rest) equal names,
                      )
                ]
              ],
            ),
          )

      pub first_in_members : IsFirstPlace m.value (P m.value) place
          → IsFirstPlace (view.Object members) (InPart P (view.Object members)) (step.Member m.key ∷ place)
      first_in_members first = first_in_part (view.Object members) m.value (step.Member m.key) place (P m.value)
          (InPart P (view.Object members)) part_is first
          (λ p. and_some (part (view.Object members) (step.Member m.key)) (λ w. P w place) m.value part_is p) others

module _ (P : Json → List Step → Type 0) (items : List Json) where
  pub none_in_items : ((k : ℕ) (item : Json) → slice_get items k ≡ Some item → ¬ (Named P item))
      → Finds (view.List items) (InItem P (view.List items)) None
  none_in_items none [] h = h
  none_in_items none (step.Member key ∷ place) h = h
  none_in_items none (step.Item index ∷ place) h =
      let there : (w : Json) × (slice_get (items_of (view.List items)) index ≡ Some w) × P w place =
      some_of (slice_get (items_of (view.List items)) index) (λ w. P w place) h in
      none index there.0 (ap (λ l. slice_get l index) (sym (items_of_list items)) ∙ there.1) (place, there.2)

  module _ (i : ℕ) (item : Json) (at : slice_get items i ≡ Some item) (none : NoneBefore (Named P) items i)
      (place : List Step)
    where
      item_is : part (view.List items) (step.Item i) ≡ Some item
      item_is = ap (λ l. slice_get l i) (items_of_list items) ∙ at

      other_items : (other : List Step) → InItem P (view.List items) other
          → (next : Step) × ((rest : List Step) × (other ≡ next ∷ rest) × (((next ≡ step.Item i) × P item rest)
          ⊎ (index_of_part (view.List items) (step.Item i) < index_of_part (view.List items) next)))
      other_items [] h = absurd h
      other_items (step.Member key ∷ rest) h = absurd h
      other_items (step.Item index ∷ rest) h =
          let there : (w : Json) × (slice_get (items_of (view.List items)) index ≡ Some w) × P w rest =
          some_of (slice_get (items_of (view.List items)) index) (λ w. P w rest) h in
          let found : slice_get items index ≡ Some there.0 =
          ap (λ l. slice_get l index) (sym (items_of_list items)) ∙ there.1 in (
            step.Item index,
            (
              rest,
              refl,
              elim (cases_lt index i) [
                | inl before ↦ absurd (none index before there.0 found (rest, there.2))
                | inr not_before ↦ elim (cases_lt i index) [
                  | inl after ↦ inr after
                  | inr not_after ↦
                      let same : index ≡ i = omega arith in
                      let here : slice_get items i ≡ Some there.0 = subst (λ k. slice_get items k
                      ≡ Some there.0) same found in
                      let equal : there.0 ≡ item = let both : Some there.0 ≡ Some item = sym here ∙ at in cc in
                      inl (ap step.Item same, subst (λ w. P w rest) equal there.2)
                ]
              ],
            ),
          )

      pub first_in_items : IsFirstPlace item (P item) place
          → IsFirstPlace (view.List items) (InItem P (view.List items)) (step.Item i ∷ place)
      first_in_items first = first_in_part (view.List items) item (step.Item i) place (P item)
          (InItem P (view.List items)) item_is first
          (λ p. and_some (slice_get (items_of (view.List items)) i) (λ w. P w place) item item_is p) other_items

-- what a search says of a value whose keys differ
abbrev pub Says : (Json → List Step → Type 0) → Json → Option (List Step) → Type 0
Says P v found = HasNoRepeatedKey v → Finds v (P v) found

none_left : {A : Type 0} (o : Option A) → ((x : A) → o ≡ Some x → ⊥) → o ≡ None
none_left None not_some = refl
none_left (Some x) not_some = absurd (not_some x refl)

not_named : (P : Json → List Step → Type 0) (v : Json) (found : Option (List Step)) → found ≡ None
    → Finds v (P v) found → ¬ (Named P v)
not_named P v found is finds named =
    let Q : Option (List Step) → Type 0 = λ o. Finds v (P v) o in subst Q is finds named.0 named.1

-- the members of an object whose keys differ, one after the other
abbrev pub NoneInMembers : (Json → List Step → Type 0) → List Member → ℕ → Type 0
NoneInMembers P members i = HasNoRepeatedKey (view.Object members) → NoneBefore (λ m. Named P m.value) members i

module _ (P : Json → List Step → Type 0) (members : List Member) (i : ℕ) where
  pub no_more_members : length members ≤ i → NoneInMembers P members i
      → Says (InPart P) (view.Object members) None
  no_more_members all none keys = none_in_members P members
      (λ k m is. none_at_all (λ n. Named P n.value) members i k m all (none keys) is)

  module _ (m : Member) (within : i < length members) (read : m ≡ get_or members i m) (none : NoneInMembers P members i)
      (found : Option (List Step)) (says : Says P m.value found)
    where
      pub next_member : ((place : List Step) → found ≡ Some place → ⊥) → NoneInMembers P members (i + 1)
      next_member not_some keys = none_more (λ n. Named P n.value) members i m within read (none keys)
          (not_named P m.value found (none_left found not_some) (says (member_keys members i m keys within read)))

      pub found_member : (place : List Step) (key : List ℕ) (new : List Step) → found ≡ Some place → key ≡ m.key
          → new ≡ step.Member key ∷ place → Says (InPart P) (view.Object members) (Some new)
      found_member place key new is key_is new_is keys =
          let Q : Option (List Step) → Type 0 = λ o. Finds m.value (P m.value) o in
          let first : IsFirstPlace m.value (P m.value) place =
          subst Q is (says (member_keys members i m keys within read)) in
          let R : List Step → Type 0 = λ s. IsFirstPlace (view.Object members) (InPart P (view.Object members)) s in
          subst R (sym (new_is ∙ ap (λ k. step.Member k ∷ place) key_is))
          (first_in_members P members i m (slice_get_read members (length members) i m refl within read)
          ((keys_of_members members).0 keys).0 (none keys) place first)

-- the items of a list, one after the other
abbrev pub NoneInItems : (Json → List Step → Type 0) → List Json → ℕ → Type 0
NoneInItems P items i = HasNoRepeatedKey (view.List items) → NoneBefore (Named P) items i

module _ (P : Json → List Step → Type 0) (items : List Json) (i : ℕ) where
  pub no_more_items : length items ≤ i → NoneInItems P items i → Says (InItem P) (view.List items) None
  no_more_items all none keys = none_in_items P items
      (λ k item is. none_at_all (Named P) items i k item all (none keys) is)

  module _ (item : Json) (within : i < length items) (read : item ≡ get_or items i item) (none : NoneInItems P items i)
      (found : Option (List Step)) (says : Says P item found)
    where
      pub next_item : ((place : List Step) → found ≡ Some place → ⊥) → NoneInItems P items (i + 1)
      next_item not_some keys = none_more (Named P) items i item within read (none keys)
          (not_named P item found (none_left found not_some) (says (item_keys items i item keys within read)))

      pub found_item : (place new : List Step) → found ≡ Some place → new ≡ step.Item i ∷ place
          → Says (InItem P) (view.List items) (Some new)
      found_item place new is new_is keys =
          let Q : Option (List Step) → Type 0 = λ o. Finds item (P item) o in
          let first : IsFirstPlace item (P item) place = subst Q is (says (item_keys items i item keys within read)) in
          let R : List Step → Type 0 = λ s. IsFirstPlace (view.List items) (InItem P (view.List items)) s in
          subst R (sym new_is) (first_in_items P items i item
          (slice_get_read items (length items) i item refl within read) (none keys) place first)
