-- What is kept of a value: its keys, a bound on its nesting, and its numbers.
use Rattle.std.proofs.Common.{◌≡◌, ◌≢◌, ℕ, ◌+◌, ◌≤◌, max, inl, inr, true, false, List, [], ◌∷◌, Option, Some, None, codes, refl, sym, ◌∙◌, subst, arith}
use Rattle.std.proofs.Math.Nat.{le-max_left, le-max_right}
use Rattle.std.specs.List.{AllByRecursion}
use Rattle.std.specs.Str.{bytes_eq}
use Rattle.std.proofs.lemmas.Slice.Eq.{bytes_eq-Decides}
use Rattle.helix_json.specs.declared.value.Json.{Json, Row_of-Json, Row_of-Member}
use Rattle.helix_json.specs.declared.value.Json as json
use Rattle.helix_json.specs.declared.value.Json.TheViews as view
use Rattle.helix_json.specs.declared.value.Member.{Member}
use Rattle.helix_json.specs.Values.{HasKey, HasNumbers, MembersHaveNumbers, ItemsHaveNumbers, HasNoRepeatedKey, MembersHaveNoRepeatedKey, ItemsHaveNoRepeatedKey, HaveDifferentKeys, nesting, members_nesting, items_nesting}
use Rattle.helix_json.specs.ValueLaws.{keys_of_items, keys_of_members, numbers_of_items, numbers_of_members, nesting_of_items, nesting_of_members}
use Rattle.helix_places.specs.Members.{listed_members, value_of}
use Rattle.helix_legacy.specs.Today.{member, the, or_null, keyword_test}
use Rattle.helix_places.specs.KeyLaws.{Leads, leads, all_at}

-- texts that a comparison tells apart
pub differ : (a b : List ℕ) → bytes_eq a b ≡ false → a ≢ b
differ a b e is = let yes_it_is : bytes_eq a b ≡ true = (bytes_eq-Decides a b).1 is in cc

-- what is kept of a value: its keys, a bound on its nesting, and its numbers where `B` holds
pub record IsKept (B : Type 0) (most : ℕ) (v : Json) : Type 0 where
  pub keys : HasNoRepeatedKey v
  pub depth : nesting v ≤ most
  pub numbers : B → HasNumbers v

abbrev pub AllKept : Type 0 → ℕ → List Member → Type 0
AllKept B most members = AllByRecursion (λ m. IsKept B most m.value) members

module _ (B : Type 0) where
  pub null_kept : (most : ℕ) → IsKept B most json.Null
  null_kept most = record { keys = tt; depth = omega arith; numbers = λ b. tt }

  all_keys : (most : ℕ) (members : List Member) → AllKept B most members
      → AllByRecursion (λ m. HasNoRepeatedKey m.value) members
  all_keys most [] all = tt
  all_keys most (m ∷ members) all = (all.0.keys, all_keys most members all.1)

  all_depth : (most : ℕ) (members : List Member) → AllKept B most members
      → AllByRecursion (λ m. nesting m.value ≤ most) members
  all_depth most [] all = tt
  all_depth most (m ∷ members) all = (all.0.depth, all_depth most members all.1)

  all_numbers : (most : ℕ) (members : List Member) → AllKept B most members → B
      → AllByRecursion (λ m. HasNumbers m.value) members
  all_numbers most [] all b = tt
  all_numbers most (m ∷ members) all b = (all.0.numbers b, all_numbers most members all.1 b)

  -- an object of kept values
  pub object_kept : (least most : ℕ) (members : List Member) → least + 1 ≤ most → HaveDifferentKeys members
      → AllKept B least members → IsKept B most (view.Object members)
  object_kept least most members less different all = record {
    keys = (keys_of_members members).1 (different, all_keys least members all);
    depth = let below : nesting (view.Object members) ≤ least + 1 =
        (nesting_of_members members least).1 (all_depth least members all) in omega arith;
    numbers = λ b. (numbers_of_members members).1 (all_numbers least members all b);
  }

  items_keys : (most : ℕ) (items : List Json) → AllByRecursion (IsKept B most) items
      → AllByRecursion HasNoRepeatedKey items
  items_keys most [] all = tt
  items_keys most (v ∷ items) all = (all.0.keys, items_keys most items all.1)

  items_depth : (most : ℕ) (items : List Json) → AllByRecursion (IsKept B most) items
      → AllByRecursion (λ v. nesting v ≤ most) items
  items_depth most [] all = tt
  items_depth most (v ∷ items) all = (all.0.depth, items_depth most items all.1)

  items_numbers : (most : ℕ) (items : List Json) → AllByRecursion (IsKept B most) items → B
      → AllByRecursion HasNumbers items
  items_numbers most [] all b = tt
  items_numbers most (v ∷ items) all b = (all.0.numbers b, items_numbers most items all.1 b)

  -- a list of kept values
  pub list_kept : (least most : ℕ) (items : List Json) → least + 1 ≤ most → AllByRecursion (IsKept B least) items
      → IsKept B most (view.List items)
  list_kept least most items less all = record {
    keys = (keys_of_items items).1 (items_keys least items all);
    depth = let below : nesting (view.List items) ≤ least + 1 =
        (nesting_of_items items least).1 (items_depth least items all) in omega arith;
    numbers = λ b. (numbers_of_items items).1 (items_numbers least items all b);
  }

  -- the members of a kept object, and the items of a kept list
  abbrev pub KeptMembers : {n : _} → ℕ → Row_of-Member n → Type 0
  KeptMembers most row = MembersHaveNoRepeatedKey row × (members_nesting row ≤ most) × (B → MembersHaveNumbers row)

  abbrev pub KeptItems : {n : _} → ℕ → Row_of-Json n → Type 0
  KeptItems most row = ItemsHaveNoRepeatedKey row × (items_nesting row ≤ most) × (B → ItemsHaveNumbers row)

  fits : (a b most : ℕ) → max a b ≤ most → (a ≤ most) × (b ≤ most)
  fits a b most h = (omega (arith, le-max_left a b), omega (arith, le-max_right a b))

  pub first_member : {n : _} (most : ℕ) (key : List ℕ) (value : Json) (row : Row_of-Member n)
      → KeptMembers most (json.more_of-Member key value row) → IsKept B most value
  first_member most key value row h = record {
    keys = h.0.1;
    depth = (fits (nesting value) (members_nesting row) most h.1).0;
    numbers = λ b. (h.2 b).0;
  }

  pub other_members : {n : _} (most : ℕ) (key : List ℕ) (value : Json) (row : Row_of-Member n)
      → KeptMembers most (json.more_of-Member key value row) → KeptMembers most row
  other_members most key value row h =
      (h.0.2, (fits (nesting value) (members_nesting row) most h.1).1, (λ b. (h.2 b).1))

  pub first_item : {n : _} (most : ℕ) (item : Json) (row : Row_of-Json n)
      → KeptItems most (json.more_of-Json item row) → IsKept B most item
  first_item most item row h = record {
    keys = h.0.0;
    depth = (fits (nesting item) (items_nesting row) most h.1).0;
    numbers = λ b. (h.2 b).0;
  }

  pub other_items : {n : _} (most : ℕ) (item : Json) (row : Row_of-Json n)
      → KeptItems most (json.more_of-Json item row) → KeptItems most row
  other_items most item row h =
      (h.0.1, (fits (nesting item) (items_nesting row) most h.1).1, (λ b. (h.2 b).1))

  -- members with the keys of a row and kept values
  abbrev pub Renews : {n : _} → ℕ → Row_of-Member n → List Member → Type 0
  Renews most json.end_of-Member [] = Unit {0}
  Renews most json.end_of-Member (m ∷ members) = ⊥
  Renews most (json.more_of-Member key value row) [] = ⊥
  Renews most (json.more_of-Member key value row) (m ∷ members) =
      (m.key ≡ key) × IsKept B most m.value × Renews most row members

  pub no_other : {n : _} (most : ℕ) (key : List ℕ) (row : Row_of-Member n) (members : List Member) → ¬ (HasKey key row)
      → Renews most row members → AllByRecursion (λ m. key ≢ m.key) members
  no_other most key json.end_of-Member [] none new = tt
  no_other most key json.end_of-Member (m ∷ members) none new = absurd new
  no_other most key (json.more_of-Member other value row) [] none new = absurd new
  no_other most key (json.more_of-Member other value row) (m ∷ members) none new =
      ((λ e. none (inl (sym (e ∙ new.0)))), no_other most key row members (λ has. none (inr has)) new.2)

  pub renewed : {n : _} (most : ℕ) (row : Row_of-Member n) (members : List Member) → MembersHaveNoRepeatedKey row
      → Renews most row members → HaveDifferentKeys members × AllKept B most members
  renewed most json.end_of-Member [] keys new = (tt, tt)
  renewed most json.end_of-Member (m ∷ members) keys new = absurd new
  renewed most (json.more_of-Member key value row) [] keys new = absurd new
  renewed most (json.more_of-Member key value row) (m ∷ members) keys new =
      let others : HaveDifferentKeys members × AllKept B most members =
      renewed most row members keys.2 new.2 in
      let none : ¬ (HasKey m.key row) = subst (λ k. ¬ (HasKey k row)) (sym new.0) keys.0 in
      ((no_other most m.key row members none new.2, others.0), (new.1, others.1))

  listed_renew : {n : _} (most : ℕ) (row : Row_of-Member n) → KeptMembers most row
      → Renews most row (listed_members row)
  listed_renew most json.end_of-Member kept = tt
  listed_renew most (json.more_of-Member key value row) kept = (
    refl,
    first_member most key value row kept,
    listed_renew most row (other_members most key value row kept),
  )

  -- the members of a kept object, as code sees them
  pub members_kept : {n : _} (most : ℕ) (row : Row_of-Member n) → KeptMembers most row
      → HaveDifferentKeys (listed_members row) × AllKept B most (listed_members row)
  members_kept most row kept = renewed most row (listed_members row) kept.0 (listed_renew most row kept)

  -- the value of a member, where there is one
  found_kept : (most : ℕ) (key : List ℕ) (members : List Member) → AllKept B most members → (found : Option Json)
      → value_of key members ≡ found → IsKept B most (or_null found)
  found_kept most key members all None is = null_kept most
  found_kept most key members all (Some w) is =
      let there : Leads key members w = leads key members w is in
      let kept : IsKept B most there.member.value =
      all_at (λ m. IsKept B most m.value) members there.index there.member all there.at in
      subst (λ v. IsKept B most v) there.value_is kept

  pub the_kept : (most : ℕ) (key : List ℕ) (members : List Member) → AllKept B most members
      → IsKept B most (the key members)
  the_kept most key members all = found_kept most key members all (value_of key members) refl

  pub test_kept : (least most : ℕ) (field : Json) (keyword : List ℕ) (operand : Json) → least + 1 ≤ most
      → codes "field" ≢ keyword → IsKept B least field → IsKept B least operand
      → IsKept B most (keyword_test field keyword operand)
  test_kept least most field keyword operand less other field_is operand_is =
      object_kept least most (member (codes "field") field ∷ member keyword operand ∷ []) less
      ((other, tt), (tt, tt)) (field_is, (operand_is, tt))
