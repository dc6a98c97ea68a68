-- The parts of a walk share out the fields as the groups do.
use Rattle.std.proofs.Common.{◌≡◌, ℕ, suc, ◌<◌, ◌≤◌, true, inl, inr, ⊎_elim, List, [], ◌∷◌, length, Contains, Any, AllPairs, refl, sym, subst, arith}
use Rattle.std.proofs.lemmas.List.Elements.{All-contains}
use Rattle.std.proofs.lemmas.List.Kept.{AllPairs-cons, AllPairs-from_increasing}
use Rattle.std.specs.List.{All, AllByRecursion}
use Rattle.helix_options.specs.Paths.{constraints_of}
use Rattle.helix_partition.specs.Groups.{OfExactlyOne, IsGroup, IsPartition}
use Rattle.helix_partition.specs.declared.partition.Partition.{Partition}
use Rattle.helix_profile.specs.Content.{Content}
use Rattle.helix_profile.specs.Width.{product_of_widths}
use Rattle.helix_relations.specs.NumberingLaws.{all_of}
use Rattle.helix_relations.specs.Region.{RegionContent}
use Rattle.helix_rows.specs.Parts.{ArePartsOf}
use Rattle.helix_rows.specs.declared.part.Part.{Part}
use Rattle.helix_walk.proofs.Listed.{of_contained}
use Rattle.helix_walk.specs.Parts.{IsPartFor, ArePartsFor}

-- in the fields of two parts
abbrev AreApart : Part → Part → Type 0
AreApart a b = (field : ℕ) → Contains a.fields field → ¬ (Contains b.fields field)

module _ (profile : Content) (regions : List RegionContent) where
  -- what holds of each group's part holds of all parts
  pub each_part : (P : Part → Type 0) → (groups : List Partition) (parts : List Part)
      → ArePartsFor profile regions groups parts
      → ((group : Partition) (part : Part) → IsPartFor profile regions group part → P part) → AllByRecursion P parts
  each_part P [] [] are each = tt
  each_part P (group ∷ groups) (part ∷ parts) are each =
      (each group part are.0, each_part P groups parts are.1 each)
  each_part P [] (part ∷ parts) are each = absurd are
  each_part P (group ∷ groups) [] are each = absurd are

  -- the same, of groups of which a fact holds
  with_group : (P : Part → Type 0) (Q : Partition → Type 0) → (groups : List Partition) (parts : List Part)
      → ArePartsFor profile regions groups parts → AllByRecursion Q groups
      → ((group : Partition) (part : Part) → part.fields ≡ group.fields → Q group → P part) → AllByRecursion P parts
  with_group P Q [] [] are all each = tt
  with_group P Q (group ∷ groups) (part ∷ parts) are all each =
      (each group part are.0.fields all.0, with_group P Q groups parts are.1 all.1 each)
  with_group P Q [] (part ∷ parts) are all each = absurd are
  with_group P Q (group ∷ groups) [] are all each = absurd are

  -- no part has more regions than its group has options
  pub each_width : (bound : ℕ) (groups : List Partition) (parts : List Part) → ArePartsFor profile regions groups parts
      → AllByRecursion (λ group. product_of_widths (λ _. true) (constraints_of profile group) ≤ bound) groups
      → AllByRecursion (λ part. length part.regions ≤ bound) parts
  each_width bound [] [] are all = tt
  each_width bound (group ∷ groups) (part ∷ parts) are all = (
    let few = are.0.few in let most = all.0 in omega (arith, few, most),
    each_width bound groups parts are.1 all.1,
  )
  each_width bound [] (part ∷ parts) are all = absurd are
  each_width bound (group ∷ groups) [] are all = absurd are

  covered : (field : ℕ) (groups : List Partition) (parts : List Part) → ArePartsFor profile regions groups parts
      → OfExactlyOne (λ group. Contains group.fields field) groups → Any (λ part. Contains part.fields field) parts
  covered field [] parts are none = absurd none
  covered field (group ∷ groups) [] are one = absurd are
  covered field (group ∷ groups) (part ∷ parts) are (inl here) =
      (0, part, omega arith, refl, subst (λ ns. Contains ns field) (sym are.0.fields) here.0)
  covered field (group ∷ groups) (part ∷ parts) are (inr later) =
      let other = covered field groups parts are.1 later.1 in
      (suc other.0, other.1, omega (arith, other.2), other.3, other.4)

  -- each group that has a field is alone with it
  abbrev AreAlone : List Partition → Type 0
  AreAlone groups = (field : ℕ) → Any (λ group. Contains group.fields field) groups
      → OfExactlyOne (λ group. Contains group.fields field) groups

  in_later : (groups : List Partition) (group : Partition) (field : ℕ) → AreAlone (group ∷ groups)
      → Contains group.fields field → AllByRecursion (λ other. ¬ Contains other.fields field) groups
  in_later groups group field alone contains = ⊎_elim (λ here. here.1) (λ later. absurd (later.0 contains))
      (alone field (0, group, omega arith, refl, contains))

  alone_later : (groups : List Partition) (group : Partition) → AreAlone (group ∷ groups) → AreAlone groups
  alone_later groups group alone field (k, other, within, at, contains) = ⊎_elim
      (λ here. absurd (all_of (λ g. ¬ Contains g.fields field) groups here.1 k other within
      (subst (λ g. Contains g.fields field) (sym at) contains)))
      (λ later. later.1)
      (alone field (suc k, other, omega (arith, within), at, contains))

  disjoint : (groups : List Partition) (parts : List Part) → ArePartsFor profile regions groups parts
      → AreAlone groups → AllPairs AreApart parts
  disjoint [] [] are alone = λ i j d less within. absurd (omega (arith, within))
  disjoint [] (part ∷ parts) are alone = absurd are
  disjoint (group ∷ groups) [] are alone = absurd are
  disjoint (group ∷ groups) (part ∷ parts) are alone = AllPairs-cons AreApart part parts
      (all_of (AreApart part) parts (apart groups parts are.1 (λ field contains.
      in_later groups group field alone (subst (λ ns. Contains ns field) are.0.fields contains))))
      (disjoint groups parts are.1 (alone_later groups group alone))
    where
      apart : (others : List Partition) (rest : List Part) → ArePartsFor profile regions others rest
          → ((field : ℕ) → Contains part.fields field
          → AllByRecursion (λ other. ¬ Contains other.fields field) others)
          → AllByRecursion (AreApart part) rest
      apart [] [] are_rest none = tt
      apart [] (one ∷ rest) are_rest none = absurd are_rest
      apart (other ∷ others) [] are_rest none = absurd are_rest
      apart (other ∷ others) (one ∷ rest) are_rest none = (
        (λ field contains has. (none field contains).0 (subst (λ ns. Contains ns field) are_rest.0.fields has)),
        apart others rest are_rest.1 (λ field contains. (none field contains).1),
      )

  pub are_parts : (groups : List Partition) (parts : List Part) → IsPartition profile groups
      → ArePartsFor profile regions groups parts → ArePartsOf (length profile.fields) parts
  are_parts groups parts partition are = record {
    ascending = all_of (λ part. AllPairs (λ a b. a < b) part.fields) parts
        (with_group (λ part. AllPairs (λ a b. a < b) part.fields) (IsGroup profile) groups parts are
        partition.each_group (λ group part same is. subst (λ ns. AllPairs (λ a b. a < b) ns) (sym same)
        (AllPairs-from_increasing group.fields is.ascending_fields)));
    within = all_of (λ part. All (λ field. field < length profile.fields) part.fields) parts
        (with_group (λ part. All (λ field. field < length profile.fields) part.fields) (IsGroup profile) groups parts
        are partition.each_group (λ group part same is. subst (λ ns. All (λ field. field < length profile.fields) ns)
        (sym same) is.fields_in_range));
    disjoint = disjoint groups parts are (λ field (k, group, within, at, contains).
        partition.each_field field (All-contains (λ f. f < length profile.fields) group.fields field
        (of_contained (IsGroup profile) groups group partition.each_group (k, within, at)).fields_in_range contains));
    covered = λ field within. covered field groups parts are (partition.each_field field within);
  }
