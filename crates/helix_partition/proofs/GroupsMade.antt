-- The groups of the labels are those of linked fields.
use Rattle.std.proofs.Common.{◌≡◌, ℕ, ◌<◌, ⊎_elim, true, ◌==◌, ◌^◌, Result, Ok, Err, IfOk, List, length, get_or, map, sym, ap, ◌∙◌, subst, arith}
use Rattle.std.proofs.lemmas.Bool.{cases_eq, eq-eqb, eqb-true}
use Rattle.std.proofs.lemmas.List.{get_or_default, length-map}
use Rattle.std.specs.List.{All}
use Rattle.helix_base.specs.declared.memory.Memory.{Memory}
use Rattle.helix_profile.specs.Content.{Content}
use Rattle.helix_profile.specs.Fields.{fields_of}
use Rattle.helix_profile.specs.Width.{is_linked}
use Rattle.helix_profile.specs.Validity.{IsValidProfile}
use Rattle.helix_partition.specs.Groups.{numbers_below, is_least, is_grouped, group_of, groups_of, IsPartition}
use Rattle.helix_partition.specs.LinkLaws.{linked_path}
use Rattle.helix_partition.specs.Inner.Labels.{first_fields, LabelledBy, labelled_group, labelled_groups}
use Rattle.helix_partition.specs.declared.partition.Partition.{Partition}
use Rattle.helix_partition.proofs.Numbers.{same_numbers, none_listed, none_passes, map_same}
use Rattle.helix_partition.proofs.Reading.{named_is_there, one_label}
use Rattle.helix_partition.proofs.FirstFields.{same_tests, first_of, names_first, by_first, at, grouped_is, first_is}
use Rattle.helix_partition.proofs.GroupsPart.{is_partition}

module _ (profile : Content) (valid : IsValidProfile profile) where
  -- The labels and the groups.

  module _ (labels : List ℕ) (labelled : LabelledBy profile labels profile.constraints) where
    linked_label : (a b : ℕ) → is_linked profile.constraints a b ≡ true → get_or labels a 0 ≡ get_or labels b 0
    linked_label a b linked = let path = linked_path profile.constraints a b linked in
        one_label profile.constraints labels labelled.joined path.0 a b path.1

    label_linked : (a b : ℕ) → a < length profile.fields → b < length profile.fields
        → get_or labels a 0 ≡ get_or labels b 0 → is_linked profile.constraints a b ≡ true
    label_linked a b a_in b_in same = labelled.labelling.sound a b (omega (arith, labelled.every_field))
        (omega (arith, labelled.every_field)) same

    -- a label is its own exactly where its field is the least of its group
    own_or_not : (field : ℕ) → field < length profile.fields
        → (get_or labels field 0 == field) ≡ is_least profile.constraints field
    own_or_not field within = same_tests (get_or labels field 0 == field) (is_least profile.constraints field)
        (λ own.
        let is : get_or labels field 0 ≡ field = eqb-true (get_or labels field 0) field own in
        eq-eqb _ 0 (none_passes (λ other. is_linked profile.constraints other field) field
        (λ other below linked. omega (
          arith,
          linked_label other field linked,
          is,
          labelled.labelling.low other (omega (arith, labelled.every_field)),
        ))))
        (λ least. ⊎_elim
        (λ is. eq-eqb (get_or labels field 0) field is)
        (λ other.
        let inside : field < length labels = omega (arith, labelled.every_field) in
        let below : get_or labels field 0 < field = omega (arith, labelled.labelling.low field inside) in
        absurd (none_listed (λ o. is_linked profile.constraints o field) field
        (eqb-true (length (numbers_below (λ o. is_linked profile.constraints o field) field)) 0 least)
        (get_or labels field 0) below
        (label_linked (get_or labels field 0) field (omega arith) within (labelled.labelling.own field inside))))
        (cases_eq (get_or labels field 0) field))

    module _ (label : ℕ) (within : label < length profile.fields) (own : get_or labels label 0 ≡ label) where
      field_tests : (field : ℕ) → field < length profile.fields
          → (get_or labels field 0 == label) ≡ is_linked profile.constraints label field
      field_tests field inside = same_tests (get_or labels field 0 == label) (is_linked profile.constraints label field)
          (λ same. label_linked label field within inside (own ∙ sym (eqb-true (get_or labels field 0) label same)))
          (λ linked. eq-eqb (get_or labels field 0) label (sym (linked_label label field linked) ∙ own))

      constraint_tests : (firsts : List ℕ) → firsts ≡ first_fields profile.constraints → (number : ℕ)
          → number < length firsts
          → (get_or labels (get_or firsts number 0) 0 == label) ≡ is_grouped profile.constraints label number
      constraint_tests firsts are number inside =
          let known : number < length profile.constraints = omega (
            arith,
            ap length are,
            length-map profile.constraints (λ c. get_or (fields_of c) 0 0),
          ) in
          let c = at profile valid number known in
          let first : get_or firsts number 0 ≡ first_of profile valid c.0 = first_is profile valid firsts are number
          c.0 c.2 known in
          let there : first_of profile valid c.0 < length profile.fields =
          named_is_there profile valid c.0 (first_of profile valid c.0) c.1 (names_first profile valid c.0 c.1) in
          ap (λ f. get_or labels f 0 == label) first
          ∙ (field_tests (first_of profile valid c.0) there
          ∙ (by_first profile valid c.0 label c.1 ∙ sym (grouped_is profile valid label number c.0 c.2)))

      same_group : (firsts : List ℕ) → firsts ≡ first_fields profile.constraints
          → labelled_group labels firsts label ≡ group_of profile label
      same_group firsts are =
          let count : length firsts ≡ length profile.constraints = ap length are
          ∙ length-map profile.constraints (λ c. get_or (fields_of c) 0 0) in
          ap (λ n. record {
            fields = numbers_below (λ field. get_or labels field 0 == label) n;
            constraints = numbers_below (λ number. get_or labels (get_or firsts number 0) 0 == label) (length firsts);
          }) labelled.every_field
          ∙ (ap (λ l. record {
            fields = l;
            constraints = numbers_below (λ number. get_or labels (get_or firsts number 0) 0 == label) (length firsts);
          }) (same_numbers (λ field. get_or labels field 0 == label) (is_linked profile.constraints label)
          (length profile.fields) field_tests)
          ∙ (ap (λ l. record {
            fields = numbers_below (is_linked profile.constraints label) (length profile.fields);
            constraints = l;
          })
          (same_numbers (λ number. get_or labels (get_or firsts number 0) 0 == label)
          (is_grouped profile.constraints label) (length firsts) (constraint_tests firsts are))
          ∙ ap (λ n. record {
            fields = numbers_below (is_linked profile.constraints label) (length profile.fields);
            constraints = numbers_below (is_grouped profile.constraints label) n;
          }) count))

    pub same_groups : (firsts : List ℕ) → firsts ≡ first_fields profile.constraints
        → labelled_groups labels firsts ≡ groups_of profile
    same_groups firsts are =
        ap (λ n. map (labelled_group labels firsts) (numbers_below (λ f. get_or labels f 0 == f) n))
        labelled.every_field
        ∙ (each_same (length profile.fields) (λ f within. within)
        ∙ ap (map (group_of profile)) (same_numbers (λ f. get_or labels f 0 == f) (is_least profile.constraints)
        (length profile.fields) own_or_not))
      where
        each_same : (n : ℕ) → ((f : ℕ) → f < n → f < length profile.fields)
            → map (labelled_group labels firsts) (numbers_below (λ f. get_or labels f 0 == f) n)
            ≡ map (group_of profile) (numbers_below (λ f. get_or labels f 0 == f) n)
        each_same n all = map_same (labelled_group labels firsts) (group_of profile)
            (λ f. get_or labels f 0 == f) n
            (λ f below passes. same_group f (all f below) (eqb-true (get_or labels f 0) f passes) firsts are)

  -- What the program knows of the labels.

  module _ (labels : List ℕ) (labelled : LabelledBy profile labels profile.constraints) where
    pub few_labels : length labels < 2 ^ 32
    few_labels = omega (arith, labelled.every_field, valid.few_fields)

  pub few_firsts : (firsts : List ℕ) → firsts ≡ first_fields profile.constraints → length firsts < 2 ^ 32
  few_firsts firsts are = omega (
    arith,
    ap length are,
    length-map profile.constraints (λ c. get_or (fields_of c) 0 0),
    valid.few_constraints,
  )

  module _ (labels : List ℕ) (labelled : LabelledBy profile labels profile.constraints) (firsts : List ℕ)
      (are : firsts ≡ first_fields profile.constraints) where
    pub firsts_there : All (λ first. first < length labels) firsts
    firsts_there k d inside =
        let known : k < length profile.constraints = omega (
          arith,
          ap length are,
          length-map profile.constraints (λ c. get_or (fields_of c) 0 0),
        ) in
        let c = at profile valid k known in
        let there : first_of profile valid c.0 < length profile.fields =
        named_is_there profile valid c.0 (first_of profile valid c.0) c.1 (names_first profile valid c.0 c.1) in
        omega (
          arith,
          labelled.every_field,
          there,
          get_or_default firsts k d 0 inside,
          first_is profile valid firsts
              are k c.0 c.2 known,
        )

    pub groups_are : (result : Result (List Partition) Memory)
        → IfOk result (λ groups. groups ≡ labelled_groups labels firsts)
        → IfOk result (λ groups. groups ≡ groups_of profile)
    groups_are (Ok groups) made = made ∙ same_groups labels labelled firsts are
    groups_are (Err fault) made = tt

    pub groups_part : (result : Result (List Partition) Memory)
        → IfOk result (λ groups. groups ≡ labelled_groups labels firsts) → IfOk result (IsPartition profile)
    groups_part (Ok groups) made =
        subst (IsPartition profile) (sym (made ∙ same_groups labels labelled firsts are)) (is_partition profile valid)
    groups_part (Err fault) made = tt
