-- The groups of linked fields take each field and each constraint once.
use Rattle.std.proofs.Common.{◌≡◌, ℕ, zero, suc, ◌+◌, ◌<◌, ◌≤◌, ⊎_elim, true, false, ◌==◌, List, length, get_or, sym, ◌∙◌, subst, arith}
use Rattle.std.proofs.lemmas.Bool.{cases_Bool, cases_order, eqb-true, false≢true}
use Rattle.std.proofs.lemmas.List.Elements.{Contains-get_or}
use Rattle.std.specs.List.{Contains}
use Rattle.helix_profile.specs.Content.{Content}
use Rattle.helix_profile.specs.Width.{is_linked}
use Rattle.helix_profile.specs.Validity.{IsValidProfile}
use Rattle.helix_partition.specs.Groups.{numbers_below, is_least, is_grouped, group_of, groups_of, IsGroup, IsPartition}
use Rattle.helix_partition.specs.ChainLaws.{IsIn}
use Rattle.helix_partition.specs.LinkLaws.{linked_self, linked_back, linked_on, linked_by, group_in}
use Rattle.helix_partition.proofs.Numbers.{has_number, is_number, all_below, none_listed, ascending, of_one, each_of}
use Rattle.helix_partition.proofs.Reading.{named_is_there}
use Rattle.helix_partition.proofs.FirstFields.{first_of, names_first, by_first, at, grouped_is}

module _ (profile : Content) (valid : IsValidProfile profile) where
  -- Each field is linked with one least field.

  -- a field that is linked with this one and before it
  earlier_linked : (field : ℕ) → is_least profile.constraints field ≡ false
      → (other : ℕ) × (other < field) × (is_linked profile.constraints other field ≡ true)
  earlier_linked field not =
      let before : List ℕ = numbers_below (λ other. is_linked profile.constraints other field) field in
      let some : 0 < length before = not_none (length before) not in
      let found = is_number (λ other. is_linked profile.constraints other field) field (get_or before 0 0)
      (Contains-get_or before 0 0 some) in
      (get_or before 0 0, found.0, found.1)
    where
      not_none : (n : ℕ) → (n == 0) ≡ false → 0 < n
      not_none zero e = absurd (false≢true (sym e))
      not_none (suc n) e = omega arith

  least_of : (bound field : ℕ) → field < bound
      → (least : ℕ) × (least ≤ field) × (is_least profile.constraints least ≡ true)
      × (is_linked profile.constraints least field ≡ true)
  least_of zero field below = absurd (omega (arith, below))
  least_of (suc bound) field below = ⊎_elim
      (λ is. (field, omega arith, is, linked_self profile.constraints field))
      (λ not.
      let other = earlier_linked field not in
      let found = least_of bound other.0 (omega (arith, other.1)) in (
        found.0,
        omega (arith, found.1, other.1),
        found.2,
        linked_on profile.constraints found.0 other.0 field found.3 other.2,
      ))
      (cases_Bool (is_least profile.constraints field))

  not_both : (a b : ℕ) → is_least profile.constraints b ≡ true → is_linked profile.constraints a b ≡ true → a < b → ⊥
  not_both a b least linked below = none_listed (λ o. is_linked profile.constraints o b) b
      (eqb-true (length (numbers_below (λ o. is_linked profile.constraints o b) b)) 0 least) a below linked

  one_least : (a b field : ℕ) → is_least profile.constraints a ≡ true → is_least profile.constraints b ≡ true
      → is_linked profile.constraints a field ≡ true → is_linked profile.constraints b field ≡ true → a ≡ b
  one_least a b field a_least b_least a_linked b_linked = ⊎_elim (λ same. same) (⊎_elim
      (λ below. absurd (not_both a b b_least
      (linked_on profile.constraints a field b a_linked (linked_back profile.constraints b field b_linked)) below))
      (λ above. absurd (not_both b a a_least
      (linked_on profile.constraints b field a b_linked (linked_back profile.constraints a field a_linked)) above)))
      (cases_order a b)

  -- What the groups are.

  in_fields : (least field : ℕ) → field < length profile.fields → is_linked profile.constraints least field ≡ true
      → Contains (numbers_below (is_linked profile.constraints least) (length profile.fields)) field
  in_fields least field within linked =
      has_number (is_linked profile.constraints least) (length profile.fields) field within linked

  group_is : (least : ℕ) → least < length profile.fields → IsGroup profile (group_of profile least)
  group_is least within = record {
    some_field = let has = in_fields least least within (linked_self profile.constraints least) in omega (arith, has.1);
    ascending_fields = ascending (is_linked profile.constraints least) (length profile.fields);
    ascending_constraints = ascending (is_grouped profile.constraints least) (length profile.constraints);
    fields_in_range = all_below (is_linked profile.constraints least) (length profile.fields);
    constraints_in_range = all_below (is_grouped profile.constraints least) (length profile.constraints);
    linked = λ a b has also.
        let first = is_number (is_linked profile.constraints least) (length profile.fields) a has in
        let second = is_number (is_linked profile.constraints least) (length profile.fields) b also in
        linked_on profile.constraints a least b (linked_back profile.constraints least a first.1) second.1;
    own_fields = λ number field c has is names.
        let found = is_number (is_grouped profile.constraints least) (length profile.constraints) number has in
        let c_at = at profile valid number found.0 in
        let same : c_at.0 ≡ c = cc (c_at.2, is) in
        let listed : IsIn profile.constraints c = subst (IsIn profile.constraints) same c_at.1 in
        let named = group_in profile.constraints c least (sym (grouped_is profile valid least number c is) ∙ found.1) in
        in_fields least field (named_is_there profile valid c field listed names)
        (linked_on profile.constraints least named.0 field named.2
        (linked_by profile.constraints c named.0 field listed named.1 names));
  }

  pub is_partition : IsPartition profile (groups_of profile)
  is_partition = record {
    each_group = each_of (IsGroup profile) (group_of profile) (is_least profile.constraints) (length profile.fields)
        (λ least within passes. group_is least within);
    each_field = λ field within.
        let least = least_of (field + 1) field (omega arith) in
        of_one (λ group. Contains group.fields field) (group_of profile) (is_least profile.constraints)
        (length profile.fields) least.0 (omega (arith, least.1)) least.2 (in_fields least.0 field within least.3)
        (λ other below passes has. one_least other least.0 field passes least.2
        (is_number (is_linked profile.constraints other) (length profile.fields) field has).1 least.3);
    each_constraint = λ number within.
        let c = at profile valid number within in
        let first : ℕ = first_of profile valid c.0 in
        let there : first < length profile.fields =
        named_is_there profile valid c.0 (first_of profile valid c.0) c.1 (names_first profile valid c.0 c.1) in
        let least = least_of (first + 1) first (omega arith) in
        of_one (λ group. Contains group.constraints number) (group_of profile) (is_least profile.constraints)
        (length profile.fields) least.0 (omega (arith, least.1)) least.2
        (has_number (is_grouped profile.constraints least.0) (length profile.constraints) number within
        (grouped_is profile valid least.0 number c.0 c.2 ∙ (sym (by_first profile valid c.0 least.0 c.1) ∙ least.3)))
        (λ other below passes has. one_least other least.0 first passes least.2
        (by_first profile valid c.0 other c.1 ∙ (sym (grouped_is profile valid other number c.0 c.2)
        ∙ (is_number (is_grouped profile.constraints other) (length profile.constraints) number has).1)) least.3);
  }
