-- No group has more disjoint options than the profile's width.
use Rattle.std.proofs.Common.{◌≡◌, ℕ, zero, suc, ◌+◌, ◌*◌, max, ◌<◌, ◌≤◌, ⊎_elim, Bool, true, false, cond, Some, List, [], ◌∷◌, ◌++◌, length, take, slice_get, refl, sym, ap, ap₂, ◌∙◌, subst, arith}
use Rattle.std.proofs.Math.Nat.{mul_assoc, one-mul, le-max_left, le-max_right}
use Rattle.std.proofs.lemmas.Bool.{cases_lt}
use Rattle.std.proofs.lemmas.List.{take_more, take_all}
use Rattle.std.proofs.lemmas.List.Elements.{filter_map-append}
use Rattle.std.proofs.lemmas.Option.{get_or_from_slice_get}
use Rattle.std.specs.List.{AllByRecursion, filter_map, cons_option}
use Rattle.std.specs.Option.{option_map_or}
use Rattle.helix_options.specs.Paths.{constraints_of}
use Rattle.helix_partition.specs.Groups.{numbers_below, is_grouped, is_least, group_of, groups_of}
use Rattle.helix_partition.proofs.Numbers.{each_of}
use Rattle.helix_profile.specs.Content.{Content}
use Rattle.helix_profile.specs.Width.{width, is_in_group, product_of_widths, widest_group, profile_width}
use Rattle.helix_profile.specs.declared.constraint.Constraint.{Constraint}
use Rattle.helix_walk.proofs.OnePart.{got}

-- the product of what a test picks of two lists
module _ (picked : Constraint → Bool) where
  picked_one : (c : Constraint) (b : Bool) (m n : ℕ)
      → cond b (width c true * (m * n)) (m * n) ≡ cond b (width c true * m) m * n
  picked_one c true m n = sym (mul_assoc (width c true) m n)
  picked_one c false m n = refl

  product-append : (cs ds : List Constraint) → product_of_widths picked (cs ++ ds)
      ≡ product_of_widths picked cs * product_of_widths picked ds
  product-append [] ds = sym (one-mul (product_of_widths picked ds))
  product-append (c ∷ cs) ds =
      ap (λ p. cond (picked c) (width c true * p) p) (product-append cs ds)
      ∙ picked_one c (picked c) (product_of_widths picked cs) (product_of_widths picked ds)

module _ (cs : List Constraint) (field : ℕ) where
  abbrev grouped : ℕ → List Constraint
  grouped n = filter_map (slice_get cs) (numbers_below (is_grouped cs field) n)

  abbrev all_of : List Constraint → ℕ
  all_of ds = product_of_widths (λ _. true) ds

  abbrev own_of : List Constraint → ℕ
  own_of ds = product_of_widths (is_in_group cs field) ds

  -- one constraint more
  one_more : (n : ℕ) (c : Constraint) → slice_get cs n ≡ Some c → (b : Bool) → is_in_group cs field c ≡ b
      → all_of (filter_map (slice_get cs) (cond b (n ∷ []) [])) ≡ own_of (c ∷ [])
  one_more n c is true own = ap (λ found. all_of (cons_option found [])) is
      ∙ ap (λ b. cond b (width c true * 1) 1) (sym own)
  one_more n c is false own = ap (λ b. cond b (width c true * 1) 1) (sym own)

  same_product : (n : ℕ) → n ≤ length cs → all_of (grouped n) ≡ own_of (take n cs)
  same_product zero within = refl
  same_product (suc n) within =
      let c = got cs n (omega (arith, within)) in
      let more : suc n ≡ n + 1 = omega arith in
      let passes : is_grouped cs field n ≡ is_in_group cs field c.0 =
      ap (λ found. option_map_or (is_in_group cs field) found false) c.1 in
      let last : all_of (filter_map (slice_get cs) (cond (is_grouped cs field n) (n ∷ []) [])) ≡ own_of (c.0 ∷ []) =
      one_more n c.0 c.1 (is_grouped cs field n) (sym passes) in
      ap all_of (filter_map-append (slice_get cs) (numbers_below (is_grouped cs field) n)
      (cond (is_grouped cs field n) (n ∷ []) []))
      ∙ (product-append (λ _. true) (grouped n)
      (filter_map (slice_get cs) (cond (is_grouped cs field n) (n ∷ []) []))
      ∙ (ap₂ (λ p q. p * q) (same_product n (omega (arith, within))) last
      ∙ (sym (product-append (is_in_group cs field) (take n cs) (c.0 ∷ []))
      ∙ (ap (λ x. own_of (take n cs ++ x ∷ [])) (sym (get_or_from_slice_get cs n c.0 c.0 c.1))
      ∙ (ap own_of (sym (take_more cs n c.0 (omega (arith, within)))) ∙ ap (λ k. own_of (take k cs)) (sym more))))))

  reached : (n : ℕ) → field < n → own_of cs ≤ widest_group cs n
  unfolding widest_group
  reached zero below = absurd (omega (arith, below))
  reached (suc n) below = ⊎_elim
      (λ earlier. let rest = reached n earlier in omega (
        arith,
        rest,
        le-max_left (widest_group cs n) (product_of_widths (is_in_group cs n) cs),
      ))
      (λ from.
      let same : field ≡ n = omega (arith, from, below) in
      let most : own_of cs ≤ max (widest_group cs n) (own_of cs) = le-max_right (widest_group cs n) (own_of cs) in
      subst (λ k. own_of cs ≤ max (widest_group cs n) (product_of_widths (is_in_group cs k) cs)) same most)
      (cases_lt field n)

pub each_is_few : (profile : Content)
    → AllByRecursion (λ group. product_of_widths (λ _. true) (constraints_of profile group) ≤ profile_width profile)
    (groups_of profile)
each_is_few profile =
    each_of (λ group. product_of_widths (λ _. true) (constraints_of profile group) ≤ profile_width profile)
    (group_of profile) (is_least profile.constraints) (length profile.fields)
    (λ field within least. subst (λ p. p ≤ profile_width profile)
    (sym (same_product profile.constraints field (length profile.constraints) (omega arith)
    ∙ ap (product_of_widths (is_in_group profile.constraints field))
    (take_all (length profile.constraints) profile.constraints (omega arith))))
    (reached profile.constraints field (length profile.fields) within))
