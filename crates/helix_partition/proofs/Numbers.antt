-- The numbers below a limit that pass a test.
use Rattle.std.proofs.Common.{◌≡◌, ℕ, zero, suc, ◌+◌, ◌<◌, inl, inr, ⊎_elim, Bool, true, false, cond, List, [], ◌∷◌, ◌++◌, length, get_or, map, refl, sym, ap, ◌∙◌, subst, arith, length-append, append-nil, add-one}
use Rattle.std.proofs.lemmas.Bool.{cases_Bool, cases_lt}
use Rattle.std.proofs.lemmas.List.{map-append, get_or_append_left}
use Rattle.std.proofs.Math.Seq.{get_or-append_seam}
use Rattle.std.proofs.lemmas.List.Elements.{Contains-get_or, Contains-push, Contains-push_cases, Contains-append_left}
use Rattle.std.specs.List.{All, AllByRecursion, Contains}
use Rattle.std.specs.List.Sorted.{IsStrictlyIncreasing}
use Rattle.helix_partition.specs.Groups.{numbers_below, OfExactlyOne}
use Rattle.helix_partition.specs.declared.partition.Partition.{Partition}

-- one number more
taken : (test : ℕ → Bool) (n : ℕ) → test n ≡ true → numbers_below test (suc n) ≡ numbers_below test n ++ n ∷ []
taken test n passes = ap (λ b. numbers_below test n ++ cond b (n ∷ []) []) passes

left : (test : ℕ → Bool) (n : ℕ) → test n ≡ false → numbers_below test (suc n) ≡ numbers_below test n
left test n fails = ap (λ b. numbers_below test n ++ cond b (n ∷ []) []) fails ∙ append-nil (numbers_below test n)

pub taken_next : (test : ℕ → Bool) (n : ℕ) → test n ≡ true
    → numbers_below test n ++ n ∷ [] ≡ numbers_below test (n + 1)
taken_next test n passes = sym (ap (numbers_below test) (add-one n) ∙ taken test n passes)

pub left_next : (test : ℕ → Bool) (n : ℕ) → test n ≡ false → numbers_below test n ≡ numbers_below test (n + 1)
left_next test n fails = sym (ap (numbers_below test) (add-one n) ∙ left test n fails)

-- its members
pub has_number : (test : ℕ → Bool) (n x : ℕ) → x < n → test x ≡ true → Contains (numbers_below test n) x
has_number test zero x below passes = absurd (omega (arith, below))
has_number test (suc n) x below passes = ⊎_elim
    (λ earlier. Contains-append_left (numbers_below test n) (cond (test n) (n ∷ []) []) x
    (has_number test n x earlier passes))
    (λ reached.
    let same : x ≡ n = omega arith in
    let here : test n ≡ true = subst (λ k. test k ≡ true) same passes in
    subst (λ l. Contains l x) (sym (taken test n here))
    (subst (λ k. Contains (numbers_below test n ++ n ∷ []) k) (sym same) (Contains-push (numbers_below test n) n)))
    (cases_lt x n)

not_in_none : (x : ℕ) → Contains [] x → ⊥
not_in_none x has = omega (arith, has.1)

pub is_number : (test : ℕ → Bool) (n x : ℕ) → Contains (numbers_below test n) x → (x < n) × (test x ≡ true)
is_number test zero x has = absurd (not_in_none x has)
is_number test (suc n) x has = ⊎_elim
    (λ passes. ⊎_elim
    (λ earlier. let found = is_number test n x earlier in (omega (arith, found.0), found.1))
    (λ same. (omega arith, subst (λ k. test k ≡ true) same passes))
    (Contains-push_cases (numbers_below test n) n x (subst (λ l. Contains l x) (taken test n passes) has)))
    (λ fails. let found = is_number test n x (subst (λ l. Contains l x) (left test n fails) has) in
    (omega (arith, found.0), found.1))
    (cases_Bool (test n))

pub same_numbers : (test other : ℕ → Bool) (n : ℕ) → ((x : ℕ) → x < n → test x ≡ other x)
    → numbers_below test n ≡ numbers_below other n
same_numbers test other zero same = refl
same_numbers test other (suc n) same =
    ap (λ l. l ++ cond (test n) (n ∷ []) []) (same_numbers test other n (λ x below. same x (omega (arith, below))))
    ∙ ap (λ b. numbers_below other n ++ cond b (n ∷ []) []) (same n (omega arith))

pub all_below : (test : ℕ → Bool) (n : ℕ) → All (λ x. x < n) (numbers_below test n)
all_below test n k d within =
    (is_number test n (get_or (numbers_below test n) k d) (Contains-get_or (numbers_below test n) k d within)).0

pub none_listed : (test : ℕ → Bool) (n : ℕ) → length (numbers_below test n) ≡ 0 → (x : ℕ) → x < n → test x ≡ true → ⊥
none_listed test n none x below passes = let has = has_number test n x below passes in omega (arith, has.1)

pub none_passes : (test : ℕ → Bool) (n : ℕ) → ((x : ℕ) → x < n → test x ≡ true → ⊥)
    → length (numbers_below test n) ≡ 0
none_passes test zero none = refl
none_passes test (suc n) none = ⊎_elim
    (λ passes. absurd (none n (omega arith) passes))
    (λ fails. ap length (left test n fails) ∙ none_passes test n (λ x below. none x (omega (arith, below))))
    (cases_Bool (test n))

-- a number after ascending ones that are all less
push_ascending : (xs : List ℕ) (n : ℕ) → IsStrictlyIncreasing xs → All (λ x. x < n) xs
    → IsStrictlyIncreasing (xs ++ n ∷ [])
push_ascending xs n up below k within = ⊎_elim
    (λ inside. omega (
      arith,
      get_or_append_left xs (n ∷ []) 0 k (omega arith),
      get_or_append_left xs (n ∷ []) 0 (k + 1) inside,
      up k inside,
    ))
    (λ last.
    let size : length (xs ++ n ∷ []) ≡ length xs + 1 = omega (arith, length-append xs (n ∷ [])) in
    let end : k + 1 ≡ length xs = omega (arith, within) in
    omega (
      arith,
      get_or_append_left xs (n ∷ []) 0 k (omega arith),
      ap (λ i. get_or (xs ++ n ∷ []) i 0) end,
      get_or-append_seam xs n [] 0,
      below k 0 (omega arith),
    ))
    (cases_lt (k + 1) (length xs))

pub ascending : (test : ℕ → Bool) (n : ℕ) → IsStrictlyIncreasing (numbers_below test n)
ascending test zero = λ k within. absurd (omega (arith, within))
ascending test (suc n) = ⊎_elim
    (λ passes. subst IsStrictlyIncreasing (sym (taken test n passes))
    (push_ascending (numbers_below test n) n (ascending test n) (all_below test n)))
    (λ fails. subst IsStrictlyIncreasing (sym (left test n fails)) (ascending test n))
    (cases_Bool (test n))

-- Which of the groups of such numbers a fact holds of.
module _ (Fact : Partition → Type 0) where
  none_then_one : (groups : List Partition) (group : Partition) → AllByRecursion (λ other. ¬ Fact other) groups
      → Fact group → OfExactlyOne Fact (groups ++ group ∷ [])
  none_then_one [] group none fact = inl (fact, tt)
  none_then_one (first ∷ groups) group none fact = inr (none.0, none_then_one groups group none.1 fact)

  none_more : (groups : List Partition) (group : Partition) → AllByRecursion (λ other. ¬ Fact other) groups
      → ¬ Fact group → AllByRecursion (λ other. ¬ Fact other) (groups ++ group ∷ [])
  none_more [] group none fails = (fails, tt)
  none_more (first ∷ groups) group none fails = (none.0, none_more groups group none.1 fails)

  one_then_none : (groups : List Partition) (group : Partition) → OfExactlyOne Fact groups → ¬ Fact group
      → OfExactlyOne Fact (groups ++ group ∷ [])
  one_then_none [] group one fails = absurd one
  one_then_none (first ∷ groups) group (inl here) fails = inl (here.0, none_more groups group here.1 fails)
  one_then_none (first ∷ groups) group (inr later) fails = inr (later.0, one_then_none groups group later.1 fails)

  module _ (group : ℕ → Partition) (test : ℕ → Bool) where
    joined_groups : (n : ℕ) → test n ≡ true
        → map group (numbers_below test (suc n)) ≡ map group (numbers_below test n) ++ group n ∷ []
    joined_groups n passes = ap (map group) (taken test n passes) ∙ map-append group (numbers_below test n) (n ∷ [])

    of_none : (n : ℕ) → ((x : ℕ) → x < n → test x ≡ true → ¬ Fact (group x))
        → AllByRecursion (λ other. ¬ Fact other) (map group (numbers_below test n))
    of_none zero none = tt
    of_none (suc n) none = let earlier = of_none n (λ x below. none x (omega (arith, below))) in ⊎_elim
        (λ passes. subst (AllByRecursion (λ other. ¬ Fact other)) (sym (joined_groups n passes))
        (none_more (map group (numbers_below test n)) (group n) earlier (none n (omega arith) passes)))
        (λ fails. subst (λ l. AllByRecursion (λ other. ¬ Fact other) (map group l)) (sym (left test n fails)) earlier)
        (cases_Bool (test n))

    pub of_one : (n x : ℕ) → x < n → test x ≡ true → Fact (group x)
        → ((y : ℕ) → y < n → test y ≡ true → Fact (group y) → y ≡ x)
        → OfExactlyOne Fact (map group (numbers_below test n))
    of_one zero x below passes fact only = absurd (omega (arith, below))
    of_one (suc n) x below passes fact only = ⊎_elim
        (λ earlier.
        let one = of_one n x earlier passes fact (λ y less. only y (omega (arith, less))) in
        ⊎_elim
        (λ here. subst (OfExactlyOne Fact) (sym (joined_groups n here))
        (one_then_none (map group (numbers_below test n)) (group n) one
        (λ also. let same = only n (omega arith) here also in omega (arith, same, earlier))))
        (λ fails. subst (λ l. OfExactlyOne Fact (map group l)) (sym (left test n fails)) one)
        (cases_Bool (test n)))
        (λ reached.
        let same : x ≡ n = omega arith in
        let here : test n ≡ true = subst (λ k. test k ≡ true) same passes in
        subst (OfExactlyOne Fact) (sym (joined_groups n here))
        (none_then_one (map group (numbers_below test n)) (group n)
        (of_none n (λ y less passes_too fact_too. let equal = only y (omega (arith, less)) passes_too fact_too in
        omega (arith, equal, same, less)))
        (subst (λ k. Fact (group k)) same fact)))
        (cases_lt x n)

  each_more : (groups : List Partition) (group : Partition) → AllByRecursion Fact groups → Fact group
      → AllByRecursion Fact (groups ++ group ∷ [])
  each_more [] group each fact = (fact, tt)
  each_more (first ∷ groups) group each fact = (each.0, each_more groups group each.1 fact)

  pub each_of : (group : ℕ → Partition) (test : ℕ → Bool) (n : ℕ)
      → ((x : ℕ) → x < n → test x ≡ true → Fact (group x)) → AllByRecursion Fact (map group (numbers_below test n))
  each_of group test zero each = tt
  each_of group test (suc n) each =
      let earlier = each_of group test n (λ x below. each x (omega (arith, below))) in ⊎_elim
      (λ passes. subst (AllByRecursion Fact) (sym (joined_groups group test n passes))
      (each_more (map group (numbers_below test n)) (group n) earlier (each n (omega arith) passes)))
      (λ fails. subst (λ l. AllByRecursion Fact (map group l)) (sym (left test n fails)) earlier)
      (cases_Bool (test n))

-- two ways to make the same groups
pub map_same : (group other : ℕ → Partition) (test : ℕ → Bool) (n : ℕ)
    → ((x : ℕ) → x < n → test x ≡ true → group x ≡ other x)
    → map group (numbers_below test n) ≡ map other (numbers_below test n)
map_same group other test zero same = refl
map_same group other test (suc n) same =
    let earlier = map_same group other test n (λ x below. same x (omega (arith, below))) in ⊎_elim
    (λ passes. ap (map group) (taken test n passes) ∙ (map-append group (numbers_below test n) (n ∷ [])
    ∙ (ap (λ l. l ++ group n ∷ []) earlier
    ∙ (ap (λ g. map other (numbers_below test n) ++ g ∷ []) (same n (omega arith) passes)
    ∙ (sym (map-append other (numbers_below test n) (n ∷ [])) ∙ sym (ap (map other) (taken test n passes)))))))
    (λ fails. ap (map group) (left test n fails) ∙ (earlier ∙ sym (ap (map other) (left test n fails))))
    (cases_Bool (test n))

-- the groups after one number more
pub more_groups : (group : ℕ → Partition) (test : ℕ → Bool) (n label : ℕ) (old new : List Partition) (made : Partition)
    → label ≡ n → test n ≡ true → old ≡ map group (numbers_below test n) → made ≡ group label
    → new ≡ old ++ made ∷ [] → new ≡ map group (numbers_below test (n + 1))
more_groups group test n label old new made same passes old_is made_is new_is =
    new_is ∙ (ap (λ l. l ++ made ∷ []) old_is
    ∙ (ap (λ g. map group (numbers_below test n) ++ g ∷ []) (made_is ∙ ap group same)
    ∙ (sym (map-append group (numbers_below test n) (n ∷ [])) ∙ ap (map group) (taken_next test n passes))))

pub no_more_groups : (group : ℕ → Partition) (test : ℕ → Bool) (n : ℕ) (old new : List Partition) → test n ≡ false
    → old ≡ map group (numbers_below test n) → new ≡ old → new ≡ map group (numbers_below test (n + 1))
no_more_groups group test n old new fails old_is new_is =
    new_is ∙ (old_is ∙ ap (map group) (left_next test n fails))
