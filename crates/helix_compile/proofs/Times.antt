-- How often a part is passed.
use Rattle.std.proofs.Common.{◌≡◌, ℕ, ◌≤◌, ◌<◌, ◌+◌, ◌-◌, zero, suc, ◌⊎◌, inl, inr, ◌↔◌, Option, Some, None, List, [], ◌++◌, refl, sym, ap, ◌∙◌, subst, arith, append_assoc}
use Rattle.helix_expr.specs.Matching.{Joined, UpTo, Repeats}
use Rattle.helix_compile.specs.Inner.Repeats.{AnyNumber, UpToNumber, RepeatsMore}
use Rattle.helix_compile.proofs.Leading.{Both}

module _ (L : List ℕ → Type 0) where
  joined_more : (count others : ℕ) (prefix rest : List ℕ) → Joined L count prefix → Joined L others rest
      → Joined L (count + others) (prefix ++ rest)
  joined_more zero others prefix rest empty joined =
      subst (λ n. Joined L n (prefix ++ rest)) zero_more (subst (λ f. Joined L others (f ++ rest)) (sym empty) joined)
    where
      zero_more : others ≡ zero + others
      zero_more = omega arith
  joined_more (suc count) others prefix rest (one, more, is, has, first) joined =
      let goes = joined_more count others more rest first joined in
      let next : suc (count + others) ≡ suc count + others = omega arith in
      subst (λ n. Joined L n (prefix ++ rest)) next (
        one,
        more ++ rest,
        ap (λ l. l ++ rest) is
            ∙ append_assoc one more rest,
        has,
        goes,
      )

  joined_split : (count others : ℕ) (word : List ℕ) → Joined L (count + others) word
      → Both (Joined L count) (Joined L others) word
  joined_split zero others word joined =
      let none : zero + others ≡ others =
      omega arith in ([], word, refl, refl, subst (λ n. Joined L n word) none joined)
  joined_split (suc count) others word joined =
      let next : suc count + others ≡ suc (count + others) = omega arith in
      let (one, more, is, has, rest) = subst (λ n. Joined L n word) next joined in
      let (prefix, later, splits, first, second) = joined_split count others more rest in (
        one ++ prefix,
        later,
        is
            ∙ (ap (λ l. one ++ l) splits ∙ sym (append_assoc one prefix later)),
        (one, prefix, refl, has, first),
        second,
      )

  -- the least number and then more
  pub repeats_is : (least : ℕ) (most : Option ℕ) (word : List ℕ) → Both (Joined L least) (RepeatsMore L least most) word
      ↔ Repeats L least most word
  repeats_is least most word = (
    (λ (prefix, rest, is, first, (count, within, second)). (
      least + count,
      omega arith,
      within,
      subst (λ w. Joined L (least + count) w) (sym is)
          (joined_more least count prefix rest first second),
    )),
    (λ (count, low, within, joined).
        let is : count ≡ least + (count - least) = omega (arith, low) in
        let (prefix, rest, splits, first, second) =
        joined_split least (count - least) word (subst (λ n. Joined L n word) is joined) in
        (prefix, rest, splits, first, (count - least, subst (λ n. UpTo most n) is within, second))),
  )

  pub any_is : (least : ℕ) (word : List ℕ) → AnyNumber L word ↔ RepeatsMore L least None word
  any_is least word = ((λ (count, joined). (count, tt, joined)), (λ (count, within, joined). (count, joined)))

  pub up_to_is : (least most : ℕ) (word : List ℕ) → least ≤ most → UpToNumber L (most - least) word
      ↔ RepeatsMore L least (Some most) word
  up_to_is least most word low = (
    (λ (count, few, joined). (count, omega (arith, few, low), joined)),
    (λ (count, few, joined). (count, omega (arith, few, low), joined)),
  )

  pub none_is : (least most : ℕ) (word : List ℕ) → most < least → ⊥ ↔ RepeatsMore L least (Some most) word
  none_is least most word low = ((λ no. absurd no), (λ (count, few, joined). omega (arith, few, low)))

  -- none, or one and then fewer
  pub up_to_none : (word : List ℕ) → (word ≡ []) ↔ UpToNumber L 0 word
  up_to_none word = (
    (λ e. (0, omega arith, e)),
    (λ (count, few, joined). let is : count ≡ 0 = omega (arith, few) in subst (λ n. Joined L n word) is joined),
  )

  pub up_to_more : (most : ℕ) (word : List ℕ) → (Both L (UpToNumber L most) word ⊎ (word ≡ []))
      ↔ UpToNumber L (suc most) word
  up_to_more most word = ((λ h. to h), (λ (count, few, joined). from count few joined))
    where
      to : Both L (UpToNumber L most) word ⊎ (word ≡ []) → UpToNumber L (suc most) word
      to (inl (prefix, rest, is, has, (count, few, joined))) =
          (suc count, omega (arith, few), (prefix, rest, is, has, joined))
      to (inr empty) = (0, omega arith, empty)

      from : (count : ℕ) → count ≤ suc most → Joined L count word → Both L (UpToNumber L most) word ⊎ (word ≡ [])
      from zero few empty = inr empty
      from (suc count) few (prefix, rest, is, has, joined) =
          inl (prefix, rest, is, has, (count, omega (arith, few), joined))
