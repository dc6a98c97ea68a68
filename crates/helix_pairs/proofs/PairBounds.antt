-- Bounds of several relations together.
use Rattle.std.proofs.Common.{◌≡◌, ℕ, ◌+◌, ◌<◌, ℤ, ◌≤ℤ◌, List, length, get_or, Option, Some, None, Bool, true, false, IsTrue, ◌↔◌, refl, sym, subst, arith}
use Rattle.std.specs.Int.{int_max}
use Rattle.std.specs.List.{All, AllWithin}
use Rattle.std.proofs.lemmas.Int.{ints, clamps, by_lt_z}
use Rattle.std.proofs.lemmas.List.Elements.{at_read, AllWithin-more, AllWithin-upto, AllWithin-none}
use Rattle.helix_pairs.specs.Bounds.{AreThoseFrom}
use Rattle.helix_pairs.specs.Exclusion.{IsExclusion}
use Rattle.helix_pairs.specs.declared.pair.Exclusion.TheVariants.{Before, Rest}

module _ {X : Type 0} (low high : ℤ) (Meets : X → ℤ → Type 0) (xs : List X) where
  -- the values that meet the first of several facts
  abbrev pub AreThoseFromOf : ℕ → Option ℤ → Type 0
  AreThoseFromOf count answer = AreThoseFrom low high (λ v. AllWithin (λ x. Meets x v) xs 0 count) answer

  -- at first all values of the range
  pub all_from_low : (least : ℤ) → least ≡ low → AreThoseFromOf 0 (Some least)
  all_from_low least is =
      λ v from_low to_high. (λ all. omega (arith, ints, is), λ later. AllWithin-none (λ x. Meets x v) xs 0)

  -- one fact more
  pub those_from_more : (i : ℕ) (x : X) (least from greater own_low own_high : ℤ) → i < length xs → x ≡ get_or xs i x
      → (own_low ≡ low) × (own_high ≡ high) → greater ≡ int_max least from
      → AreThoseFromOf i (Some least) → AreThoseFrom own_low own_high (Meets x) (Some from)
      → AreThoseFromOf (i + 1) (Some greater)
  those_from_more i x least from greater own_low own_high within read own is those more =
      λ v from_low to_high.
      let here = more v (omega (arith, ints, own)) (omega (arith, ints, own)) in
      let before = those v from_low to_high in (
        λ all.
            let first : least ≤ℤ v = before.0
            (AllWithin-upto (λ y. Meets y v) xs 0 (i + 1) i (omega arith) all) in
            let last : from ≤ℤ v = here.0
            (subst (λ y. Meets y v) (sym read) (all i x (omega arith) (omega arith))) in
            omega (arith, ints, clamps, is),
        λ later.
            AllWithin-more (λ y. Meets y v) xs 0 i (before.1 (omega (arith, ints, clamps, is)))
            (at_read xs (λ y. Meets y v) i x within read (here.1 (omega (arith, ints, clamps, is)))),
      )

  -- all facts
  pub those_from_all : (count : ℕ) (least : ℤ) → count ≡ length xs → AreThoseFromOf count (Some least)
      → AreThoseFrom low high (λ v. All (λ x. Meets x v) xs) (Some least)
  those_from_all count least whole those =
      λ v from_low to_high. (
        λ all. (those v from_low to_high).0 (λ k d from_0 below. all k d (omega arith)),
        λ later k d below. (those v from_low to_high).1 later k d (omega arith) (omega arith),
      )

module _ {X : Type 0} (P : X → Type 0) (xs : List X) where
  -- a test of each fact, up to the first that fails
  pub fails_at : (i : ℕ) (x : X) (passes : Bool) → i < length xs → x ≡ get_or xs i x → (IsTrue passes ↔ P x)
      → passes ≡ false → IsTrue false ↔ All P xs
  fails_at i x passes within read decides fails = (
    λ never. absurd (cc),
    λ all. fails_then (decides.1 (subst P (sym read) (all i x within))),
  )
    where
      fails_then : IsTrue passes → IsTrue false
      fails_then is = subst IsTrue fails is

  pub passes_more : (i : ℕ) (x : X) (passes : Bool) → i < length xs → x ≡ get_or xs i x → (IsTrue passes ↔ P x)
      → passes ≡ true → AllWithin P xs 0 i → AllWithin P xs 0 (i + 1)
  passes_more i x passes within read decides is before =
      AllWithin-more P xs 0 i before (at_read xs P i x within read (decides.0 (subst IsTrue (sym is) refl)))

  pub excluded_by_none_more : (i : ℕ) (x : X) (excludes : Bool) → i < length xs → x ≡ get_or xs i x
      → (IsTrue excludes ↔ P x) → excludes ≡ false → AllWithin (λ y. ¬ P y) xs 0 i
      → AllWithin (λ y. ¬ P y) xs 0 (i + 1)
  excluded_by_none_more i x excludes within read decides is before =
      AllWithin-more (λ y. ¬ P y) xs 0 i before (at_read xs (λ y. ¬ P y) i x within read (λ holds. never
      (subst IsTrue is (decides.1 holds))))
    where
      never : IsTrue false → ⊥
      never same = cc

  pub passes_all : (count : ℕ) → count ≡ length xs → AllWithin P xs 0 count → IsTrue true ↔ All P xs
  passes_all count whole within = (λ is k d below. within k d (omega arith) (omega arith), λ all. refl)

module _ {X : Type 0} (Excludes : X → ℤ → Type 0) (xs : List X) (high child : ℤ) where
  -- one that excludes a child excludes the values before the first that it doesn't
  pub excluded_before : (i : ℕ) (x : X) (asked own_high next told : ℤ) → i < length xs → x ≡ get_or xs i x
      → asked ≡ child → told ≡ next → child ≤ℤ high → own_high ≡ high → Excludes x child
      → AreThoseFrom asked own_high (λ v. ¬ Excludes x v) (Some next)
      → IsExclusion (λ v. All (λ y. ¬ Excludes y v) xs) high child (Before told)
  excluded_before i x asked own_high next told within read same is to_high own excluded those = (
    by_lt_z child next (λ after. omega (arith, ints, is, after))
        (λ not_after.
        absurd ((those child (omega (arith, ints, same)) (omega (arith, ints, own))).1 not_after excluded)),
    λ v from_child before to_end all.
        let later : next ≤ℤ v = (those v (omega (arith, ints, same)) (omega (arith, ints, own))).0
        (subst (λ y. ¬ Excludes y v) (sym read) (all i x within)) in
        omega (arith, ints),
  )

  pub excluded_rest : (i : ℕ) (x : X) (asked own_high : ℤ) → i < length xs → x ≡ get_or xs i x → asked ≡ child
      → own_high ≡ high → AreThoseFrom asked own_high (λ v. ¬ Excludes x v) None
      → IsExclusion (λ v. All (λ y. ¬ Excludes y v) xs) high child Rest
  excluded_rest i x asked own_high within read same own none =
      λ v from_child to_end all.
      none v (omega (arith, ints, same)) (omega (arith, ints, own))
      (subst (λ y. ¬ Excludes y v) (sym read) (all i x within))
