-- The rule for one pair. Of the child's values it knows the least one from a mark on, of those that are candidates; it
-- says which candidates a parent's value has as children, and from which value on a parent can have one.
use Rattle.std.proofs.Common.{ℤ, ◌<ℤ◌, ◌≤ℤ◌, Some, None, arith}
use Rattle.std.proofs.lemmas.Int.{ints, by_lt_z}
use Rattle.helix_ladders.specs.Scale.{IsLeast}
use Rattle.helix_pairs.specs.Bounds.{AreThoseFrom}
use Rattle.helix_pairs.specs.Exclusion.{IsExclusion}
use Rattle.helix_pairs.specs.declared.pair.Exclusion.TheVariants.{Before, Rest}

-- a candidate that isn't below a mark
pub record IsCandidateFrom (Has : ℤ → Type 0) (mark v : ℤ) : Type 0 where
  pub has : Has v
  pub reached : mark ≤ℤ v

-- the bounds of a pair, and its candidates, which are values of the range
module _ (low high : ℤ) (Lower Upper Allowed : ℤ → ℤ → Type 0) (Has : ℤ → Type 0)
    (from_low : (v : ℤ) → Has v → low ≤ℤ v) (to_high : (v : ℤ) → Has v → v ≤ℤ high)
    (lower_rises : (p q v : ℤ) → low ≤ℤ p → p ≤ℤ q → q ≤ℤ high → Lower q v → Lower p v)
    (upper_holds_below : (p v w : ℤ) → low ≤ℤ v → v ≤ℤ w → w ≤ℤ high → Upper p w → Upper p v) where
  -- a candidate that meets all bounds of the parent's value
  pub record IsChild (p v : ℤ) : Type 0 where
    pub has : Has v
    pub lower : Lower p v
    pub upper : Upper p v
    pub allowed : Allowed p v

  -- no child of a value is below a mark, or there is none
  abbrev pub HasNoneBelow : ℤ → ℤ → Type 0
  HasNoneBelow p mark = (v : ℤ) → v <ℤ mark → ¬ IsChild p v

  abbrev pub HasNone : ℤ → Type 0
  HasNone p = (v : ℤ) → ¬ IsChild p v

  -- the search for a child: no child is below the lower bound, nor below the least candidate from a mark on that
  -- none is below, nor below the end of what is excluded
  pub none_below_lower : (p mark : ℤ) → AreThoseFrom low high (Lower p) (Some mark) → HasNoneBelow p mark
  none_below_lower p mark bounded v below child =
      omega (arith, ints, below, (bounded v (from_low v child.has) (to_high v child.has)).0 child.lower)

  pub none_without_lower : (p : ℤ) → AreThoseFrom low high (Lower p) None → HasNone p
  none_without_lower p none v child = none v (from_low v child.has) (to_high v child.has) child.lower

  pub none_below_candidate : (p mark v : ℤ) → HasNoneBelow p mark → IsLeast (IsCandidateFrom Has mark) v
      → HasNoneBelow p v
  none_below_candidate p mark v none least w below child =
      by_lt_z w mark (λ before. none w before child)
      (λ from. omega (arith, ints, below, least.least w (record { has = child.has; reached = from })))

  pub none_past_candidates : (p mark : ℤ) → HasNoneBelow p mark → ((v : ℤ) → ¬ IsCandidateFrom Has mark v) → HasNone p
  none_past_candidates p mark none no_more v child =
      by_lt_z v mark (λ before. none v before child) (λ from. no_more v (record { has = child.has; reached = from }))

  pub none_before_next : (p v next : ℤ) → HasNoneBelow p v → IsExclusion (Allowed p) high v (Before next)
      → HasNoneBelow p next
  none_before_next p v next none excluded w below child =
      by_lt_z w v (λ before. none w before child) (λ from. excluded.1 w from below (to_high w child.has) child.allowed)

  pub none_in_rest : (p v : ℤ) → HasNoneBelow p v → IsExclusion (Allowed p) high v Rest → HasNone p
  none_in_rest p v none excluded w child =
      by_lt_z w v (λ before. none w before child) (λ from. excluded w from (to_high w child.has) child.allowed)

  -- a candidate above the upper bound has no child after it
  pub none_above_upper : (p v : ℤ) → HasNoneBelow p v → Has v → ¬ Upper p v → HasNone p
  none_above_upper p v none has broken w child =
      by_lt_z w v (λ before. none w before child)
      (λ from. broken (upper_holds_below p v w (from_low v has) from (to_high w child.has) child.upper))

  -- The search from a value on, where nothing was excluded. The least candidate from the lower bound on is reached by
  -- later values too, so none of them has a child before the first whose upper bound it meets;
  module _ (p mark : ℤ) (begins : low ≤ℤ p) (bounded : AreThoseFrom low high (Lower p) (Some mark)) where
    reaches : (q w : ℤ) → p ≤ℤ q → q ≤ℤ high → IsChild q w → IsCandidateFrom Has mark w
    reaches q w from ends child = record {
      has = child.has;
      reached = (bounded w (from_low w child.has) (to_high w child.has)).0
          (lower_rises p q w begins from ends child.lower);
    }

    pub none_until : (v first : ℤ) → IsLeast (IsCandidateFrom Has mark) v
        → AreThoseFrom low high (λ q. Upper q v) (Some first)
        → (q : ℤ) → p ≤ℤ q → q <ℤ first → q ≤ℤ high → HasNone q
    none_until v first least inverse q from before ends w child =
        let met : first ≤ℤ q = (inverse q (omega (arith, ints)) ends).0 (upper_holds_below q v w
        (from_low v least.has.has) (least.least w (reaches q w from ends child)) (to_high w child.has) child.upper) in
        omega (arith, ints)

    pub none_ever : (v : ℤ) → IsLeast (IsCandidateFrom Has mark) v → AreThoseFrom low high (λ q. Upper q v) None
        → (q : ℤ) → p ≤ℤ q → q ≤ℤ high → HasNone q
    none_ever v least no_inverse q from ends w child =
        no_inverse q (omega (arith, ints)) ends (upper_holds_below q v w (from_low v least.has.has)
        (least.least w (reaches q w from ends child)) (to_high w child.has) child.upper)

    -- and where no candidate reaches the lower bound, none ever does
    pub none_from : ((v : ℤ) → ¬ IsCandidateFrom Has mark v) → (q : ℤ) → p ≤ℤ q → q ≤ℤ high → HasNone q
    none_from no_more q from ends w child = no_more w (reaches q w from ends child)

  pub none_from_unbounded : (p : ℤ) → low ≤ℤ p → AreThoseFrom low high (Lower p) None
      → (q : ℤ) → p ≤ℤ q → q ≤ℤ high → HasNone q
  none_from_unbounded p begins none q from ends w child =
      none w (from_low w child.has) (to_high w child.has) (lower_rises p q w begins from ends child.lower)
