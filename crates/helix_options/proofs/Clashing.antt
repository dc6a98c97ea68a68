-- Signed tests that clash don't both hold of one value.
use Rattle.std.proofs.Common.{◌≡◌, ℤ, Bool, true, false, not, ◌&&◌, ◌||◌, ◌<ℤ◌, ◌≤ℤ◌, ◌⊎◌, inl, inr, MatchBool, Option, None, Some, T, ⊎_elim, sym, subst, arith}
use Rattle.std.proofs.lemmas.Bool.{false≢true}
use Rattle.std.specs.Int.Signed.{lt_z, le_z}
use Rattle.std.proofs.lemmas.Int.{by_lt_z, ints}
use Rattle.helix_profile.specs.Holds.{Holds}
use Rattle.helix_profile.specs.Satisfaction.{Signed}
use Rattle.helix_profile.specs.declared.test.Test.{Test}
use Rattle.helix_profile.specs.declared.test.Test.TheVariants as test
use Rattle.helix_tree.specs.TestDecisionLaws.{dec_holds}
use Rattle.helix_options.proofs.Truth.{and-left, and-right, either-true}
use Rattle.helix_options.specs.Inner.Clashes.{decided, is_quick, both_or_none, fixes_against, bound_at, bound_of, none_between, apart, bounds_against, clash}
use Rattle.helix_options.specs.declared.clash.Bound.{Bound}
use Rattle.helix_values.specs.declared.cell.Cell.{Cell}
use Rattle.helix_values.specs.declared.cell.Cell.TheVariants as cell

wrong : (sign : Bool) {A : Type 0} (d : Dec A) → not (both_or_none sign (decided d)) ≡ true → Signed sign A → ⊥
wrong true (yes a) differs holds = absurd (false≢true differs)
wrong true (no none) differs holds = none holds
wrong false (yes a) differs holds = holds a
wrong false (no none) differs holds = absurd (false≢true differs)

fixed : (v : Cell) (first : Test) (own : Bool) (other : Test) (sign : Bool)
    → fixes_against first own other sign ≡ true → Signed own (Holds first v) → Signed sign (Holds other v) → ⊥
unfolding Rattle.helix_options.specs.Inner.Clashes.fixes_against
fixed v (test.EqualTo operand) true other sign against is holds = wrong sign (dec_holds other operand)
    (and-right (is_quick other) (not (both_or_none sign (decided (dec_holds other operand)))) against)
    (subst (λ w. Signed sign (Holds other w)) is holds)
fixed v (test.EqualTo operand) false other sign against is holds = absurd (false≢true against)
fixed v first own other sign against is holds = absurd (false≢true against)

-- a number that a bound lets pass
abbrev Allows : Bool → Bool → ℤ → ℤ → Type 0
Allows true true at x = x <ℤ at
Allows true false at x = x ≤ℤ at
Allows false true at x = at <ℤ x
Allows false false at x = at ≤ℤ x

not_below : (a b : ℤ) → ¬ (a <ℤ b) → b ≤ℤ a
not_below a b not = by_lt_z a b (λ below. absurd (not below)) (λ least. least)

not_above : (a b : ℤ) → ¬ (a ≤ℤ b) → b <ℤ a
not_above a b not = by_lt_z b a (λ below. below) (λ least. absurd (not least))

above : (sign : Bool) (at x : ℤ) → Signed sign (at <ℤ x) → Allows (not sign) sign at x
above true at x holds = holds
above false at x fails = not_below at x fails

at_least : (sign : Bool) (at x : ℤ) → Signed sign (at ≤ℤ x) → Allows (not sign) (not sign) at x
at_least true at x holds = holds
at_least false at x fails = not_above at x fails

below : (sign : Bool) (at x : ℤ) → Signed sign (x <ℤ at) → Allows sign sign at x
below true at x holds = holds
below false at x fails = not_below x at fails

at_most : (sign : Bool) (at x : ℤ) → Signed sign (x ≤ℤ at) → Allows sign (not sign) at x
at_most true at x holds = holds
at_most false at x fails = not_above x at fails

-- what a bound says of a value, where it is one that is compared with it
abbrev Within : Option Bound → Cell → Type 0
Within None v = Unit {0}
Within (Some b) (cell.Number x) = MatchBool b.moments (Unit {0}) (Allows b.upper b.excluded b.at x)
Within (Some b) (cell.Moment x) = MatchBool b.moments (Allows b.upper b.excluded b.at x) (Unit {0})
Within (Some b) v = Unit {0}

-- and that it is one
abbrev Compared : Option Bound → Cell → Type 0
Compared None v = Unit {0}
Compared (Some b) (cell.Number x) = MatchBool b.moments ⊥ (Unit {0})
Compared (Some b) (cell.Moment x) = MatchBool b.moments (Unit {0}) ⊥
Compared (Some b) v = ⊥

within : (t : Test) (v : Cell) (sign : Bool) → Signed sign (Holds t v) → Within (bound_of t sign) v
unfolding Rattle.helix_options.specs.Inner.Clashes.bound_of
within (test.Above (cell.Number at)) (cell.Number x) sign holds = above sign at x holds
within (test.Above (cell.Moment at)) (cell.Moment x) sign holds = above sign at x holds
within (test.AtLeast (cell.Number at)) (cell.Number x) sign holds = at_least sign at x holds
within (test.AtLeast (cell.Moment at)) (cell.Moment x) sign holds = at_least sign at x holds
within (test.Below (cell.Number at)) (cell.Number x) sign holds = below sign at x holds
within (test.Below (cell.Moment at)) (cell.Moment x) sign holds = below sign at x holds
within (test.AtMost (cell.Number at)) (cell.Number x) sign holds = at_most sign at x holds
within (test.AtMost (cell.Moment at)) (cell.Moment x) sign holds = at_most sign at x holds
within t v sign holds = tt

is_compared : (t : Test) (v : Cell) → Holds t v → Compared (bound_of t true) v
unfolding Rattle.helix_options.specs.Inner.Clashes.bound_of
is_compared (test.Above (cell.Number at)) (cell.Number x) holds = tt
is_compared (test.Above (cell.Moment at)) (cell.Moment x) holds = tt
is_compared (test.Above (cell.Number at)) v holds = absurd holds
is_compared (test.Above (cell.Moment at)) v holds = absurd holds
is_compared (test.AtLeast (cell.Number at)) (cell.Number x) holds = tt
is_compared (test.AtLeast (cell.Moment at)) (cell.Moment x) holds = tt
is_compared (test.AtLeast (cell.Number at)) v holds = absurd holds
is_compared (test.AtLeast (cell.Moment at)) v holds = absurd holds
is_compared (test.Below (cell.Number at)) (cell.Number x) holds = tt
is_compared (test.Below (cell.Moment at)) (cell.Moment x) holds = tt
is_compared (test.Below (cell.Number at)) v holds = absurd holds
is_compared (test.Below (cell.Moment at)) v holds = absurd holds
is_compared (test.AtMost (cell.Number at)) (cell.Number x) holds = tt
is_compared (test.AtMost (cell.Moment at)) (cell.Moment x) holds = tt
is_compared (test.AtMost (cell.Number at)) v holds = absurd holds
is_compared (test.AtMost (cell.Moment at)) v holds = absurd holds
is_compared t v holds = tt

at_most_is : (a b : ℤ) → le_z a b ≡ true → a ≤ℤ b
at_most_is a b e = record { le = subst T (sym e) tt }

below_is : (a b : ℤ) → lt_z a b ≡ true → a <ℤ b
below_is a b e = record { lt = subst T (sym e) tt }

-- no number is between two bounds that leave nothing between them
empty : (one other : Bool) (low high x : ℤ) → none_between (one || other) low high ≡ true → Allows false one low x
    → Allows true other high x → ⊥
empty true true low high x none above below = let apart : high ≤ℤ low = at_most_is high low none in omega (arith, ints)
empty true false low high x none above below = let apart : high ≤ℤ low = at_most_is high low none in omega (arith, ints)
empty false true low high x none above below = let apart : high ≤ℤ low = at_most_is high low none in omega (arith, ints)
empty false false low high x none above below = let apart : high <ℤ low = below_is high low none in omega (arith, ints)

-- a value that both bounds are compared with, and that both let pass
no_value : (v : Cell) (low high : Option Bound) → apart low high ≡ true → Within low v → Within high v
    → Compared low v ⊎ Compared high v → ⊥
no_value v None high apart_is low_in high_in compared = absurd (false≢true apart_is)
no_value v (Some low) None apart_is low_in high_in compared = absurd (false≢true apart_is)
no_value v (Some low) (Some high) apart_is low_in high_in compared =
    let last : Bool = none_between (low.excluded || high.excluded) low.at high.at in
    let classes : Bool = both_or_none low.moments high.moments in
    let sides : Bool = not low.upper && high.upper in
    let first_three : (sides && classes) ≡ true = and-left (sides && classes) last apart_is in
    let first_two : sides ≡ true = and-left sides classes first_three in
    by_class v low.upper low.excluded low.moments low.at high.upper high.excluded high.moments high.at
    (and-left (not low.upper) high.upper first_two) (and-right (not low.upper) high.upper first_two)
    (and-right sides classes first_three) (and-right (sides && classes) last apart_is) low_in high_in compared
  where
    by_class : (v : Cell) (lu lo lm : Bool) (la : ℤ) (hu ho hm : Bool) (ha : ℤ) → not lu ≡ true → hu ≡ true
        → both_or_none lm hm ≡ true → none_between (lo || ho) la ha ≡ true
        → Within (Some (record { upper = lu; excluded = lo; moments = lm; at = la })) v
        → Within (Some (record { upper = hu; excluded = ho; moments = hm; at = ha })) v
        → Compared (Some (record { upper = lu; excluded = lo; moments = lm; at = la })) v
        ⊎ Compared (Some (record { upper = hu; excluded = ho; moments = hm; at = ha })) v → ⊥
    by_class v true lo lm la hu ho hm ha e f g none l h c = absurd (false≢true e)
    by_class v false lo lm la false ho hm ha e f g none l h c = absurd (false≢true f)
    by_class v false lo true la true ho false ha e f g none l h c = absurd (false≢true g)
    by_class v false lo false la true ho true ha e f g none l h c = absurd (false≢true g)
    by_class (cell.Number x) false lo false la true ho false ha e f g none l h c = empty lo ho la ha x none l h
    by_class (cell.Moment x) false lo true la true ho true ha e f g none l h c = empty lo ho la ha x none l h
    by_class (cell.Number x) false lo true la true ho true ha e f g none l h c = ⊎_elim (λ n. n) (λ n. n) c
    by_class (cell.Moment x) false lo false la true ho false ha e f g none l h c = ⊎_elim (λ n. n) (λ n. n) c
    by_class v false lo lm la true ho hm ha e f g none l h c = ⊎_elim (λ n. absurd n) (λ n. absurd n) c

bounded : (v : Cell) (first : Test) (own : Bool) (other : Test) (sign : Bool)
    → bounds_against first own other sign ≡ true → Signed own (Holds first v) → Signed sign (Holds other v) → ⊥
unfolding Rattle.helix_options.specs.Inner.Clashes.bounds_against
bounded v first true other sign against is holds =
    no_value v (bound_of first true) (bound_of other sign) against (within first v true is) (within other v sign holds)
    (inl (is_compared first v is))
bounded v first false other true against is holds =
    no_value v (bound_of first false) (bound_of other true) against (within first v false is)
    (within other v true holds) (inr (is_compared other v holds))
bounded v first false other false against is holds = absurd (false≢true against)

-- two tests that clash
pub not_both : (v : Cell) (first : Test) (own : Bool) (other : Test) (sign : Bool) → clash first own other sign ≡ true
    → Signed own (Holds first v) → Signed sign (Holds other v) → ⊥
not_both v first own other sign clashes is holds =
    let fixes : Bool = fixes_against first own other sign || fixes_against other sign first own in
    ⊎_elim
    (λ first_three. ⊎_elim
    (λ first_two. ⊎_elim
    (λ against. fixed v first own other sign against is holds)
    (λ against. fixed v other sign first own against holds is)
    (either-true (fixes_against first own other sign) (fixes_against other sign first own) first_two))
    (λ against. bounded v first own other sign against is holds)
    (either-true fixes (bounds_against first own other sign) first_three))
    (λ against. bounded v other sign first own against holds is)
    (either-true (fixes || bounds_against first own other sign) (bounds_against other sign first own) clashes)
