-- A search for the least value on one grid and off another, that goes on after a value on both.
use Rattle.std.proofs.Common.{rules, ◌≡◌, ◌<◌, ℕ, ◌+◌, ◌-◌, ℤ, pos, ◌+ℤ◌, ◌≤ℤ◌, ◌<ℤ◌, FitsSigned, arith, subst}
use Rattle.std.specs.Int.{w128}
use borrow.Author.Differences.{up, down}
use Rattle.std.proofs.lemmas.Int.{ints, by_lt_z}
use Rattle.helix_ladders.specs.Scale.{IsLeast}
use Rattle.helix_grids.specs.Inner.Window.{IsBetween}

-- what is sought, from a bound on
abbrev pub Sought : ℤ → ℤ → (ℤ → Type 0) → (ℤ → Type 0) → ℤ → ℤ → Type 0
Sought low most On Off bound v = IsBetween low most (λ w. On w × (¬ Off w)) bound v

-- no value that is sought lies before the index that the search has reached
pub record HasSearched (low most : ℤ) (On Off : ℤ → Type 0) (bound from : ℤ) : Type 0 where
  pub begun : bound ≤ℤ from
  pub reached : (v : ℤ) → Sought low most On Off bound v → from ≤ℤ v

-- a value on the second grid is none that is sought
pub beyond : (value v : ℤ) (Off : ℤ → Type 0) → Off value → ¬ Off v → value ≤ℤ v → value <ℤ v
beyond value v Off off others above =
    by_lt_z value v (λ less. less) (λ below. let same : value ≡ v = omega (arith, ints) in
    absurd (others (subst Off same off)))

module _ (low most : ℤ) (On Off : ℤ → Type 0) (bound from : ℤ) (searched : HasSearched low most On Off bound from) where
  -- a value that is sought is on the first grid, at or after the index that is reached
  pub sought_on : (v : ℤ) → Sought low most On Off bound v → IsBetween low most On from v
  sought_on v has = record {
    from_low = has.from_low;
    to_most = has.to_most;
    on_grid = has.on_grid.0;
    reached = searched.reached v has;
  }

  -- what is sought lies after a least value on the first grid that is on the second one too
  sought_after : (value v : ℤ) → IsLeast (IsBetween low most On from) value → Off value →
      Sought low most On Off bound v → value <ℤ v
  sought_after value v least off has = beyond value v Off off has.on_grid.1 (least.least v (sought_on v has))

  -- the search goes on after such a value
  pub searched_after : (value : ℤ) → IsLeast (IsBetween low most On from) value → Off value →
      HasSearched low most On Off bound (value +ℤ pos 1)
  searched_after value least off = record {
    begun = omega (arith, ints, searched.begun, least.has.reached);
    reached = λ v has. omega (arith, ints, sought_after value v least off has);
  }

  -- a least value on the first grid that isn't on the second one is the least that is sought
  pub found : (value : ℤ) → IsLeast (IsBetween low most On from) value → ¬ Off value →
      IsLeast (Sought low most On Off bound) value
  found value least apart = record {
    has = record {
      from_low = least.has.from_low;
      to_most = least.has.to_most;
      on_grid = (least.has.on_grid, apart);
      reached = omega (arith, ints, searched.begun, least.has.reached);
    };
    least = λ v has. least.least v (sought_on v has);
  }

  -- nothing is sought after the last value of the range
  pub none_after : (value : ℤ) → most ≤ℤ value → IsLeast (IsBetween low most On from) value → Off value → (v : ℤ) →
      ¬ Sought low most On Off bound v
  none_after value last least off v has =
      let later : value <ℤ v = sought_after value v least off has in
      let within : v ≤ℤ most = has.to_most in
      absurd (omega (arith, ints))

-- the number after one that is below a number of 128 bits has 128 bits
pub next_fits : (value most : ℤ) → value <ℤ most → FitsSigned w128 value → FitsSigned w128 most →
    FitsSigned w128 (value +ℤ pos 1)
next_fits value most below fits most_fits = search (rules, ints)

-- how far a number is below another
abbrev pub distance : ℤ → ℤ → ℕ
distance a b = (up b + down a) - (up a + down b)

-- the search comes nearer to the end of the range
pub comes_nearer : (low most : ℤ) (On : ℤ → Type 0) (from value : ℤ) → IsLeast (IsBetween low most On from) value →
    value <ℤ most → distance (value +ℤ pos 1) (most +ℤ pos 1) < distance from (most +ℤ pos 1)
comes_nearer low most On from value least below = let reached : from ≤ℤ value = least.has.reached in omega (arith, ints)
