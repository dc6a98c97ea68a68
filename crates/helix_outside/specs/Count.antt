-- Counts of faults. A count never falls, and stays at its last value.
use Rattle.std.specs.Prelude.{◌≡◌, ℕ, ◌≤◌, Bool, Result, OnOk, OnErr, MatchBool}
use Rattle.helix_base.specs.Count.{raised}

-- the count rose: it is greater than before, or is at its last value
abbrev pub Rose : ℕ → ℕ → Type 0
Rose old new = raised old ≤ new

-- how a call counts: it leaves the count at Ok, and raises it where it fails, unless that failure isn't counted
pub record Counts {T E : Type 0} (result : Result T E) (uncounted : Bool) (old new : ℕ) : Type 0 where
  pub grows : old ≤ new
  pub ok : OnOk result (new ≡ old)
  pub failed : OnErr result (MatchBool uncounted (new ≡ old) (Rose old new))
