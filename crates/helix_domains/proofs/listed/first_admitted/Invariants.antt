use Rattle.std.proofs.Common.{◌≤◌, ◌-◌, length}
use Rattle.std.specs.List.{AllWithin}
use Rattle.helix_values.specs.Marks.{IsAdmitted}
use Rattle.helix_domains.proofs.listed.first_admitted.Given as goal

abbrev pub invariant-loop-low : goal.invariant-loop-low
invariant-loop-low l = record {
  ordered : l.low ≤ l.high;
  within : l.high ≤ length l.cells;
  before : AllWithin (λ cell. ¬ IsAdmitted l.mark cell) l.cells 0 l.low;
  from : AllWithin (IsAdmitted l.mark) l.cells l.high (length l.cells);
}

abbrev pub decreases-loop-low : goal.decreases-loop-low
decreases-loop-low l = l.high - l.low
