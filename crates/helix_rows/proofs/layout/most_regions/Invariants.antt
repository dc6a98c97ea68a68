use Rattle.std.proofs.Common.{ℕ, ◌≤◌, length, take}
use Rattle.std.specs.List.{All}
use Rattle.helix_rows.proofs.layout.most_regions.Given as goal

abbrev pub invariant-loop-part : goal.invariant-loop-part
invariant-loop-part l = record {
  few : All (λ part. length part.regions ≤ l.most) (take l.part-index l.parts);
  least : (bound : ℕ) → All (λ part. length part.regions ≤ bound) l.parts → l.most ≤ bound;
}
