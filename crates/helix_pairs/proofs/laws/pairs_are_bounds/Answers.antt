use Rattle.std.proofs.Common.{slice_index_or}
use Rattle.helix_pairs.specs.BoundLaws.{related_by_bounds}
use Rattle.helix_pairs.proofs.laws.pairs_are_bounds.Goals as goal

pub returns : goal.returns
returns g c =
    λ p v.
    let each = λ (b : _). related_by_bounds b.comparison b.child (g.S.Shift.applied b.shift) p v in (
      λ all. (
        λ k d below. ((each (slice_index_or c.args.bounds.now k d)).0 (all k d below)).0,
        λ k d below. ((each (slice_index_or c.args.bounds.now k d)).0 (all k d below)).1,
        λ k d below. ((each (slice_index_or c.args.bounds.now k d)).0 (all k d below)).2,
      ),
      λ parts k d below. (each (slice_index_or c.args.bounds.now k d)).1 (
        parts.0 k d below,
        parts.1 k d below,
        parts.2 k d below,
      ),
    )
