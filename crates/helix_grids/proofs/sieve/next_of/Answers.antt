use Rattle.std.proofs.Common.{rules, ◌-◌, pos, get_or, length-set, FitsSigned, to_z-of_z, arith}
use Rattle.std.specs.Int.{w128}
use Rattle.helix_grids.proofs.Sieves.{next_above, one_more}
use Rattle.helix_grids.proofs.sieve.next_of.Goals as goal

pub first_sifted_above-requires-clause-next : goal.first_sifted_above-requires-clause-next
first_sifted_above-requires-clause-next g c =
    let fits : FitsSigned w128 (get_or c.args.excluded.now (c.loop-index.index - 1) (pos 0)) = search rules in
    rw c.as_slice.ensures.value (simp to_z-of_z
    (next_above _ _ _ _ _ c.loop-index.index (pos 0) (omega arith) c.requires.ascending (omega arith)
    c.loop-index.invariant.right))

pub loop-index-preserved : goal.loop-index-preserved
loop-index-preserved g c =
    let fits : FitsSigned w128 (get_or c.args.excluded.now (c.loop-index.index - 1) (pos 0)) = search rules in
    record {
      same_length = simp length-set c.loop-index.invariant.same_length;
      right = one_more _ _ _ c.loop-index.next.items (c.loop-index.index - 1) c.loop-index.index (pos 0) _ (omega arith)
          c.loop-index.invariant.same_length (omega arith) (simp to_z-of_z at c.first_sifted_above.ensures)
          c.loop-index.invariant.right;
    }
