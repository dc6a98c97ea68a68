use Rattle.std.proofs.Common.{ℤ, [], ◌∷◌, take, slice_index_or, Option, None}
use Rattle.std.proofs.lemmas.List.{get_or_default}
use Rattle.helix_rows.proofs.Listing.{more_pairs}
use Rattle.helix_rows.specs.Regions.{piece}
use Rattle.helix_rows.proofs.tests.pairs.PairsRegion.least.Goals as goal

pub loop-pair-preserved : goal.loop-pair-preserved
loop-pair-preserved g c =
    let pair : Option ℤ × Option ℤ = slice_index_or c.as_slice-rows.result.now c.loop-pair.pair-index (None, None) in
    more_pairs c.as_slice-rows.result.now c.loop-pair.pair-index pair c.loop-pair-test.true
    (get_or_default c.as_slice-rows.result.now c.loop-pair.pair-index pair (None, None) c.loop-pair-test.true)
    (piece (take c.args.level (c.args.self.now.fields.0 ∷ c.args.self.now.fields.1 ∷ [])) c.args.prefix.now) c.args.mark
    c.next_of-next.result c.next_of-next.ensures c.loop-pair.found c.take_less-found.result c.args.out.now
    c.loop-pair.out
    c.take_less-found.new.out c.take_less-found.ensures c.loop-pair.invariant
