use Rattle.std.proofs.Common.{[], ◌∷◌, take}
use Rattle.helix_rows.specs.Inner.Listing.{IsListed}
use Rattle.helix_rows.specs.Regions.{piece, Continues}
use Rattle.helix_words.specs.Questions.{IsLeastAnswer}
use Rattle.helix_rows.proofs.tests.pairs.PairsRegion.least.Given as goal

abbrev pub invariant-loop-pair : goal.invariant-loop-pair
invariant-loop-pair g l =
    IsLeastAnswer (Continues (IsListed (take l.pair-index l.rows))
    (piece (take l.level (l.fn.self.fields.0 ∷ l.fn.self.fields.1 ∷ [])) l.prefix)) l.mark l.found l.fn.out l.out
