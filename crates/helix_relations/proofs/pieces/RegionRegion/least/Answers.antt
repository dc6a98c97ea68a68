use Rattle.std.proofs.Common.{take, arith}
use Rattle.std.proofs.lemmas.List.{length-map}
use Rattle.helix_rows.specs.Regions.{piece, Continues}
use Rattle.helix_relations.specs.PieceLaws.{extends_piece}
use Rattle.helix_relations.specs.Pieces.{IsRegionPiece}
use Rattle.helix_relations.specs.Region.{numbers_of, ExtendsTo}
use Rattle.helix_relations.proofs.Beginning.{answer_alike}
use Rattle.helix_relations.proofs.Walkable.{prefix_askable, level_mark}
use Rattle.helix_relations.proofs.pieces.RegionRegion.least.Goals as goal

pub least-requires-clause-prefix : goal.least-requires-clause-prefix
least-requires-clause-prefix g c = prefix_askable c.args.self.now.fields c.args.level c.args.prefix.now
    c.requires.fields c.requires.cells

pub least-requires-clause-mark : goal.least-requires-clause-mark
least-requires-clause-mark g c = level_mark c.args.self.now.fields c.args.level c.args.mark c.requires.mark

pub returns-clause-answer : goal.returns-clause-answer
returns-clause-answer g c = answer_alike (ExtendsTo c.args.self.now c.args.prefix.now c.args.level)
    (Continues (IsRegionPiece c.args.self.now)
    (piece (take c.args.level (numbers_of c.args.self.now.fields)) c.args.prefix.now))
    (extends_piece c.args.self.now c.args.prefix.now c.args.level
    (let same = length-map c.args.self.now.fields (λ field. field.number) in let below = c.requires.level in
    omega (arith, same, below)))
    c.args.mark c.least.result c.args.out.now c.least.new.out c.least.ensures.answer
