use Rattle.std.proofs.Common.{take, arith}
use Rattle.std.proofs.lemmas.List.{length-map}
use Rattle.helix_rows.specs.Regions.{piece, Continues, cell_at, number_at}
use Rattle.helix_relations.specs.PieceLaws.{begins_piece, extends_piece}
use Rattle.helix_relations.specs.Pieces.{IsRegionPiece}
use Rattle.helix_relations.specs.Region.{numbers_of, ExtendsTo}
use Rattle.helix_relations.proofs.Stepping.{step_alike}
use Rattle.helix_relations.proofs.Walkable.{level_own}
use Rattle.helix_relations.proofs.pieces.RegionRegion.step.Goals as goal

pub step-requires-clause-begun : goal.step-requires-clause-begun
step-requires-clause-begun g c = (begins_piece c.args.self.now c.args.row.now c.args.level).1 c.requires.begun

pub step-requires-clause-own : goal.step-requires-clause-own
step-requires-clause-own g c = level_own c.args.self.now.fields c.args.level c.args.row.now c.args.question
    c.requires.own

pub returns-clause-answer : goal.returns-clause-answer
returns-clause-answer g c = step_alike (ExtendsTo c.args.self.now c.args.row.now c.args.level)
    (Continues (IsRegionPiece c.args.self.now)
    (piece (take c.args.level (numbers_of c.args.self.now.fields)) c.args.row.now))
    (extends_piece c.args.self.now c.args.row.now c.args.level
    (let same = length-map c.args.self.now.fields (λ field. field.number) in let below = c.requires.level in
    omega (arith, same, below)))
    c.args.question c.step.result
    (cell_at c.args.row.now (number_at (numbers_of c.args.self.now.fields) c.args.level))
    (cell_at c.step.new.row (number_at (numbers_of c.args.self.now.fields) c.args.level)) c.step.ensures.step.answer
