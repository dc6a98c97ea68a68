use Rattle.helix_relations.specs.PieceLaws.{piece_is_row, begins_piece, extends_piece}
use Rattle.helix_relations.proofs.laws.pieces_of_a_region.Goals as goal

pub returns-clause-rows : goal.returns-clause-rows
returns-clause-rows c = piece_is_row

pub returns-clause-begins : goal.returns-clause-begins
returns-clause-begins c = begins_piece

pub returns-clause-extends : goal.returns-clause-extends
returns-clause-extends c = extends_piece
