use Rattle.helix_relations.specs.PieceLaws.{piece_is_row}
use Rattle.helix_relations.specs.Pieces.{IsRegionPiece}
use Rattle.helix_walk.proofs.AllParts.{good_in_parts}
use Rattle.helix_walk.proofs.laws.good_rows_in_parts.Goals as goal

pub returns : goal.returns
returns c = λ profile groups regions parts partition are row.
    good_in_parts profile regions IsRegionPiece piece_is_row groups parts partition are row
