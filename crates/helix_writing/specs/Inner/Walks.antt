-- A walk over the good rows of a profile.
use Rattle.std.specs.Prelude.{◌↔◌, List}
use Rattle.helix_profile.specs.Content.{Content}
use Rattle.helix_profile.specs.Good.{IsGood}
use Rattle.helix_relations.specs.Pieces.{IsRegionPiece}
use Rattle.helix_relations.specs.Region.{RegionContent}
use Rattle.helix_rows.specs.Parts.{Walk, InWalk}
use Rattle.helix_values.specs.declared.cell.Cell.{Cell}
use Rattle.helix_walk.specs.Fields.{IsWalkOver}

-- its rows are the good ones, and its fields those of the profile
pub record IsWalkOf (profile : Content) (walk : Walk RegionContent) : Type 0 where
  pub rows : (row : List Cell) → InWalk IsRegionPiece walk row ↔ IsGood profile row
  pub over : IsWalkOver profile.fields walk
