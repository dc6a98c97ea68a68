-- Which regions of the paths of a part are kept.
use Rattle.std.specs.Prelude.{◌≡◌, ℕ, Bool, if◌then◌else◌, List, [], ◌∷◌, ◌++◌}
use Rattle.std.specs.Bool.{Decides}
use Rattle.helix_profile.specs.Content.{Content}
use Rattle.helix_relations.specs.Region.{RegionContent, IsRegionRow}
use Rattle.helix_tree.specs.declared.literal.Literal.{Literal}
use Rattle.helix_values.specs.declared.cell.Cell.{Cell}
use Rattle.helix_options.specs.Inner.Narrowing.{IsRegionOf}

-- the region has a row
abbrev pub HasRow : RegionContent → Type 0
HasRow region = (row : List Cell) × IsRegionRow region row

-- at most the count of questions has changed
abbrev pub IsSameButAsked : RegionContent → RegionContent → Type 0
IsSameButAsked old new = new ≡ record old { asked = new.asked }

-- the region of a path is appended where it has a row
pub record AddsRegion (profile : Content) (fields : List ℕ) (path : List Literal) (old new : List RegionContent) :
    Type 0 where
  pub region : RegionContent
  pub is : IsRegionOf profile fields path region
  pub has : Bool
  pub decides : Decides has (HasRow region)
  pub kept : new ≡ (if has then old ++ region ∷ [] else old)
