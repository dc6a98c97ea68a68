-- The classes of regions' fields.
use Rattle.std.specs.Prelude.{List}
use Rattle.helix_relations.specs.Pieces.{classes_of}
use Rattle.helix_relations.specs.Region.{RegionContent}
use Rattle.helix_values.specs.Class.{Class}

-- the classes of a region's fields
abbrev pub region_classes : RegionContent → List Class
region_classes region = classes_of region.fields
