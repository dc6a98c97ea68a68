use Rattle.helix_relations.specs.RegionLaws.{region_extends, region_has_rows}
use Rattle.helix_relations.specs.RowLaws.{same_row}
use Rattle.helix_relations.proofs.laws.cells_of_a_region.Goals as goal

pub returns-clause-extends : goal.returns-clause-extends
returns-clause-extends c = λ region is prefix level within. region_extends region is prefix level within

pub returns-clause-has_rows : goal.returns-clause-has_rows
returns-clause-has_rows c = λ region is. region_has_rows region is

pub returns-clause-by_fields : goal.returns-clause-by_fields
returns-clause-by_fields c = λ region is row other. same_row row other region is
