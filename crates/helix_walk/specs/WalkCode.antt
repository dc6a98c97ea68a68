-- How the content of a walk is stored.
use Rattle.std.specs.Prelude.{ℕ, List, Option, refl}
use Rattle.std.specs.Coded.{Coded, code_by, coded×, coded_list, coded_option, coded_ℕ}
use Rattle.helix_relations.specs.Region.{RegionContent}
use Rattle.helix_relations.specs.RegionCode.{region_code}
use Rattle.helix_rows.specs.Parts.{Walk}
use Rattle.helix_rows.specs.contracts.part.Part.{the_row as part_row}
use Rattle.helix_rows.specs.declared.part.Part.{Part}
use Rattle.helix_values.specs.contracts.cell.Cell.{the_row as cell_row}
use Rattle.helix_values.specs.declared.cell.Cell.{Cell}

abbrev pub walk_code : Coded (Walk RegionContent)
walk_code =
    code_by (List Part × (List RegionContent × (ℕ × Option (List Cell))))
    (coded× (coded_list part_row.coded)
    (coded× (coded_list region_code) (coded× coded_ℕ (coded_option (coded_list cell_row.coded)))))
    (λ walk. (walk.parts, (walk.regions, (walk.fields, walk.place))))
    (λ parts. record { parts = parts.0; regions = parts.1.0; fields = parts.1.1.0; place = parts.1.1.1 }) (λ _. refl)
