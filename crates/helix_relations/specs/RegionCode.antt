-- How the content of a region is stored.
use Rattle.std.specs.Prelude.{ℕ, Bool, List, refl}
use Rattle.std.specs.Coded.{Coded, code_by, coded×, coded_list, coded_ℕ, coded_bool}
use Rattle.helix_profile.specs.declared.field.Field.{Field}
use Rattle.helix_profile.specs.contracts.field.Field.{the_row as field_row}
use Rattle.helix_domains.specs.declared.atom.SignedAtom.{SignedAtom}
use Rattle.helix_domains.specs.contracts.atom.SignedAtom.{the_row as atom_row}
use Rattle.helix_relations.specs.declared.signed.SignedRelation.{SignedRelation}
use Rattle.helix_relations.specs.contracts.signed.SignedRelation.{the_row as relation_row}
use Rattle.helix_relations.specs.Region.{RegionField, RegionContent}

abbrev pub field_code : Coded RegionField
field_code =
    code_by (ℕ × (Field × (Bool × (Bool × List SignedAtom))))
    (coded× coded_ℕ (coded× field_row.coded (coded× coded_bool (coded× coded_bool (coded_list atom_row.coded)))))
    (λ field. (field.number, (field.field, (field.no_null, (field.only_null, field.atoms)))))
    (λ parts. record {
      number = parts.0;
      field = parts.1.0;
      no_null = parts.1.1.0;
      only_null = parts.1.1.1.0;
      atoms = parts.1.1.1.1;
    })
    (λ _. refl)

abbrev pub region_code : Coded RegionContent
region_code =
    code_by (List RegionField × (List SignedRelation × ℕ))
    (coded× (coded_list field_code) (coded× (coded_list relation_row.coded) coded_ℕ))
    (λ region. (region.fields, (region.relations, region.asked)))
    (λ parts. record { fields = parts.0; relations = parts.1.0; asked = parts.1.1 }) (λ _. refl)
