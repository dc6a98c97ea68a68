-- How a field with signed atoms and the form of its values is stored.
use Rattle.std.specs.Prelude.{◌≡◌, ◌⊎◌, List, Option, None, Some, refl}
use Rattle.std.proofs.Common.{inl, inr}
use Rattle.std.specs.Coded.{Coded, code_by, coded×, coded⊎, coded_list, coded_option}
use Rattle.helix_profile.specs.declared.field.Field.{Field}
use Rattle.helix_profile.specs.contracts.field.Field.{the_row as field_row}
use Rattle.helix_values.specs.declared.cell.Cell.{Cell}
use Rattle.helix_values.specs.contracts.cell.Cell.{the_row as cell_row}
use Rattle.helix_words.specs.Words.{WordSet}
use Rattle.helix_words.specs.contracts.words.Words.{the_row as words_row}
use Rattle.helix_domains.specs.declared.atom.SignedAtom.{SignedAtom}
use Rattle.helix_domains.specs.contracts.atom.SignedAtom.{the_row as atom_row}
use Rattle.helix_domains.specs.Domain.{Restricted}
use Rattle.helix_domains.specs.Form.{Form, listed, on_grid, spelt}

abbrev pub parts_of_form : Form → List Cell ⊎ Option WordSet
parts_of_form (listed cells) = inl cells
parts_of_form on_grid = inr None
parts_of_form (spelt words) = inr (Some words)

abbrev pub form_of_parts : List Cell ⊎ Option WordSet → Form
form_of_parts (inl cells) = listed cells
form_of_parts (inr None) = on_grid
form_of_parts (inr (Some words)) = spelt words

pub same_form : (form : Form) → form_of_parts (parts_of_form form) ≡ form
same_form (listed cells) = refl
same_form on_grid = refl
same_form (spelt words) = refl

abbrev pub form_code : Coded Form
form_code =
    code_by (List Cell ⊎ Option WordSet) (coded⊎ (coded_list cell_row.coded) (coded_option words_row.coded))
    parts_of_form form_of_parts same_form

abbrev pub restricted_code : Coded Restricted
restricted_code =
    code_by (Field × (List SignedAtom × Form)) (coded× field_row.coded (coded× (coded_list atom_row.coded) form_code))
    (λ domain. (domain.field, (domain.atoms, domain.form)))
    (λ parts. record { field = parts.0; atoms = parts.1.0; form = parts.1.1 }) (λ _. refl)
