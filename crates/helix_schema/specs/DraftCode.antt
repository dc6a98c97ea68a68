-- How a draft is stored.
use Rattle.std.specs.Prelude.{List, refl}
use Rattle.std.specs.Coded.{Coded, code_by, coded×, coded_list}
use Rattle.helix_base.specs.contracts.alphabet.Alphabet.{the_row as alphabet_row}
use Rattle.helix_base.specs.declared.alphabet.Alphabet.{Alphabet}
use Rattle.helix_json.specs.contracts.value.Json.{the_row as json_row}
use Rattle.helix_json.specs.declared.value.Json.{Json}
use Rattle.helix_schema.specs.contracts.wish.Wish.{the_row as wish_row}
use Rattle.helix_schema.specs.declared.wish.Wish.{Wish}
use Rattle.helix_schema.specs.Drafts.{Drafted}

abbrev pub drafted_code : Coded Drafted
drafted_code =
    code_by (Alphabet × (Json × List Wish))
    (coded× alphabet_row.coded (coded× json_row.coded (coded_list wish_row.coded)))
    (λ draft. (draft.alphabet, (draft.value, draft.wishes)))
    (λ parts. record { alphabet = parts.0; value = parts.1.0; wishes = parts.1.1 }) (λ _. refl)
