-- Bytes spell at most one value.
use Rattle.std.proofs.Common.{◌≡◌, ℕ, List, sym, ◌∙◌, subst}
use Rattle.std.proofs.lemmas.Str.{encodes_same}
use Rattle.helix_json.specs.declared.value.Json.{Json}
use Rattle.helix_json.specs.Text.{SpellsText}
use Rattle.helix_json.specs.Broken.{SpellsJson}
use Rattle.helix_json.proofs.Lexing.{one_value}

pub one_value_of_bytes : (bytes : List ℕ) (v w : Json) → SpellsJson bytes v → SpellsJson bytes w → v ≡ w
one_value_of_bytes bytes v w (text, are, spells) (other, others, spells_other) =
    one_value other v w (subst (λ t. SpellsText t v) (encodes_same text other (sym are.1 ∙ others.1)) spells)
    spells_other
