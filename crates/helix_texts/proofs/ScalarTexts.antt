-- The characters of values are Unicode scalar values.
use Rattle.std.proofs.Common.{◌≡◌, ℕ, true, List, [], ◌∷◌, refl, arith}
use Rattle.std.proofs.lemmas.Bool.Decides.{nat_tests}
use Rattle.std.specs.Char.{IsScalar}
use Rattle.std.specs.List.{All}
use Rattle.std.specs.Str.{all_scalars}
use Rattle.std.proofs.lemmas.Bool.{and_from}
use Rattle.std.proofs.lemmas.List.Elements.{All-weaker, All-head, All-tail}
use Rattle.helix_base.specs.declared.alphabet.Alphabet.TheVariants.{Unicode}
use Rattle.helix_base.specs.Alphabet.{IsCharacterOf}
use Rattle.helix_values.specs.declared.kind.Kind.{Kind}
use Rattle.helix_values.specs.declared.kind.Kind.TheVariants as kind
use Rattle.helix_values.specs.declared.cell.Cell.TheVariants as cell
use Rattle.helix_values.specs.Universe.{InUniverse}
use Rattle.helix_values.specs.UniverseLaws.{in_widest}

character_is_scalar : (c : ℕ) → IsCharacterOf Unicode c → IsScalar c
character_is_scalar c is = grind (arith, nat_tests)

scalars : (cs : List ℕ) → All IsScalar cs → all_scalars cs ≡ true
scalars [] all = refl
scalars (c ∷ cs) all = and_from _ _ (All-head IsScalar c cs all) (scalars cs (All-tail IsScalar c cs all))

in_unicode : (cs : List ℕ) → All (IsCharacterOf Unicode) cs → all_scalars cs ≡ true
in_unicode cs all = scalars cs (All-weaker (IsCharacterOf Unicode) IsScalar character_is_scalar cs all)

pub text_is_scalar : (k : Kind) (cs : List ℕ) → InUniverse k (cell.Text cs) → all_scalars cs ≡ true
text_is_scalar (kind.Text alphabet) cs within = in_unicode cs (in_widest (kind.Text alphabet) (cell.Text cs) within).1
text_is_scalar (kind.Code code) cs within = in_unicode cs (in_widest (kind.Code code) (cell.Text cs) within).1
text_is_scalar other cs within = absurd within
