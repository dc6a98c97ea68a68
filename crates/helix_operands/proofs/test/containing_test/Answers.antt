use Rattle.std.proofs.Common.{Option, refl, subst}
use Rattle.helix_expr.specs.declared.regex.Regex.{Regex}
use Rattle.helix_operands.specs.Values.{GivesPattern, Reads}
use Rattle.helix_operands.proofs.test.containing_test.Goals as goal

pub returns-in-Some : goal.returns-in-Some
returns-in-Some c = let P : Option Regex → Type 0 = λ found. Reads (GivesPattern c.args.operand.now) found in
    (c.in-Some.regex, subst P c.in-Some.is c.in_ok-regex.ensures, refl)
