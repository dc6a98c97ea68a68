use Rattle.std.proofs.Common.{List, [], take}
use Rattle.helix_json.specs.declared.token.Token.{Token}
use Rattle.helix_json.specs.declared.string.StringState.TheVariants as state
use Rattle.helix_json.specs.Inner.StringSteps.{Fine}
use Rattle.helix_json.specs.Inner.Lexer.{in_string}
use Rattle.helix_json.specs.Inner.Machine.{Reading}
use Rattle.helix_json.specs.Inner.Scan.{HasRead}
use Rattle.helix_json.proofs.lexeme.read_string.Given as goal

abbrev pub invariant-loop-i : goal.invariant-loop-i
invariant-loop-i l = Fine l.state × ((ds : List Token) (r : Reading)
    → HasRead (take l.from l.codes) ds r (in_string [] state.Plain)
    → HasRead (take l.i l.codes) ds r (in_string l.text l.state))
