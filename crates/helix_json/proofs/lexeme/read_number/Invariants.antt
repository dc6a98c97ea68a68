use Rattle.std.proofs.Common.{ℕ, ◌<◌, List, take, slice_range}
use Rattle.helix_json.specs.declared.token.Token.{Token}
use Rattle.helix_json.specs.Inner.Lexer.{in_number}
use Rattle.helix_json.specs.Inner.Machine.{Reading}
use Rattle.helix_json.specs.Inner.Scan.{HasRead}
use Rattle.helix_json.proofs.lexeme.read_number.Given as goal

abbrev pub invariant-loop-i : goal.invariant-loop-i
invariant-loop-i l = (at : ℕ) (ds : List Token) (r : Reading) → at < l.from
    → HasRead (take l.from l.codes) ds r (in_number (slice_range l.codes at l.from) l.fn.first)
    → HasRead (take l.i l.codes) ds r (in_number (slice_range l.codes at l.i) l.state)
