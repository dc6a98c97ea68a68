use Rattle.helix_lines.proofs.TwoLines.{two_lines}
use Rattle.helix_lines.proofs.showing.say_both.Goals as goal

pub returns : goal.returns
returns g c =
    two_lines (g.C.Console.screen c.args.console.now) (g.C.Console.screen c.line.new.self)
    (g.C.Console.screen c.line-2.new.self) c.args.first.now c.args.second.now c.in_ok-line.field-0 c.line-2.result
    c.in_ok-line.ensures c.line-2.ensures
