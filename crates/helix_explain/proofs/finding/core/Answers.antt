use Rattle.std.proofs.Common.{◌-◌, ◌∙◌, sym, arith}
use Rattle.helix_explain.proofs.Cores.{found_if}
use Rattle.helix_explain.proofs.finding.core.Goals as goal

pub returns-clause-core : goal.returns-clause-core
returns-clause-core g c =
    found_if (g.E.Emptiness.Empties c.loop-decided.ask) (g.E.Emptiness.Empties c.args.ask.now) c.args.count
    (g.E.Emptiness.count c.loop-decided.ask) (c.args.count - c.loop-decided.decided) c.loop-decided.chosen
    c.as_slice.result.now c.set_of.result (omega arith) c.loop-decided.invariant.3
    (c.loop-decided.invariant.2 ∙ sym c.requires.counted) c.as_slice.ensures c.loop-decided.invariant.0
    c.set_of.ensures
