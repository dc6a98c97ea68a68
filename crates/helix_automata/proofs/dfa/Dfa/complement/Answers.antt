use Rattle.std.proofs.Common.{arith}
use Rattle.helix_automata.proofs.Complements.{complement_of}
use Rattle.helix_automata.proofs.dfa.Dfa.complement.Goals as goal

pub returns : goal.returns
returns c = complement_of c.self.inside.moves c.in_ok-moves.moves c.self.inside.flags c.loop-flag.flags
    c.as_slice-flag-items.result.now c.loop-flag.flag-index c.args.self.now
    c.self.view_is c.self.invariant c.in_ok-moves.ensures c.as_slice-flag-items.ensures c.loop-flag.invariant
    (omega (arith, c.loop-flag-test.false))
