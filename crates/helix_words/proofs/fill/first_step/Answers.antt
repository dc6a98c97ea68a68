use Rattle.std.proofs.Common.{arith}
use Rattle.helix_words.proofs.Rests.{begins}
use Rattle.helix_words.proofs.fill.first_step.Goals as goal

pub unreachable-requires : goal.unreachable-requires
unreachable-requires g c =
    let first = begins c.args.words.now.automaton c.args.state c.args.rest c.requires.has_rest.0 c.requires.has_rest.1
    in
    c.in-None.ensures.step.none first.step first.goes_on (omega arith)

pub returns-clause-within : goal.returns-clause-within
returns-clause-within g c = c.in-Some.ensures.step.some.to_within
