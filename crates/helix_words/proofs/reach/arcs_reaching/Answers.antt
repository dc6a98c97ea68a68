use Rattle.std.proofs.Common.{◌<◌}
use Rattle.std.proofs.lemmas.List.Elements.{All-more}
use Rattle.helix_automata.specs.declared.arc.Arc.{Arc}
use Rattle.helix_words.proofs.reach.arcs_reaching.Goals as goal

pub loop-i-preserved : goal.loop-i-preserved
loop-i-preserved c =
    All-more (λ (arc : Arc). arc.last < c.args.code) c.args.arcs.now c.loop-i.i (record { first = 0; last = 0; to = 0 })
    c.loop-i-test.true c.loop-i.invariant c.if-code-arc.false
