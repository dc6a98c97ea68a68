use Rattle.helix_domains.proofs.Automata.{within_more}
use Rattle.helix_domains.proofs.alphabets.WithinMachine.step.Goals as goal

pub returns-clause-leads : goal.returns-clause-leads
returns-clause-leads c = record {
  reached = c.alike_up_to.ensures.reached;
  is_state = tt;
  leads = λ code character low high word. within_more c.args.self.now.alphabet c.args.state.now
      c.still_within-next.result
      c.args.first code c.still_within-next.ensures (c.alike_up_to.ensures.alike code character low high) word;
}
