use Rattle.std.proofs.Common.{Contains, sym, subst}
use Rattle.helix_compile.specs.Inner.Subsets.{LeadsTo}
use Rattle.helix_compile.proofs.Subsets.{leads_on}
use Rattle.helix_compile.proofs.determinize.SubsetsMachine.step.Goals as goal

pub returns-clause-leads : goal.returns-clause-leads
returns-clause-leads c = record {
  reached = c.alike_up_to.ensures.reached;
  is_state = c.in_ok-step.ensures.no_split;
  leads = λ code character low high word. leads_on c.args.self.now.nfa.now c.args.set.now.items c.requires.state
      c.step.new.found.items c.args.first c.alike_up_to.result
      c.alike_up_to.ensures.reached
      (subst (λ l. LeadsTo c.args.self.now.nfa.now l c.args.first c.step.new.found.items) c.as_slice.ensures.value
      c.in_ok-step.ensures.leads)
      (λ other from to n has. c.alike_up_to.ensures.alike other from to n
      (subst (λ l. Contains l n) (sym c.as_slice-2.ensures.value) has)) code low high word;
}
