use Rattle.helix_domains.proofs.Spellings.{steps_on, stays_short}
use Rattle.helix_domains.proofs.others.SpellingMachine.step.Goals as goal

pub returns-clause-leads : goal.returns-clause-leads
returns-clause-leads c = record {
  reached = c.alike_up_to-last.ensures.reached;
  is_state = (
    c.requires.state.0,
    stays_short c.args.self.now.cells.now c.args.state.now.0 c.args.state.now.1.items c.as_slice-numbers.result.now
        c.in_ok-next.next.items c.as_slice.result.now c.args.first c.alike_up_to-last.result c.next_place-place.result
        c.as_slice-numbers.ensures.value c.as_slice.ensures.value c.next_place-place.ensures c.in_ok-next.ensures
        c.alike_up_to-last.ensures.alike c.requires.state.0,
  );
  leads = λ code character low high word.
      steps_on c.args.self.now.cells.now c.args.state.now.0 c.args.state.now.1.items c.as_slice-numbers.result.now
      c.in_ok-next.next.items c.as_slice.result.now c.args.first c.alike_up_to-last.result c.next_place-place.result
      c.as_slice-numbers.ensures.value c.as_slice.ensures.value c.next_place-place.ensures c.in_ok-next.ensures
      c.alike_up_to-last.ensures.alike code low high word;
}
