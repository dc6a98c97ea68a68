use Rattle.helix_codes.proofs.Reading.{leads_off}
use Rattle.helix_codes.proofs.automaton.ReaderMachine.step.Goals as goal

pub returns-else-is_cusip_character-clause-leads : goal.returns-else-is_cusip_character-clause-leads
returns-else-is_cusip_character-clause-leads c = leads_off c.args.self.now.code c.args.state.now c.args.first
    c.gap_end.result c.gap_end.ensures.reached c.gap_end.ensures.none
