use Rattle.std.proofs.Common.{subst}
use Rattle.helix_values.specs.Class.{class_of_kind}
use Rattle.helix_domains.specs.Asking.{most_moves}
use Rattle.helix_words.specs.Moves.{MovedAtMost}
use Rattle.helix_domains.proofs.domain.Domain.at_or_after.Goals as goal

pub returns-clause-asked : goal.returns-clause-asked
returns-clause-asked g c = record {
  asked = c.tick.new.self;
  counted = c.tick.ensures.counts;
  noted = c.tick.ensures.noted;
  moves = subst (λ d. MovedAtMost g.L.Ledger.IsNoted (most_moves (class_of_kind d.field.kind)) c.tick.new.self
      c.least_value.new.steps) c.self.view_is c.least_value.ensures.moves;
}
