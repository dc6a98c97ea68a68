use Rattle.std.proofs.Common.{subst, sym}
use Rattle.helix_values.specs.Class.{class_of_kind}
use Rattle.helix_domains.specs.Asking.{most_moves}
use Rattle.helix_words.specs.Moves.{MovedAtMost}
use Rattle.helix_domains.proofs.AskedNear.{first_near, first_room, stays_near, next_near, next_answer, value_near}
use Rattle.helix_domains.proofs.domain.Domain.first.Goals as goal

pub returns-clause-near : goal.returns-clause-near
returns-clause-near g c = first_near c.self.inside.field c.self.inside.atoms c.args.self.now c.self.inside.values
    c.self.invariant.values c.self.view_is c.args.slot.now c.first_value.new.slot c.args.near.now c.first_value.new.near
    c.first_value.result c.first_value.ensures.answer c.first_value.ensures.near

pub returns-clause-room : goal.returns-clause-room
returns-clause-room g c = first_room c.self.inside.field c.self.inside.atoms c.args.self.now c.self.inside.values
    c.self.invariant.values c.self.view_is c.args.slot.now c.first_value.new.slot c.args.near.now c.first_value.new.near
    c.first_value.result c.requires c.first_value.ensures.near

pub returns-clause-stays : goal.returns-clause-stays
returns-clause-stays g c = stays_near c.self.inside.field c.self.inside.atoms c.args.self.now c.self.inside.values
    c.self.invariant.values c.self.view_is c.args.slot.now c.first_value.new.slot c.args.near.now c.first_value.new.near
    c.first_value.result c.first_value.ensures.near

pub returns-clause-asked : goal.returns-clause-asked
returns-clause-asked g c = record {
  asked = c.tick.new.self;
  counted = c.tick.ensures.counts;
  noted = c.tick.ensures.noted;
  moves = subst (λ d. MovedAtMost g.L.Ledger.IsNoted (most_moves (class_of_kind d.field.kind)) c.tick.new.self
      c.first_value.new.steps) c.self.view_is c.first_value.ensures.moves;
}
