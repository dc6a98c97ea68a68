use Rattle.std.proofs.Common.{subst, sym}
use Rattle.helix_values.specs.Class.{class_of_kind}
use Rattle.helix_domains.specs.Asking.{most_moves}
use Rattle.helix_words.specs.Moves.{MovedAtMost}
use Rattle.helix_domains.proofs.AskedNear.{first_near, first_room, stays_near, next_near, next_answer, value_near}
use Rattle.helix_domains.proofs.domain.Domain.next.Goals as goal

pub next_value-requires-clause-value : goal.next_value-requires-clause-value
next_value-requires-clause-value g c = (value_near c.self.inside.field c.self.inside.atoms c.args.self.now
    c.self.inside.values c.self.invariant.values c.self.view_is c.args.near.now c.args.slot.now c.requires).0

pub next_value-requires-clause-room : goal.next_value-requires-clause-room
next_value-requires-clause-room g c = (value_near c.self.inside.field c.self.inside.atoms c.args.self.now
    c.self.inside.values c.self.invariant.values c.self.view_is c.args.near.now c.args.slot.now c.requires).1

pub next_value-requires-clause-at : goal.next_value-requires-clause-at
next_value-requires-clause-at g c = (value_near c.self.inside.field c.self.inside.atoms c.args.self.now
    c.self.inside.values c.self.invariant.values c.self.view_is c.args.near.now c.args.slot.now c.requires).2

pub returns-clause-answer : goal.returns-clause-answer
returns-clause-answer g c = next_answer c.self.inside.field c.self.inside.atoms c.args.self.now c.self.inside.values
    c.self.invariant.values c.self.view_is c.args.slot.now c.next_value.new.slot c.args.near.now c.next_value.new.near
    c.next_value.result c.next_value.ensures.answer

pub returns-clause-near : goal.returns-clause-near
returns-clause-near g c = next_near c.self.inside.field c.self.inside.atoms c.args.self.now c.self.inside.values
    c.self.invariant.values c.self.view_is c.args.slot.now c.next_value.new.slot c.args.near.now c.next_value.new.near
    c.next_value.result c.requires c.next_value.ensures.answer c.next_value.ensures.near

pub returns-clause-stays : goal.returns-clause-stays
returns-clause-stays g c = stays_near c.self.inside.field c.self.inside.atoms c.args.self.now c.self.inside.values
    c.self.invariant.values c.self.view_is c.args.slot.now c.next_value.new.slot c.args.near.now c.next_value.new.near
    c.next_value.result c.next_value.ensures.near

pub returns-clause-asked : goal.returns-clause-asked
returns-clause-asked g c = record {
  asked = c.tick.new.self;
  counted = c.tick.ensures.counts;
  noted = c.tick.ensures.noted;
  moves = subst (λ d. MovedAtMost g.L.Ledger.IsNoted (most_moves (class_of_kind d.field.kind)) c.tick.new.self
      c.next_value.new.steps) c.self.view_is c.next_value.ensures.moves;
}
