use Rattle.std.proofs.Common.{ap, subst, sym}
use Rattle.std.specs.Option.{IfSome}
use Rattle.helix_schema.specs.Drafts.{IsMembersFor, first_wanted}
use Rattle.helix_schema.proofs.Wishes.{draft_filled}
use Rattle.helix_schema.proofs.draft.Draft.fill.Goals as goal

pub invariant_of-self : goal.invariant_of-self
invariant_of-self c = draft_filled (record {
  alphabet = c.self.inside.alphabet;
  value = c.self.inside.value;
  wishes = c.self.inside.wishes.items;
}) c.fill_first.new.wishes.items c.args.members c.self.invariant
    (subst (λ wishes. IfSome (first_wanted wishes) (IsMembersFor c.args.members))
    (sym (ap (λ draft. draft.wishes) c.self.view_is)) c.requires.members) c.fill_first.ensures
