use Rattle.std.proofs.Common.{◌==◌, length, refl, subst, sym, ap, ◌∙◌}
use Rattle.std.proofs.lemmas.Bool.{false≢true}
use Rattle.helix_values.specs.Universe.{InUniverse}
use Rattle.helix_domains.proofs.Walks.{rest_more, rest_all}
use Rattle.helix_domains.proofs.fitting.are_members_for.Goals as goal

pub loop-member-preserved : goal.loop-member-preserved
loop-member-preserved c =
    rest_more (InUniverse c.args.kind) c.args.members.now c.loop-member.member-index c.member-item.result
    c.loop-member-test.true c.member-item.is
    (subst (InUniverse c.args.kind) c.view.ensures (c.in_universe.ensures.0 c.if-not-in_universe.false))
    c.loop-member.invariant

pub returns : goal.returns
returns c = (
  (λ _. (
    (λ empty. false≢true (sym c.if-is_empty.false ∙ c.is_empty.ensures ∙ ap (λ xs. length xs == 0) empty)),
    rest_all (InUniverse c.args.kind) c.args.members.now c.loop-member.member-index c.loop-member-test.false
        c.loop-member.invariant,
  )),
  (λ _. refl),
)
