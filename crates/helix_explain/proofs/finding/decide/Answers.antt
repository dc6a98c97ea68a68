use Rattle.std.proofs.Common.{◌-◌, ◌∙◌, ap, sym, subst}
use Rattle.helix_explain.specs.Inner.Stage.{IsStage, set_of}
use Rattle.helix_explain.proofs.Stages.{asked_set, true_or_false, where_empty, where_not}
use Rattle.helix_explain.proofs.finding.decide.Goals as goal

pub is_empty-requires : goal.is_empty-requires
is_empty-requires g c = asked_set (g.E.Emptiness.Empties c.args.ask.now) (g.E.Emptiness.count c.args.ask.now)
    c.args.number c.args.chosen.now c.as_slice-2.result.now c.requires.within c.requires.stage
    (c.as_slice-2.ensures ∙ (c.in_ok-fewer.ensures ∙ ap (λ l. set_of (c.args.number - 1) l) c.as_slice.ensures))

pub returns-then-empty-clause-stage : goal.returns-then-empty-clause-stage
returns-then-empty-clause-stage g c =
    where_empty (g.E.Emptiness.Empties c.args.ask.now) (g.E.Emptiness.Empties c.is_empty.new.self)
    (g.E.Emptiness.count c.args.ask.now) (g.E.Emptiness.count c.is_empty.new.self) c.args.number c.args.chosen.now
    c.as_slice-2.result.now c.requires.positive c.requires.within c.requires.stage
    (c.as_slice-2.ensures ∙ (c.in_ok-fewer.ensures ∙ ap (λ l. set_of (c.args.number - 1) l) c.as_slice.ensures))
    c.in_ok-empty.ensures.same c.in_ok-empty.ensures.count (c.in_ok-empty.ensures.answer.0 c.if-empty.true)

pub returns-clause-stage : goal.returns-clause-stage
returns-clause-stage g c =
    subst (λ l. IsStage (g.E.Emptiness.Empties c.is_empty.new.self) (g.E.Emptiness.count c.is_empty.new.self)
    (c.args.number - 1) l) (sym c.in_ok-push.ensures.ok)
    (where_not (g.E.Emptiness.Empties c.args.ask.now) (g.E.Emptiness.Empties c.is_empty.new.self)
    (g.E.Emptiness.count c.args.ask.now) (g.E.Emptiness.count c.is_empty.new.self) c.args.number c.args.chosen.now
    c.as_slice-2.result.now c.requires.positive c.requires.within c.requires.stage
    (c.as_slice-2.ensures ∙ (c.in_ok-fewer.ensures ∙ ap (λ l. set_of (c.args.number - 1) l) c.as_slice.ensures))
    c.in_ok-empty.ensures.same c.in_ok-empty.ensures.count (g.met.E.Emptiness.closed c.args.ask.now)
    (λ empties. true_or_false c.in_ok-empty.empty (c.in_ok-empty.ensures.answer.1 empties) c.if-empty.false))
