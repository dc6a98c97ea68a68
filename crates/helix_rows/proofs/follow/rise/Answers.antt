use Rattle.std.proofs.Common.{◌+◌, sym, ◌∙◌, ap, subst}
use Rattle.helix_rows.proofs.Seeking.{not_both, not_raised, others_alive, raised_first, raised_instead, raised_still, stuck}
use Rattle.helix_rows.specs.Inner.Following.{IsRaisable, IsRaisableAt}
use Rattle.helix_rows.specs.Parts.{HasAt}
use Rattle.helix_rows.specs.Regions.{cell_at, IsAskedFor}
use Rattle.helix_rows.specs.declared.region.Question.TheVariants.{After}
use Rattle.helix_rows.proofs.follow.rise.Goals as goal

pub returns-then-is_last-clause-raised : goal.returns-then-is_last-clause-raised
returns-then-is_last-clause-raised g c =
    not_raised (HasAt g.R.Region.HasRow c.args.state.now.regions.items) c.args.layout.now c.args.state.now.row
    c.requires.layout c.args.field
    c.requires.field
    (subst (λ r. IsRaisable (HasAt g.R.Region.HasRow c.args.state.now.regions.items) c.args.layout.now
    c.args.state.now.row
    c.args.state.now.alive.items c.args.best.now (c.args.field + 1) r) c.in-None.is c.requires.raised)
    (λ other goes asked. c.is_last.ensures c.if-is_last.true other
    (subst (λ own. IsAskedFor After own other) (sym (c.view.ensures ∙ c.slot.ensures)) asked))

pub returns-then-not-find-clause-raised : goal.returns-then-not-find-clause-raised
returns-then-not-find-clause-raised g c =
    not_raised (HasAt g.R.Region.HasRow c.args.state.now.regions.items) c.args.layout.now c.args.state.now.row
    c.requires.layout c.args.field
    c.requires.field
    (subst (λ r. IsRaisable (HasAt g.R.Region.HasRow c.args.state.now.regions.items) c.args.layout.now
    c.args.state.now.row
    c.args.state.now.alive.items c.args.best.now (c.args.field + 1) r) c.in-None.is c.requires.raised)
    c.if-not-find.ensures.found

pub returns-then-not-find-2-clause-raised : goal.returns-then-not-find-2-clause-raised
returns-then-not-find-2-clause-raised g c =
    stuck (HasAt g.R.Region.HasRow c.args.state.now.regions.items) c.args.layout.now c.args.state.now.row
    c.requires.layout c.args.field
    c.requires.field c.if-not-find-2.ensures.found

pub returns-then-is_same-clause-raised : goal.returns-then-is_same-clause-raised
returns-then-is_same-clause-raised g c =
    subst (λ r. IsRaisable (HasAt g.R.Region.HasRow c.args.state.now.regions.items) c.args.layout.now
    c.args.state.now.row
    c.find-in-Some.new.state.alive.items c.args.best.now c.args.field r) (sym c.in-Some.is)
    (raised_still (HasAt g.R.Region.HasRow c.args.state.now.regions.items) c.args.layout.now c.args.state.now.row
    c.requires.layout c.args.field
    c.requires.field
    c.find-in-Some.new.state.found.best c.args.best.now c.args.state.now.alive.items
    c.find-in-Some.new.state.alive.items c.in-Some.field-0
    (subst (λ r. IsRaisable (HasAt g.R.Region.HasRow c.args.state.now.regions.items) c.args.layout.now
    c.args.state.now.row
    c.args.state.now.alive.items c.args.best.now (c.args.field + 1) r) c.in-Some.is c.requires.raised)
    c.if-not-find-2.ensures.found
    (sym c.view-in-Some.ensures ∙ (c.is_same.ensures.0 c.if-is_same.true ∙ (c.view-in-Some-2.ensures
    ∙ (c.slot-in-Some.ensures ∙ ap (λ r. cell_at r c.args.field) c.find-in-Some.ensures.row))))
    (others_alive c.find-in-Some.result c.args.state.now.alive.items c.find-in-Some.new.state.alive.items c.args.field _
    c.find-in-Some.ensures.alive))

pub returns-else-not-find-clause-raised : goal.returns-else-not-find-clause-raised
returns-else-not-find-clause-raised g c =
    subst (λ best. IsRaisableAt (HasAt g.R.Region.HasRow c.args.state.now.regions.items) c.args.layout.now
    c.args.state.now.row c.find.new.state.alive.items best c.args.field c.args.field)
    (sym (c.set.ensures ∙ c.view-in-None.ensures))
    (raised_first (HasAt g.R.Region.HasRow c.args.state.now.regions.items) c.args.layout.now c.args.state.now.row
    c.requires.layout c.args.field
    c.requires.field
    (subst (λ r. IsRaisable (HasAt g.R.Region.HasRow c.args.state.now.regions.items) c.args.layout.now
    c.args.state.now.row
    c.args.state.now.alive.items c.args.best.now (c.args.field + 1) r) c.in-None.is c.requires.raised)
    c.find.new.state.found.best c.find.new.state.alive.items c.if-not-find.ensures.found
    (c.find.ensures.fits c.if-not-find.false))

pub returns-else-is_same-clause-raised : goal.returns-else-is_same-clause-raised
returns-else-is_same-clause-raised g c =
    subst (λ best. IsRaisableAt (HasAt g.R.Region.HasRow c.args.state.now.regions.items) c.args.layout.now
    c.args.state.now.row c.find-in-Some.new.state.alive.items best c.args.field c.args.field)
    (sym (c.set-in-Some.ensures ∙ c.view-in-Some-3.ensures))
    (raised_instead (HasAt g.R.Region.HasRow c.args.state.now.regions.items) c.args.layout.now c.args.state.now.row
    c.requires.layout c.args.field
    c.requires.field
    c.find-in-Some.new.state.found.best c.find-in-Some.new.state.alive.items c.if-not-find-2.ensures.found
    (c.find-in-Some.ensures.fits c.if-not-find-2.false)
    (λ same. not_both c.is_same.result c.if-is_same.false (c.is_same.ensures.1 (c.view-in-Some.ensures
    ∙ (same ∙ sym (c.view-in-Some-2.ensures
    ∙ (c.slot-in-Some.ensures ∙ ap (λ r. cell_at r c.args.field) c.find-in-Some.ensures.row)))))))
