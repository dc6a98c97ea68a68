use Rattle.std.proofs.Common.{[], ◌∷◌, take, sym, ◌∙◌, ap, subst}
use Rattle.helix_rows.proofs.Listing.{best_fits, set_at, step_some}
use Rattle.helix_rows.specs.Inner.Answers.{IsMarkFor}
use Rattle.helix_rows.specs.Inner.Listing.{IsListed}
use Rattle.helix_rows.specs.Regions.{cell_at, class_at, number_at, piece, Continues}
use Rattle.helix_values.specs.Class.{numbers}
use Rattle.helix_values.specs.Counts.{IsMarkBound}
use Rattle.helix_values.specs.Slot.{FitsSlot}
use Rattle.helix_values.specs.View.{cell_of}
use Rattle.helix_rows.proofs.tests.pairs.PairsRegion.step.Goals as goal

pub set-requires-clause-fits : goal.set-requires-clause-fits
set-requires-clause-fits g c =
    subst FitsSlot (sym c.view-2.ensures) (best_fits c.args.self.now.rows.items
    (piece (take c.args.level (c.args.self.now.fields.0 ∷ c.args.self.now.fields.1 ∷ [])) c.args.row.now)
    c.mark_of-mark.result
    c.least-found.result c.if-not-found.false c.new-best.result c.least-found.new.out c.least-found.ensures.answer)

pub least-found-requires-clause-mark : goal.least-found-requires-clause-mark
least-found-requires-clause-mark g c =
    c.mark_of-mark.ensures.class _
    (subst (IsMarkBound (class_at (numbers ∷ numbers ∷ []) c.args.level))
    (sym (c.view.ensures ∙ (c.slot.ensures ∙ ap (cell_at c.args.row.now) c.field_at-field.ensures))) c.requires.own.0)

pub returns-clause-answer : goal.returns-clause-answer
returns-clause-answer g c =
    step_some (Continues (IsListed c.args.self.now.rows.items)
    (piece (take c.args.level (c.args.self.now.fields.0 ∷ c.args.self.now.fields.1 ∷ [])) c.args.row.now))
    c.args.question
    (cell_at c.args.row.now (number_at (c.args.self.now.fields.0 ∷ c.args.self.now.fields.1 ∷ []) c.args.level))
    c.mark_of-mark.result
    (subst (λ own. IsMarkFor c.args.question own c.mark_of-mark.result)
    (c.view.ensures ∙ (c.slot.ensures ∙ ap (cell_at c.args.row.now) c.field_at-field.ensures))
    c.mark_of-mark.ensures.mark)
    c.least-found.result c.if-not-found.false c.new-best.result c.least-found.new.out c.least-found.ensures.answer _
    (set_at c.args.row.now c.set.new.self c.field_at-field.result
    (number_at (c.args.self.now.fields.0 ∷ c.args.self.now.fields.1 ∷ []) c.args.level) (cell_of c.view-2.result)
    c.least-found.new.out c.field_at-field.ensures (c.requires.fields c.args.level 0 c.requires.level) c.set.ensures
    c.view-2.ensures)
