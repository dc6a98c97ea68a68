use Rattle.std.proofs.Common.{rules, length, slice_index_or, refl, sym, ◌∙◌, ap, subst, arith}
use Rattle.std.proofs.lemmas.List.{length-set}
use Rattle.helix_rows.proofs.Asked.{fits_found}
use Rattle.helix_rows.proofs.Cells.{cells_answered}
use Rattle.helix_rows.proofs.Fitting.{fit_changed}
use Rattle.helix_rows.proofs.Alive.{among_answer, chosen_alive, one_answer, one_alive, one_begun, one_listed, single, chosen_one}
use Rattle.helix_rows.proofs.Answered.{changed_if, step_stays, step_has, found_has, agree_changed}
use Rattle.helix_rows.proofs.Levels.{over_part, agree_set}
use Rattle.helix_rows.proofs.Ready.{among_few, ready_kept, ready_one}
use Rattle.helix_rows.specs.Inner.Levels.{among_at, before_of, part_of, alive_at, IsReady, IsAlive, Agree}
use Rattle.helix_rows.specs.Parts.{HasAt}
use Rattle.helix_rows.specs.Regions.{cell_at}
use Rattle.helix_rows.proofs.ask.ask.Goals as goal

pub ask_one-requires-clause-over : goal.ask_one-requires-clause-over
ask_one-requires-clause-over g c =
    over_part c.args.layout.now (length c.args.state.now.row) c.requires.layout c.args.field c.requires.field
    g.R.Region.fields g.R.Region.HasRow c.args.state.now.regions.items c.requires.ready.are
    (slice_index_or c.among-alive.result.now 0 0)
    (one_listed c.args.layout.now (length c.args.state.now.row) c.requires.layout c.args.field c.requires.field
    (HasAt g.R.Region.HasRow c.args.state.now.regions.items) c.args.state.now.row c.args.state.now.alive.items
    c.requires.alive (slice_index_or c.among-alive.result.now 0 0)
    (sym (c.among-alive.ensures ∙ ap (λ a. among_at c.args.layout.now a c.args.field) c.as_slice.ensures.value)
    ∙ single c.among-alive.result.now c.if-alive-eq1.true))

pub ask_one-requires-clause-begun : goal.ask_one-requires-clause-begun
ask_one-requires-clause-begun g c =
    one_begun c.args.layout.now (length c.args.state.now.row) c.requires.layout c.args.field c.requires.field
    (HasAt g.R.Region.HasRow c.args.state.now.regions.items) c.args.state.now.row c.args.state.now.alive.items
    c.requires.alive (slice_index_or c.among-alive.result.now 0 0)
    (sym (c.among-alive.ensures ∙ ap (λ a. among_at c.args.layout.now a c.args.field) c.as_slice.ensures.value)
    ∙ single c.among-alive.result.now c.if-alive-eq1.true) c.requires.begun

pub returns-then-alive-eq1-clause-answer : goal.returns-then-alive-eq1-clause-answer
returns-then-alive-eq1-clause-answer g c =
    one_answer c.args.layout.now (length c.args.state.now.row) c.requires.layout c.args.field c.requires.field
    (HasAt g.R.Region.HasRow c.args.state.now.regions.items) c.args.state.now.row c.args.state.now.alive.items
    c.requires.alive (slice_index_or c.among-alive.result.now 0 0)
    (sym (c.among-alive.ensures ∙ ap (λ a. among_at c.args.layout.now a c.args.field) c.as_slice.ensures.value)
    ∙ single c.among-alive.result.now c.if-alive-eq1.true) c.args.question c.ask_one.result
    (cell_at c.args.state.now.row c.args.field) (cell_at c.ask_one.new.state.row c.args.field) c.ask_one.ensures.answer

pub returns-then-alive-eq1-clause-row : goal.returns-then-alive-eq1-clause-row
returns-then-alive-eq1-clause-row g c =
    changed_if c.ask_one.result c.args.state.now.row c.ask_one.new.state.row c.args.field c.ask_one.ensures.row
    (step_stays _ c.args.question c.ask_one.result (cell_at c.args.state.now.row c.args.field)
    (cell_at c.ask_one.new.state.row c.args.field) c.ask_one.ensures.answer)

pub returns-then-alive-eq1-clause-fit : goal.returns-then-alive-eq1-clause-fit
returns-then-alive-eq1-clause-fit g c =
    fit_changed c.ask_one.result c.args.state.now.row c.ask_one.new.state.row c.args.field
    (changed_if c.ask_one.result c.args.state.now.row c.ask_one.new.state.row c.args.field c.ask_one.ensures.row
    (step_stays _ c.args.question c.ask_one.result (cell_at c.args.state.now.row c.args.field)
    (cell_at c.ask_one.new.state.row c.args.field) c.ask_one.ensures.answer)) (λ is.
    fits_found g.R.Region.fields g.R.Region.HasRow g.met.R.Region.shaped c.args.state.now.regions.items
    (part_of c.args.layout.now c.args.field).regions
    (before_of c.args.layout.now c.args.field c.args.state.now.row) (cell_at c.ask_one.new.state.row c.args.field)
    (step_has _ c.args.question c.ask_one.result (cell_at c.args.state.now.row c.args.field)
    (cell_at c.ask_one.new.state.row c.args.field)
    (one_answer c.args.layout.now (length c.args.state.now.row) c.requires.layout c.args.field c.requires.field
    (HasAt g.R.Region.HasRow c.args.state.now.regions.items) c.args.state.now.row c.args.state.now.alive.items
    c.requires.alive (slice_index_or c.among-alive.result.now 0 0)
    (sym (c.among-alive.ensures ∙ ap (λ a. among_at c.args.layout.now a c.args.field) c.as_slice.ensures.value)
    ∙ single c.among-alive.result.now c.if-alive-eq1.true) c.args.question c.ask_one.result
    (cell_at c.args.state.now.row c.args.field) (cell_at c.ask_one.new.state.row c.args.field)
    c.ask_one.ensures.answer) is).has)
    c.requires.fit

pub returns-then-alive-eq1-clause-cells : goal.returns-then-alive-eq1-clause-cells
returns-then-alive-eq1-clause-cells g c =
    cells_answered c.args.layout.now (length c.args.state.now.row) c.requires.layout g.R.Region.fields
    g.R.Region.HasRow c.args.state.now.regions.items c.requires.ready.are g.met.R.Region.shaped c.args.field
    c.requires.field c.args.state.now.row refl c.requires.cells c.args.question c.ask_one.result
    c.ask_one.new.state.regions.items c.ask_one.ensures.kept c.ask_one.new.state.row
    (changed_if c.ask_one.result c.args.state.now.row c.ask_one.new.state.row c.args.field c.ask_one.ensures.row
    (step_stays _ c.args.question c.ask_one.result (cell_at c.args.state.now.row c.args.field)
    (cell_at c.ask_one.new.state.row c.args.field) c.ask_one.ensures.answer))
    (one_answer c.args.layout.now (length c.args.state.now.row) c.requires.layout c.args.field c.requires.field
    (HasAt g.R.Region.HasRow c.args.state.now.regions.items) c.args.state.now.row c.args.state.now.alive.items
    c.requires.alive (slice_index_or c.among-alive.result.now 0 0)
    (sym (c.among-alive.ensures ∙ ap (λ a. among_at c.args.layout.now a c.args.field) c.as_slice.ensures.value)
    ∙ single c.among-alive.result.now c.if-alive-eq1.true) c.args.question c.ask_one.result
    (cell_at c.args.state.now.row c.args.field) (cell_at c.ask_one.new.state.row c.args.field) c.ask_one.ensures.answer)

pub ask_one-requires-clause-own : goal.ask_one-requires-clause-own
ask_one-requires-clause-own g c =
    c.requires.cells c.args.field c.requires.field (slice_index_or c.among-alive.result.now 0 0)
    (one_listed c.args.layout.now (length c.args.state.now.row) c.requires.layout c.args.field c.requires.field
    (HasAt g.R.Region.HasRow c.args.state.now.regions.items) c.args.state.now.row c.args.state.now.alive.items
    c.requires.alive (slice_index_or c.among-alive.result.now 0 0)
    (sym (c.among-alive.ensures ∙ ap (λ a. among_at c.args.layout.now a c.args.field) c.as_slice.ensures.value)
    ∙ single c.among-alive.result.now c.if-alive-eq1.true))

pub returns-then-alive-eq1-clause-chosen : goal.returns-then-alive-eq1-clause-chosen
returns-then-alive-eq1-clause-chosen g c = λ is.
    subst (λ numbers. IsAlive (HasAt g.R.Region.HasRow c.args.state.now.regions.items) c.args.layout.now
    c.ask_one.new.state.row c.args.field numbers)
    (sym (chosen_one c.ask_one.result c.args.state.now.alive.items c.ask_one.new.state.alive.items c.args.field
    (slice_index_or c.among-alive.result.now 0 0) (omega (arith, c.requires.field, c.requires.ready.count))
    c.ask_one.ensures.alive is))
    (one_alive c.args.layout.now (length c.args.state.now.row) c.requires.layout c.args.field c.requires.field
    (HasAt g.R.Region.HasRow c.args.state.now.regions.items) c.args.state.now.row c.args.state.now.alive.items
    c.requires.alive (slice_index_or c.among-alive.result.now 0 0)
    (sym (c.among-alive.ensures ∙ ap (λ a. among_at c.args.layout.now a c.args.field) c.as_slice.ensures.value)
    ∙ single c.among-alive.result.now c.if-alive-eq1.true) c.ask_one.new.state.row
    (subst (λ r. Agree c.args.field r c.args.state.now.row) (sym c.ask_one.ensures.row)
    (agree_set c.args.state.now.row c.args.field (cell_at c.ask_one.new.state.row c.args.field))))

pub returns-then-alive-eq1-clause-ready : goal.returns-then-alive-eq1-clause-ready
returns-then-alive-eq1-clause-ready g c =
    let few = among_few g.R.Region.fields g.R.Region.HasRow c.args.layout.now c.args.state.now.regions.items
    c.args.state.now.alive.items
    c.args.state.now.found.numbers.room (length c.args.state.now.row) c.requires.ready c.args.field c.requires.layout
    c.requires.field in
    let one = ap length (sym (c.among-alive.ensures ∙ ap (λ a. among_at c.args.layout.now a c.args.field)
    c.as_slice.ensures.value)
    ∙ single c.among-alive.result.now c.if-alive-eq1.true) in
    let kept = ready_kept g.R.Region.fields g.R.Region.HasRow c.args.layout.now c.args.state.now.regions.items
    c.args.state.now.alive.items
    c.args.state.now.found.numbers.room (length c.args.state.now.row) c.requires.ready
    c.ask_one.new.state.regions.items c.ask_one.ensures.kept in
    let ready = ready_one g.R.Region.fields g.R.Region.HasRow c.args.layout.now c.ask_one.new.state.regions.items
    c.args.state.now.alive.items
    c.args.state.now.found.numbers.room (length c.args.state.now.row) kept c.ask_one.result
    c.ask_one.new.state.alive.items c.args.field (slice_index_or c.among-alive.result.now 0 0) c.requires.field
    (omega (arith, few, one))
    c.ask_one.ensures.alive in
    subst (λ room. IsReady g.R.Region.fields g.R.Region.classes g.R.Region.HasRow c.args.layout.now
    c.ask_one.new.state.regions.items
    c.ask_one.new.state.alive.items room (length c.ask_one.new.state.row))
    (sym (ap (λ f. f.numbers.room) c.ask_one.ensures.found))
    (subst (λ fields. IsReady g.R.Region.fields g.R.Region.classes g.R.Region.HasRow c.args.layout.now
    c.ask_one.new.state.regions.items
    c.ask_one.new.state.alive.items c.args.state.now.found.numbers.room fields)
    (sym (ap length c.ask_one.ensures.row ∙ length-set c.args.state.now.row c.args.field _)) ready)

pub returns-clause-answer : goal.returns-clause-answer
returns-clause-answer g c =
    among_answer c.args.layout.now (length c.args.state.now.row) c.requires.layout c.args.field c.requires.field
    (HasAt g.R.Region.HasRow c.args.state.now.regions.items) c.args.state.now.row c.args.state.now.alive.items
    c.requires.alive c.args.question (cell_at c.args.state.now.row c.args.field)
    (cell_at c.ask_each.new.state.row c.args.field) (alive_at c.ask_each.new.state.alive.items c.args.field)
    c.ask_each.result (search rules) c.ask_each.ensures.found

pub returns-clause-chosen : goal.returns-clause-chosen
returns-clause-chosen g c = λ is.
    let found = found_has _ _ _ _ c.ask_each.result _ c.ask_each.ensures.found is in
    chosen_alive c.args.layout.now (length c.args.state.now.row) c.requires.layout c.args.field c.requires.field
    (HasAt g.R.Region.HasRow c.args.state.now.regions.items) c.args.state.now.row c.args.state.now.alive.items
    c.requires.alive c.ask_each.new.state.row
    (alive_at c.ask_each.new.state.alive.items c.args.field)
    (agree_changed c.ask_each.result c.args.state.now.row c.ask_each.new.state.row c.args.field _
    c.ask_each.ensures.row)
    found.all found.only

pub returns-clause-fit : goal.returns-clause-fit
returns-clause-fit g c =
    fit_changed c.ask_each.result c.args.state.now.row c.ask_each.new.state.row c.args.field c.ask_each.ensures.row
    c.ask_each.ensures.fits c.requires.fit

pub returns-clause-cells : goal.returns-clause-cells
returns-clause-cells g c =
    cells_answered c.args.layout.now (length c.args.state.now.row) c.requires.layout g.R.Region.fields
    g.R.Region.HasRow c.args.state.now.regions.items c.requires.ready.are g.met.R.Region.shaped c.args.field
    c.requires.field c.args.state.now.row refl c.requires.cells c.args.question c.ask_each.result
    c.ask_each.new.state.regions.items c.ask_each.ensures.kept c.ask_each.new.state.row c.ask_each.ensures.row
    (among_answer c.args.layout.now (length c.args.state.now.row) c.requires.layout c.args.field c.requires.field
    (HasAt g.R.Region.HasRow c.args.state.now.regions.items) c.args.state.now.row c.args.state.now.alive.items
    c.requires.alive c.args.question (cell_at c.args.state.now.row c.args.field)
    (cell_at c.ask_each.new.state.row c.args.field) (alive_at c.ask_each.new.state.alive.items c.args.field)
    c.ask_each.result (search rules) c.ask_each.ensures.found)
