use Rattle.std.proofs.Common.{rules, true, length, slice_set, refl, sym, ◌∙◌, ap, subst, arith}
use Rattle.helix_rows.proofs.Among.{asked_few, asked_only}
use Rattle.helix_rows.proofs.Cells.{askable, cells_kept}
use Rattle.helix_rows.proofs.Answered.{found_listed, found_marked}
use Rattle.helix_rows.proofs.Levels.{compared}
use Rattle.helix_rows.proofs.Ready.{over_among, fields_within, ready_kept, ready_set}
use Rattle.helix_rows.specs.Inner.Answers.{best_of}
use Rattle.helix_rows.specs.Inner.Among.{asked_at}
use Rattle.helix_rows.specs.Inner.Levels.{before_of, IsReady}
use Rattle.helix_rows.specs.Parts.{HasAt}
use Rattle.helix_rows.specs.Regions.{cell_at, IsAskedFor}
use Rattle.helix_rows.proofs.state.find.Goals as goal

pub least_of-requires-clause-regions : goal.least_of-requires-clause-regions
least_of-requires-clause-regions g c =
    over_among g.R.Region.fields g.R.Region.HasRow c.args.layout.now c.args.state.now.regions.items
    c.args.state.now.alive.items c.args.state.now.found.numbers.room (length c.args.state.now.row) c.requires.ready
    c.args.field c.requires.layout c.requires.field c.to_ask-asked.result.now
    (λ n listed. asked_only c.args.layout.now (length c.args.state.now.row) c.requires.layout c.args.field
    c.requires.field (HasAt g.R.Region.HasRow c.args.state.now.regions.items) c.args.state.now.row
    c.args.state.now.alive.items c.args.which c.requires.known n (search rules))

pub least_of-requires-clause-fields : goal.least_of-requires-clause-fields
least_of-requires-clause-fields g c =
    fields_within g.R.Region.fields g.R.Region.HasRow c.args.layout.now c.args.state.now.regions.items
    c.args.state.now.alive.items c.args.state.now.found.numbers.room (length c.args.state.now.row) c.requires.ready
    c.args.field c.requires.layout c.requires.field

pub least_of-requires-clause-comparable : goal.least_of-requires-clause-comparable
least_of-requires-clause-comparable g c =
    compared c.args.layout.now (length c.args.state.now.row) c.requires.layout c.args.field c.requires.field
    g.R.Region.fields g.R.Region.HasRow c.args.state.now.regions.items c.requires.ready.are g.met.R.Region.shaped
    c.to_ask-asked.result.now
    (λ n listed. asked_only c.args.layout.now (length c.args.state.now.row) c.requires.layout c.args.field
    c.requires.field (HasAt g.R.Region.HasRow c.args.state.now.regions.items) c.args.state.now.row
    c.args.state.now.alive.items c.args.which c.requires.known n (search rules))

pub least_of-requires-clause-askable : goal.least_of-requires-clause-askable
least_of-requires-clause-askable g c =
    askable c.args.layout.now (length c.args.state.now.row) c.requires.layout c.args.state.now.regions.items
    c.args.field c.requires.field c.args.state.now.row refl c.requires.cells _
    (λ class bound. c.mark_of-mark.ensures.class class (search rules)) c.to_ask-asked.result.now
    (λ n listed. asked_only c.args.layout.now (length c.args.state.now.row) c.requires.layout c.args.field
    c.requires.field (HasAt g.R.Region.HasRow c.args.state.now.regions.items) c.args.state.now.row
    c.args.state.now.alive.items c.args.which c.requires.known n (search rules))

pub least_of-requires-clause-room : goal.least_of-requires-clause-room
least_of-requires-clause-room g c =
    let few = asked_few g.R.Region.fields g.R.Region.HasRow c.args.layout.now c.args.state.now.regions.items
    c.args.state.now.alive.items c.args.state.now.found.numbers.room (length c.args.state.now.row) c.requires.ready
    c.args.field c.requires.layout c.requires.field in
    search rules

pub returns-then-not-least_of-clause-ready : goal.returns-then-not-least_of-clause-ready
returns-then-not-least_of-clause-ready g c =
    subst (λ room. IsReady g.R.Region.fields g.R.Region.classes g.R.Region.HasRow c.args.layout.now
    c.least_of.new.regions.items
    c.args.state.now.alive.items room (length c.args.state.now.row)) (sym c.least_of.ensures.room)
    (ready_kept g.R.Region.fields g.R.Region.HasRow c.args.layout.now c.args.state.now.regions.items
    c.args.state.now.alive.items c.args.state.now.found.numbers.room (length c.args.state.now.row) c.requires.ready
    c.least_of.new.regions.items
    c.least_of.ensures.kept)

pub returns-clause-found : goal.returns-clause-found
returns-clause-found g c =
    found_listed (HasAt g.R.Region.HasRow c.args.state.now.regions.items)
    (asked_at c.args.which c.args.layout.now c.args.state.now.alive.items c.args.field)
    (before_of c.args.layout.now c.args.field c.args.state.now.row)
    (IsAskedFor c.args.question (cell_at c.args.state.now.row c.args.field)) c.least_of.new.found.numbers.items
    c.least_of.new.found.best c.args.state.now.alive.items c.args.field c.swap.new.y
    (omega (arith, c.requires.field, c.requires.ready.count)) (ap (λ n. n.items) c.swap.ensures.y_after)
    (found_marked (HasAt g.R.Region.HasRow c.args.state.now.regions.items)
    (asked_at c.args.which c.args.layout.now c.args.state.now.alive.items c.args.field)
    (before_of c.args.layout.now c.args.field c.args.state.now.row) c.args.question
    (cell_at c.args.state.now.row c.args.field) c.mark_of-mark.result (search rules) true
    (best_of c.least_of.new.found) (search rules))

pub returns-clause-ready : goal.returns-clause-ready
returns-clause-ready g c =
    let kept = ready_kept g.R.Region.fields g.R.Region.HasRow c.args.layout.now c.args.state.now.regions.items
    c.args.state.now.alive.items c.args.state.now.found.numbers.room (length c.args.state.now.row) c.requires.ready
    c.least_of.new.regions.items
    c.least_of.ensures.kept in
    let set = ready_set g.R.Region.fields g.R.Region.HasRow c.args.layout.now c.least_of.new.regions.items
    c.args.state.now.alive.items c.args.state.now.found.numbers.room (length c.args.state.now.row) kept c.args.field
    c.swap.new.y (ap (λ n. n.room) c.swap.ensures.y_after ∙ c.least_of.ensures.room) (search rules) in
    subst (λ room. IsReady g.R.Region.fields g.R.Region.classes g.R.Region.HasRow c.args.layout.now
    c.least_of.new.regions.items
    (slice_set c.args.state.now.alive.items c.args.field c.swap.new.y) room (length c.args.state.now.row))
    (search rules) set

pub returns-then-not-least_of-clause-cells : goal.returns-then-not-least_of-clause-cells
returns-then-not-least_of-clause-cells g c =
    cells_kept c.args.layout.now (length c.args.state.now.row) c.requires.layout g.R.Region.fields g.R.Region.HasRow
    c.args.state.now.regions.items c.requires.ready.are c.least_of.new.regions.items c.least_of.ensures.kept
    c.args.state.now.row refl c.requires.cells

pub returns-clause-cells : goal.returns-clause-cells
returns-clause-cells g c =
    cells_kept c.args.layout.now (length c.args.state.now.row) c.requires.layout g.R.Region.fields g.R.Region.HasRow
    c.args.state.now.regions.items c.requires.ready.are c.least_of.new.regions.items c.least_of.ensures.kept
    c.args.state.now.row refl c.requires.cells
