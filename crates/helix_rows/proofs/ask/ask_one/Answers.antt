use Rattle.std.proofs.Common.{List, slice_index_or, ap}
use Rattle.helix_rows.proofs.Asking.{own_answer, own_cell}
use Rattle.helix_rows.specs.Inner.Levels.{level_of, part_of}
use Rattle.helix_rows.specs.declared.layout.Level.{Level}
use Rattle.helix_rows.proofs.ask.ask_one.Goals as goal

pub step-requires-clause-own : goal.step-requires-clause-own
step-requires-clause-own g c =
    own_cell g.R.Region.fields c.args.state.now.regions.items (part_of c.args.layout.now c.args.field).fields
    c.args.number c.requires.over c.index_mut-region.result.now c.index_mut-region.ensures.value c.args.state.now.row
    c.args.field (level_of c.args.layout.now c.args.field).position _
    (ap (λ (levels : List Level). (slice_index_or levels c.args.field (record { part = 0; position = 0 })).position)
    c.as_slice.ensures)
    (c.requires.layout.levels c.args.field c.requires.field).is g.R.Region.classes c.requires.own

pub returns-clause-answer : goal.returns-clause-answer
returns-clause-answer g c =
    own_answer g.R.Region.fields c.args.state.now.regions.items (part_of c.args.layout.now c.args.field).fields
    c.args.number c.requires.over c.index_mut-region.result.now c.index_mut-region.ensures.value c.args.state.now.row
    c.args.field (level_of c.args.layout.now c.args.field).position _
    (ap (λ (levels : List Level). (slice_index_or levels c.args.field (record { part = 0; position = 0 })).position)
    c.as_slice.ensures)
    (c.requires.layout.levels c.args.field c.requires.field).is g.R.Region.HasRow c.args.question c.step.new.row
    c.if-not-step.ensures.answer
