use Rattle.std.specs.Prelude.{Ok, Err}
use Rattle.helix_run.specs.Inner.Words.{names}
use Rattle.helix_run.specs.Inner.Name.{field_of}
use Rattle.helix_run.proofs.Outcomes.{Wrote-text, Wrote-counted}
use Rattle.helix_run.proofs.outcome.write_field.Goals as goal

pub returns-in-Ok-write_file : goal.returns-in-Ok-write_file
returns-in-Ok-write_file g c =
    Wrote-counted (names c.args.order) (field_of c.args.field) _ _ c.answer-cells.result.now c.in-Ok.text.items
    c.deref.result.now (Ok (tt {0}))
    c.answer-cells.ensures c.in-Ok.ensures c.deref.ensures.value c.in-Ok-write_file.ensures

pub returns-in-Ok : goal.returns-in-Ok
returns-in-Ok g c = (
  c.in-Err-write_file.field-0,
  Wrote-text (names c.args.order) (field_of c.args.field) _ _ c.answer-cells.result.now c.in-Ok.text.items
      c.deref.result.now (Err c.in-Err-write_file.field-0)
      c.answer-cells.ensures c.in-Ok.ensures c.deref.ensures.value c.in-Err-write_file.ensures,
)
