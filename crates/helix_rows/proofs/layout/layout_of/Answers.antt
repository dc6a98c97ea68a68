use Rattle.std.proofs.Common.{◌≡◌, ◌+◌, ◌<◌, length, slice_index_or, sym, ◌∙◌, ap, subst, arith}
use Rattle.std.proofs.lemmas.List.{length_push}
use Rattle.std.specs.List.{Any, Contains}
use Rattle.helix_rows.proofs.Layouts.{layout_is, levels_more}
use Rattle.helix_rows.specs.Inner.Levels.{IsLevel}
use Rattle.helix_rows.proofs.layout.layout_of.Goals as goal

pub level_of-requires : goal.level_of-requires
level_of-requires c =
    subst (Any (λ part. Contains part.fields c.loop-field.field)) (sym c.as_slice.ensures)
    (c.requires.covered c.loop-field.field c.loop-field-test.true)

pub loop-field-preserved : goal.loop-field-preserved
loop-field-preserved c = record {
  count = ap length c.in_ok-push.ensures.ok
      ∙ (length_push c.loop-field.levels c.level_of.result ∙ ap (λ n. n + 1) c.loop-field.invariant.count);
  levels = λ field less.
      subst (λ levels. IsLevel c.args.parts field (slice_index_or levels field (record { part = 0; position = 0 })))
      (sym c.in_ok-push.ensures.ok)
      (levels_more c.args.parts c.loop-field.levels c.loop-field.field c.level_of.result c.loop-field.invariant.count
      c.loop-field.invariant.levels
      (subst (λ parts. IsLevel parts c.loop-field.field c.level_of.result) c.as_slice.ensures c.level_of.ensures) field
      less);
}

pub returns-clause-layout : goal.returns-clause-layout
returns-clause-layout c =
    let end : c.loop-field.field ≡ c.args.fields = omega (arith, c.loop-field-test.false, c.loop-field.auto.field-end)
    in
    layout_is (record { parts = c.args.parts; levels = c.loop-field.levels }) c.args.fields c.requires
    (λ field less. c.loop-field.invariant.levels field (subst (λ n. field < n) (sym end) less))
    (c.loop-field.invariant.count ∙ end)
