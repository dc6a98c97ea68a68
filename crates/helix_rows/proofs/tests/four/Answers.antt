use Rattle.std.proofs.Common.{[], ◌∷◌, ◌++◌, ◌∙◌, ap}
use Rattle.helix_rows.proofs.Four.{some_row}
use Rattle.helix_rows.proofs.tests.four.Goals as goal

pub returns : goal.returns
returns c = record {
  first = c.in_ok-region.field-0;
  second = c.in_ok-region-2.field-0;
  third = c.in_ok-region-3.field-0;
  fourth = c.in_ok-region-4.field-0;
  are = c.in_ok-push-4.ensures.items ∙ ap (λ l. l ++ c.in_ok-region-4.field-0 ∷ [])
      (c.in_ok-push-3.ensures.items ∙ ap (λ l. l ++ c.in_ok-region-3.field-0 ∷ [])
      (c.in_ok-push-2.ensures.items ∙ ap (λ l. l ++ c.in_ok-region-2.field-0 ∷ [])
      (c.in_ok-push.ensures.items ∙ ap (λ l. l ++ c.in_ok-region.field-0 ∷ []) c.new-regions.ensures.items)));
  fields_first = ap (λ f. f.0 ∷ f.1 ∷ []) c.in_ok-region.ensures.fields;
  row_first = some_row c.in_ok-region.field-0.rows.items c.in_ok-region.ensures.rows;
  fields_second = ap (λ f. f.0 ∷ f.1 ∷ []) c.in_ok-region-2.ensures.fields;
  row_second = some_row c.in_ok-region-2.field-0.rows.items c.in_ok-region-2.ensures.rows;
  fields_third = ap (λ f. f.0 ∷ f.1 ∷ []) c.in_ok-region-3.ensures.fields;
  row_third = some_row c.in_ok-region-3.field-0.rows.items c.in_ok-region-3.ensures.rows;
  fields_fourth = ap (λ f. f.0 ∷ f.1 ∷ []) c.in_ok-region-4.ensures.fields;
  row_fourth = some_row c.in_ok-region-4.field-0.rows.items c.in_ok-region-4.ensures.rows;
}
