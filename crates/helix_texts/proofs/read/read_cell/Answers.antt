use Rattle.std.proofs.Common.{sym, ◌∙◌}
use Rattle.helix_values.specs.View.{cell_of}
use Rattle.helix_values.proofs.ClassLaws.{class_of_value}
use Rattle.helix_texts.proofs.TextLaws.{one_value, no_other_value, written_at}
use Rattle.helix_texts.proofs.read.read_cell.Goals as goal

pub returns-in_default-clause-written : goal.returns-in_default-clause-written
returns-in_default-clause-written c = λ value within same.
    absurd (c.in_default.ensures.none value within (written_at c.args.kind c.args.text.now value within same).reads)

pub returns-then-not-in_universe-clause-refused : goal.returns-then-not-in_universe-clause-refused
returns-then-not-in_universe-clause-refused c = λ refused value spells.
    no_other_value c.args.kind c.args.text.now (cell_of c.in-Some.cell) value c.in-Some.ensures.class
    c.in-Some.ensures.some
    (λ within. let is = c.in_universe.ensures.1 within in cc) spells

pub returns-then-not-in_universe-clause-written : goal.returns-then-not-in_universe-clause-written
returns-then-not-in_universe-clause-written c = λ value within same.
    absurd
    (no_other_value c.args.kind c.args.text.now (cell_of c.in-Some.cell) value c.in-Some.ensures.class
    c.in-Some.ensures.some
    (λ inside. let is = c.in_universe.ensures.1 inside in
    cc) (written_at c.args.kind c.args.text.now value within same))

pub returns-clause-written : goal.returns-clause-written
returns-clause-written c = λ value within same.
    c.in_ok-owned.ensures
    ∙ one_value c.args.text.now (cell_of c.in-Some.cell) value (c.in-Some.ensures.class
    ∙ sym (class_of_value c.args.kind value within)) c.in-Some.ensures.some
    (written_at c.args.kind c.args.text.now value within same).reads
