use Rattle.std.proofs.Common.{sym, ◌∙◌, eq-eqb}
use Rattle.helix_ladders.proofs.Midnights.{equal_from, read_moment, read_none, year_start_day, year_start_of, year_start_begins}
use Rattle.helix_ladders.proofs.grids.is_year_start.Goals as goal

pub returns-then-date-eq1 : goal.returns-then-date-eq1
returns-then-date-eq1 c = (
  λ first.
      year_start_of c.args.at c.in-Some.day c.date_of-date.result.year c.date_of-date.result.month
      c.date_of-date.result.day
      (read_moment c.args.at c.in-Some.day c.ranges.at c.in-Some.ensures.begins) c.date_of-date.ensures.date
      c.date_of-date.ensures.number c.if-date-eq1.true (equal_from _ _ first),
  λ start. eq-eqb _ _ (sym c.date_of-date.ensures.day
      ∙ (year_start_day c.args.at c.in-Some.day
      (read_moment c.args.at c.in-Some.day c.ranges.at c.in-Some.ensures.begins)
      start).1),
)

pub returns-else-date-eq1 : goal.returns-else-date-eq1
returns-else-date-eq1 c = (
  λ january. absurd (c.if-date-eq1.false (equal_from _ _ january)),
  λ start. eq-eqb _ _ (sym c.date_of-date.ensures.month
      ∙ (year_start_day c.args.at c.in-Some.day
      (read_moment c.args.at c.in-Some.day c.ranges.at c.in-Some.ensures.begins)
      start).0),
)

pub returns-in-None : goal.returns-in-None
returns-in-None c = (
  (λ never. cc),
  λ start. absurd (year_start_begins c.args.at (read_none c.args.at c.ranges.at c.in-None.ensures.none) start),
)
