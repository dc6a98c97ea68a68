use Rattle.std.proofs.Common.{sym, ◌∙◌, eq-eqb}
use Rattle.helix_ladders.proofs.Midnights.{equal_from, read_moment, read_none, month_start_day, month_start_of, month_start_begins}
use Rattle.helix_ladders.proofs.grids.is_month_start.Goals as goal

pub returns-in-Some : goal.returns-in-Some
returns-in-Some c = (
  λ first.
      month_start_of c.args.at c.in-Some.day c.date_of.result.year c.date_of.result.month c.date_of.result.day
      (read_moment c.args.at c.in-Some.day c.ranges.at c.in-Some.ensures.begins) c.date_of.ensures.date
      c.date_of.ensures.number (equal_from _ _ first),
  λ start.
      eq-eqb _ _ (sym c.date_of.ensures.day ∙ month_start_day c.args.at c.in-Some.day
      (read_moment c.args.at c.in-Some.day c.ranges.at c.in-Some.ensures.begins) start),
)

pub returns-in-None : goal.returns-in-None
returns-in-None c = (
  (λ never. cc),
  λ start. absurd (month_start_begins c.args.at (read_none c.args.at c.ranges.at c.in-None.ensures.none) start),
)
