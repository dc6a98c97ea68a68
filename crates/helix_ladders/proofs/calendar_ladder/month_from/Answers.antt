use Rattle.std.proofs.Common.{ℕ, ◌≤◌, ◌≤ℤ◌, FitsSigned, to_z-of_z}
use Rattle.std.specs.Int.{w128}
use Rattle.helix_ladders.specs.Calendar.{midnight}
use Rattle.helix_ladders.proofs.MonthStarts.{month_start_reached}
use Rattle.helix_ladders.proofs.calendar_ladder.month_from.Goals as goal

pub returns-in-None-clause-none : goal.returns-in-None-clause-none
returns-in-None-clause-none c = λ v h.
    let fits : FitsSigned w128 c.args.from = c.ranges.from in
    let least : (day : ℕ) → c.args.from ≤ℤ midnight day
    → c.day_from.result ≤ day = simp to_z-of_z at c.day_from.ensures.least in
    c.in-None.ensures.none v (month_start_reached c.day_from.result c.args.from v least h.reached h.on_grid) h.on_grid
