use Rattle.std.proofs.Common.{rules, ◌≡◌, ◌+ℤ◌, arith, pos, ap, to_z, of_z, ◌∙◌, w64, subst, min}
use Rattle.std.specs.Prelude.{unsigned_abs}
use Rattle.jiff_core.specs.Calendar.{days_in_month}
use Rattle.std.proofs.lemmas.Int.{ints}
use Rattle.std.specs.Int.{w16}
use Rattle.helix_ladders.specs.Calendar.{day_number}
use Rattle.helix_ladders.proofs.CivilDates.{in_calendar}
use Rattle.helix_ladders.proofs.JiffDates.{number_of}
use Rattle.helix_ladders.proofs.calendar.day_number.Goals as goal

counted : (c : goal.After-from) → to_z w64 (of_z w64 (to_z w64 (of_z w64 c.from.result) +ℤ pos 719162))
    ≡ pos (day_number c.args.year c.args.month c.args.day)
counted c =
    let year : to_z w16 c.args.year ≡ pos c.args.year = omega (arith, ints) in
    number_of c.constrain-date.result c.args.year c.args.month c.args.day _ c.requires
    (c.constrain-date.ensures.year ∙ year) c.constrain-date.ensures.month
    (subst (λ y. c.constrain-date.result.day ≡ min c.args.day (days_in_month y c.args.month)) year
    c.constrain-date.ensures.day)
    (omega (arith, ints, c.to_unix_epoch_day.ensures.bound, c.to_unix_epoch_day.ensures.value))

pub overflow_cast-result : goal.overflow_cast-result
overflow_cast-result c =
    let within = in_calendar c.args.year c.args.month c.args.day c.requires in
    rw (counted c) (search rules)

pub returns : goal.returns
returns c = ap unsigned_abs (counted c)
