use Rattle.std.proofs.Common.{rules, arith, ap, FitsSigned, to_z-of_z}
use Rattle.std.specs.Prelude.{unsigned_abs}
use Rattle.std.specs.Int.{w16}
use Rattle.jiff_core.proofs.SignedLemmas.{signed_arith}
use Rattle.helix_ladders.proofs.JiffDates.{parts_of_date, positive_year}
use Rattle.helix_ladders.proofs.calendar.parts_of.Goals as goal

pub overflow_cast-result : goal.overflow_cast-result
overflow_cast-result c =
    let fits : FitsSigned w16 c.args.date.year = omega (arith, signed_arith, c.args.date.year_in) in
    rw (to_z-of_z, positive_year c.args.date c.args.day c.requires.number) (search rules)

pub returns-clause-date : goal.returns-clause-date
returns-clause-date c =
    let fits : FitsSigned w16 c.args.date.year = omega (arith, signed_arith, c.args.date.year_in) in
    (parts_of_date c.args.date _ _ _ c.args.day (ap unsigned_abs (to_z-of_z fits)) c.from.ensures c.from-2.ensures
    c.requires.number).date

pub returns-clause-number : goal.returns-clause-number
returns-clause-number c =
    let fits : FitsSigned w16 c.args.date.year = omega (arith, signed_arith, c.args.date.year_in) in
    (parts_of_date c.args.date _ _ _ c.args.day (ap unsigned_abs (to_z-of_z fits)) c.from.ensures c.from-2.ensures
    c.requires.number).number

pub returns-clause-year : goal.returns-clause-year
returns-clause-year c =
    let fits : FitsSigned w16 c.args.date.year = omega (arith, signed_arith, c.args.date.year_in) in
    (parts_of_date c.args.date _ _ _ c.args.day (ap unsigned_abs (to_z-of_z fits)) c.from.ensures c.from-2.ensures
    c.requires.number).year

pub returns-clause-month : goal.returns-clause-month
returns-clause-month c =
    let fits : FitsSigned w16 c.args.date.year = omega (arith, signed_arith, c.args.date.year_in) in
    (parts_of_date c.args.date _ _ _ c.args.day (ap unsigned_abs (to_z-of_z fits)) c.from.ensures c.from-2.ensures
    c.requires.number).month

pub returns-clause-day : goal.returns-clause-day
returns-clause-day c =
    let fits : FitsSigned w16 c.args.date.year = omega (arith, signed_arith, c.args.date.year_in) in
    (parts_of_date c.args.date _ _ _ c.args.day (ap unsigned_abs (to_z-of_z fits)) c.from.ensures c.from-2.ensures
    c.requires.number).of_month
