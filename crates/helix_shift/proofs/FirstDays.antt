-- The first day that is shifted far enough, by the order of what days are shifted to.
use Rattle.std.proofs.Common.{◌≡◌, ℕ, ◌+◌, ◌-◌, ◌<◌, ◌≤◌, ℤ, pos, negsuc, ◌<ℤ◌, ◌≤ℤ◌, sym, subst, arith}
use Rattle.std.proofs.Common.{⊎_elim}
use Rattle.std.proofs.lemmas.Bool.{cases_lt}
use Rattle.std.proofs.lemmas.Int.{ints}
use Rattle.helix_ladders.specs.Calendar.{days_of_calendar, last_moment, day_of, midnight}
use Rattle.helix_ladders.specs.Rising.{IsShiftedTo}
use Rattle.helix_ladders.specs.Scale.{IsLeast}
use Rattle.helix_ladders.specs.Shift.{after_all, shifted}
use Rattle.helix_ladders.specs.declared.offset.Offset.{Offset}
use Rattle.helix_shift.specs.DayOffset.{IsDayOffset}
use Rattle.helix_shift.specs.Inner.Days.{shifted_day, IsFirstDay, IsOutOfReach}
use Rattle.helix_shift.specs.ShiftLaws.{shifted_of_day, shifted_day_to, shifted_day_rises}

module _ (offset : Offset) (target : ℤ) where
  -- where a day isn't shifted far enough, no day up to it is
  pub none_up_to : (day : ℕ) → day < days_of_calendar → shifted_day offset day <ℤ target
      → (earlier : ℕ) → earlier < day + 1 → shifted_day offset earlier <ℤ target
  none_up_to day within short earlier below =
      omega (arith, ints, shifted_day_rises offset earlier day (omega arith) within)

  -- so a day is the first one where the day before isn't shifted far enough
  pub first_after_short : (day : ℕ) → day < days_of_calendar → target ≤ℤ shifted_day offset day
      → shifted_day offset (day - 1) <ℤ target → IsFirstDay offset target day
  first_after_short day within reached short = record {
    in_calendar = within;
    reached = reached;
    first = λ earlier below. none_up_to (day - 1) (omega arith) short earlier (omega arith);
  }

  module _ (is : IsDayOffset offset) where
    -- no day is shifted beyond the calendar's end
    pub none_beyond : after_all <ℤ target → IsOutOfReach offset target
    none_beyond beyond day within = omega (arith, ints, shifted_day_to offset day is within)

    reached_by_day : (v : ℤ) → target ≤ℤ shifted offset v → target ≤ℤ shifted_day offset (day_of v)
    reached_by_day v reached = subst (λ at. target ≤ℤ at) (shifted_of_day offset v is) reached

    day_within : (v : ℤ) → day_of v < days_of_calendar
    day_within (pos n) = omega arith
    day_within (negsuc n) = omega arith

    day_begins : (v : ℤ) → pos 0 ≤ℤ v → v ≤ℤ pos last_moment → midnight (day_of v) ≤ℤ v
    day_begins (pos n) from_first to_last = omega (arith, ints)
    day_begins (negsuc n) from_first to_last = absurd (omega (arith, ints))

    day_of-midnight : (day : ℕ) → day < days_of_calendar → day_of (midnight day) ≡ day
    day_of-midnight day within = omega arith

    -- the first day's midnight is the least moment
    pub first_day_least : (day : ℕ) → IsFirstDay offset target day
        → IsLeast (IsShiftedTo (pos 0) (pos last_moment) (λ v. shifted offset v) target) (midnight day)
    first_day_least day first = record {
      has = record {
        from_low = omega (arith, ints);
        to_high = omega (arith, ints, first.in_calendar);
        reached = subst (λ at. target ≤ℤ at) (sym (shifted_of_day offset (midnight day) is))
            (subst (λ d. target ≤ℤ shifted_day offset d) (sym (day_of-midnight day first.in_calendar)) first.reached);
      };
      least = λ w h. least_of w h.from_low h.to_high (reached_by_day w h.reached);
    }
      where
        least_of : (w : ℤ) → pos 0 ≤ℤ w → w ≤ℤ pos last_moment → target ≤ℤ shifted_day offset (day_of w)
            → midnight day ≤ℤ w
        least_of w from_first to_last reached =
            ⊎_elim {A = day_of w < day} {B = day ≤ day_of w}
            (λ before. absurd (omega (arith, ints, first.first (day_of w) before)))
            (λ is_after. omega (arith, ints, day_begins w from_first to_last))
            (cases_lt (day_of w) day)

    -- and where no day is shifted so far, no moment is
    pub no_moment : IsOutOfReach offset target → (v : ℤ)
        → ¬ IsShiftedTo (pos 0) (pos last_moment) (λ v. shifted offset v) target v
    no_moment none v shifted_so = omega (
      arith,
      ints,
      none (day_of v) (day_within v),
      reached_by_day v shifted_so.reached,
    )
