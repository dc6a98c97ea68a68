-- A moment text spells one moment, and the written form of a moment spells it.
use Rattle.std.proofs.Common.{◌≡◌, ℕ, ◌-◌, ◌*◌, ◌/◌, ◌%◌, ◌^◌, ◌<◌, ◌≤◌, ℤ, pos, negsuc, List, [], ◌∷◌, ◌++◌, length, append_assoc, Bool, true, false, inl, inr, refl, sym, ap, ◌∙◌, arith}
use Rattle.std.proofs.lemmas.Int.{ints}
use Rattle.std.proofs.lemmas.List.{append-nil}
use Rattle.helix_json.specs.Numbers.{fraction_text, digits_value}
use Rattle.helix_base.specs.Digits.{AreDigits}
use Rattle.helix_json.specs.Inner.Pieces.{NoDigit}
use Rattle.helix_json.specs.Inner.PartsLaws.{digits_unique}
use Rattle.helix_values.specs.declared.kind.Kind.TheVariants as kind
use Rattle.helix_ladders.specs.Calendar.{IsDate, IsMoment, year_of, month_of, day_of_month, day_number, day_of, midnight, millis_of_day}
use Rattle.helix_ladders.specs.Grids.{IsMultipleOf}
use Rattle.helix_texts.specs.Texts.{last_digits, date_text, clock_text, day_text, time_text, moment_text}
use Rattle.helix_texts.specs.Spelling.{Time, IsTime, zulu_text, full_time_text, thousandths, millis_of_time, SpellsMoment}
use Rattle.helix_texts.specs.Inner.Reading.{three_text}
use Rattle.helix_texts.proofs.DecimalTexts.{last_digits_are, last_digits-from}
use Rattle.helix_texts.proofs.FixedDigits.{same_numbers, length-last_digits}
use Rattle.helix_ladders.proofs.MonthStarts.{month_bound}
use Rattle.helix_ladders.proofs.DaysHaveDates.{day_has_date}
use Rattle.helix_base.specs.Inner.DigitLaws.{digit_bounds}

-- two lists of three numbers with one text in prefix are one
pub record AreSameThrees (a b c a₂ b₂ c₂ : ℕ) (rest rest₂ : List ℕ) : Type 0 where
  pub first : a ≡ a₂
  pub second : b ≡ b₂
  pub third : c ≡ c₂
  pub after : rest ≡ rest₂

pub same_threes : (width mark a b c a₂ b₂ c₂ : ℕ) (rest rest₂ : List ℕ) → a < 10 ^ width → b < 10 ^ 2 → c < 10 ^ 2
    → a₂ < 10 ^ width → b₂ < 10 ^ 2 → c₂ < 10 ^ 2
    → three_text width mark a b c ++ rest ≡ three_text width mark a₂ b₂ c₂ ++ rest₂
    → AreSameThrees a b c a₂ b₂ c₂ rest rest₂
same_threes width mark a b c a₂ b₂ c₂ rest rest₂ sa sb sc sa₂ sb₂ sc₂ same =
    let flat = simp append_assoc at same in
    let firsts = same_numbers width a a₂ _ _ sa sa₂ flat in
    let seconds = same_numbers 2 b b₂ _ _ sb sb₂ (after_mark firsts.1) in
    let thirds = same_numbers 2 c c₂ _ _ sc sc₂ (after_mark seconds.1) in
    record { first = firsts.0; second = seconds.0; third = thirds.0; after = thirds.1 }
  where
    after_mark : {c : ℕ} {a b : List ℕ} → c ∷ a ≡ c ∷ b → a ≡ b
    after_mark is = cc

pub small_date : (y m d : ℕ) → IsDate y m d → (y < 10 ^ 4) × (m < 10 ^ 2) × (d < 10 ^ 2)
small_date y m d date = (
  omega (arith, date.year_to_9999),
  omega (arith, date.month_to_12),
  omega (arith, date.day_to_last, month_bound y m date.month_from_1 date.month_to_12),
)

-- and so are two times
zulu_begins : (zulu : Bool) → NoDigit (zulu_text zulu)
zulu_begins true = λ d. let b : (48 ≤ 90) × (90 ≤ 57) = digit_bounds 90 d in omega arith
zulu_begins false = tt

head_is : {c d : ℕ} {a b : List ℕ} → c ∷ a ≡ d ∷ b → c ≡ d
head_is same = cc

same_fractions : (a b : List ℕ) (z w : Bool) → AreDigits a → AreDigits b
    → fraction_text a ++ zulu_text z ≡ fraction_text b ++ zulu_text w → a ≡ b
same_fractions [] [] z w first second same = refl
same_fractions [] (c ∷ b) true w first second same = absurd (omega (arith, head_is {c = 90} {d = 46} same))
same_fractions [] (c ∷ b) false w first second same = absurd cc
same_fractions (c ∷ a) [] z true first second same = absurd (omega (arith, head_is {c = 46} {d = 90} same))
same_fractions (c ∷ a) [] z false first second same = absurd cc
same_fractions (c ∷ a) (d ∷ b) z w first second same =
    let rest : (c ∷ a) ++ zulu_text z ≡ (d ∷ b) ++ zulu_text w = cc in
    (digits_unique (c ∷ a) (zulu_text z) (d ∷ b) (zulu_text w) first (zulu_begins z) second (zulu_begins w) rest).0

pub same_times : (t u : Time) → IsTime t → IsTime u → full_time_text t ≡ full_time_text u
    → millis_of_time t ≡ millis_of_time u
same_times t u first second same =
    let clocks =
    same_threes 2 58 t.hour t.minute t.second u.hour u.minute u.second (fraction_text t.fraction ++ zulu_text t.zulu)
    (fraction_text u.fraction ++ zulu_text u.zulu)
    (omega (arith, first.hour)) (omega (arith, first.minute)) (omega (arith, first.second)) (omega (arith, second.hour))
    (omega (arith, second.minute)) (omega (arith, second.second)) same in
    omega (
      arith,
      clocks.first,
      clocks.second,
      clocks.third,
      ap thousandths (same_fractions t.fraction u.fraction t.zulu u.zulu first.fraction second.fraction clocks.after),
    )

same_day_numbers : (y m d y₂ m₂ d₂ : ℕ) (rest rest₂ : List ℕ) → AreSameThrees y m d y₂ m₂ d₂ rest rest₂
    → day_number y m d ≡ day_number y₂ m₂ d₂
same_day_numbers y m d y₂ m₂ d₂ rest rest₂ same =
    ap (λ a. day_number a m d) same.first ∙ (ap (λ b. day_number y₂ b d) same.second ∙ ap (day_number y₂ m₂) same.third)

same_date_texts : (y m d y₂ m₂ d₂ : ℕ) (rest rest₂ text : List ℕ) → IsDate y m d → IsDate y₂ m₂ d₂
    → text ≡ date_text y m d ++ rest → text ≡ date_text y₂ m₂ d₂ ++ rest₂
    → AreSameThrees y m d y₂ m₂ d₂ rest rest₂
same_date_texts y m d y₂ m₂ d₂ rest rest₂ text date date₂ is is₂ =
    let small = small_date y m d date in
    let small₂ = small_date y₂ m₂ d₂ date₂ in
    same_threes 4 45 y m d y₂ m₂ d₂ rest rest₂ small.0 small.1 small.2 small₂.0 small₂.1 small₂.2 (sym is ∙ is₂)

pub one_moment : (text : List ℕ) (a b : ℤ) → SpellsMoment text a → SpellsMoment text b → a ≡ b
one_moment text a b (inl first) (inl second) =
    let same =
    same_date_texts first.year first.month first.day second.year second.month second.day [] [] text first.date
    second.date
    (first.is ∙ sym (append-nil _)) (second.is ∙ sym (append-nil _)) in
    first.moment ∙ (ap midnight (same_day_numbers _ _ _ _ _ _ _ _ same) ∙ sym second.moment)
one_moment text a b (inl first) (inr second) =
    let same =
    same_date_texts first.year first.month first.day second.year second.month second.day []
    (84 ∷ full_time_text second.time) text first.date second.date
    (first.is ∙ sym (append-nil _)) second.is in
    let differ : [] ≡ 84 ∷ full_time_text second.time = same.after in
    absurd cc
one_moment text a b (inr first) (inl second) =
    let same =
    same_date_texts second.year second.month second.day first.year first.month first.day []
    (84 ∷ full_time_text first.time) text second.date first.date
    (second.is ∙ sym (append-nil _)) first.is in
    let differ : [] ≡ 84 ∷ full_time_text first.time = same.after in
    absurd cc
one_moment text a b (inr first) (inr second) =
    let same =
    same_date_texts first.year first.month first.day second.year second.month second.day
    (84 ∷ full_time_text first.time) (84 ∷ full_time_text second.time) text first.date second.date
    first.is second.is in
    let after : 84 ∷ full_time_text first.time ≡ 84 ∷ full_time_text second.time = same.after in
    let times : full_time_text first.time ≡ full_time_text second.time = cc in
    let days = same_day_numbers _ _ _ _ _ _ _ _ same in
    first.moment ∙ (ap pos (omega (arith, days, same_times first.time second.time first.of_day second.of_day times))
    ∙ sym second.moment)

-- three digits are a fraction of a second
three_places : (x : ℕ) → 46 ∷ last_digits 3 x ≡ fraction_text (last_digits 3 x) ++ []
unfolding last_digits
three_places x = refl

three_count : (x : ℕ) → x < 1000 → thousandths (last_digits 3 x) ≡ x
three_count x small =
    let places : length (last_digits 3 x) ≡ 3 = length-last_digits 3 x in
    ap (λ k. digits_value (last_digits 3 x) * 10 ^ (3 - k)) places ∙ omega (arith, last_digits-from 3 0 x)

-- the hours, minutes, seconds and milliseconds of a millisecond of a day
time_of : ℕ → Time
time_of millis = record {
  hour = millis / 3600000;
  minute = millis / 60000 % 60;
  second = millis / 1000 % 60;
  fraction = last_digits 3 (millis % 1000);
  zulu = false;
}

time_text_is : (millis : ℕ) → time_text millis ≡ full_time_text (time_of millis)
unfolding time_of
time_text_is millis = ap (λ t. clock_text (millis / 3600000) (millis / 60000 % 60) (millis / 1000 % 60) ++ t)
    (three_places (millis % 1000))

time_is : (millis : ℕ) → millis < 86400000 → IsTime (time_of millis)
unfolding time_of
time_is millis within = record {
  hour = omega arith;
  minute = omega arith;
  second = omega arith;
  fraction = last_digits_are 3 (millis % 1000);
  places = omega (arith, length-last_digits 3 (millis % 1000));
}

time_counts : (millis : ℕ) → millis < 86400000 → millis_of_time (time_of millis) ≡ millis
unfolding time_of
time_counts millis within = omega (arith, three_count (millis % 1000) (omega arith))

pub moment_spells : (at : ℤ) → IsMoment at → SpellsMoment (moment_text kind.DateTime at) at
moment_spells (negsuc n) within = absurd (omega (arith, ints, within.0))
moment_spells (pos n) within =
    let last : n ≤ 315537897599999 = omega (arith, ints, within.1) in
    let day : day_of (pos n) ≡ n / 86400000 = omega arith in
    let dated = day_has_date (day_of (pos n)) (omega arith) in
    inr (record {
      year = year_of (day_of (pos n));
      month = month_of (day_of (pos n));
      day = day_of_month (day_of (pos n));
      time = time_of (n % 86400000);
      date = dated.date;
      of_day = time_is (n % 86400000) (omega arith);
      is = ap (λ t. day_text (day_of (pos n)) ++ 84 ∷ t) (time_text_is (n % 86400000));
      moment = ap pos (omega (arith, dated.number, day, time_counts (n % 86400000) (omega arith)));
    })

pub day_spells : (at : ℤ) → IsMoment at → IsMultipleOf millis_of_day at → SpellsMoment (moment_text kind.Date at) at
day_spells (negsuc n) within whole = absurd (omega (arith, ints, within.0))
day_spells (pos n) within whole =
    let last : n ≤ 315537897599999 = omega (arith, ints, within.1) in
    let day : day_of (pos n) ≡ n / 86400000 = omega arith in
    let dated = day_has_date (day_of (pos n)) (omega arith) in
    inl (record {
      year = year_of (day_of (pos n));
      month = month_of (day_of (pos n));
      day = day_of_month (day_of (pos n));
      date = dated.date;
      is = refl;
      moment = ap pos (omega (arith, dated.number, day));
    })
