-- The end of a time, a time and a moment, read from a text.
use Rattle.std.proofs.Common.{◌≡◌, ℕ, ◌+◌, ◌-◌, ◌*◌, ◌^◌, ◌<◌, ◌≤◌, inl, inr, ℤ, List, [], ◌∷◌, ◌++◌, length, length-append, get_or, Bool, true, false, ◌==◌, refl, sym, ap, ◌∙◌, subst, arith}
use Rattle.std.proofs.Common.{append-nil}
use Rattle.std.proofs.Math.Nat.{mod-eq_of_lt, mul-le-mul_right}
use Rattle.std.proofs.lemmas.Nat.{pow-add}
use Rattle.helix_json.specs.Numbers.{digits_value, fraction_text}
use Rattle.helix_base.specs.Digits.{AreDigits}
use Rattle.helix_base.specs.Inner.DigitLaws.{bounds_at}
use Rattle.helix_json.specs.Inner.DecimalLaws.{some_power}
use Rattle.helix_ladders.specs.Calendar.{IsDate}
use Rattle.helix_texts.specs.Texts.{last_digits, clock_text}
use Rattle.helix_texts.specs.Inner.Reading.{IsClock, BeginsWithThree, BeginsWithDate, TakesZulu, IsTimeEnd, CountsTimeEnd, IsTimeAfter, CountsTime}
use Rattle.helix_texts.specs.Spelling.{Time, zulu_text, full_time_text, SpellsMoment}
use Rattle.helix_texts.proofs.DecimalTexts.{last_digits_are, last_digits-from}
use Rattle.helix_texts.proofs.FixedDigits.{same_prefixes}
use Rattle.helix_texts.proofs.MomentTexts.{AreSameThrees}
use Rattle.helix_texts.proofs.WrittenDigits.{digits_write}
use Rattle.helix_texts.proofs.ReadMoments.{threes_found, date_begins}

pub not_empty : (l : List ℕ) → (length l == 0) ≡ false → l ≡ [] → ⊥
not_empty [] some none = cc
not_empty (c ∷ l) some none = cc

pub some_length : (l : List ℕ) → (length l == 0) ≡ false → 0 < length l
some_length [] some = cc
some_length (c ∷ l) some = omega arith

-- the numbers found are no date: then there is no date
pub no_date : (codes : List ℕ) (a b c y m d : ℕ) (rest rest₂ : List ℕ) → BeginsWithThree codes 4 45 a b c rest
    → (IsDate a b c → ⊥) → BeginsWithDate codes y m d rest₂ → ⊥
no_date codes a b c y m d rest rest₂ found none begins =
    let same = threes_found codes 4 45 a b c y m d rest rest₂ found (date_begins codes y m d rest₂ begins) in
    none (subst (λ i. IsDate i b c) (sym same.first)
    (subst (λ i. IsDate y i c) (sym same.second) (subst (λ i. IsDate y m i) (sym same.third) begins.date)))

-- without its `Z` the end of a time is its fraction
end_taken : (prefix other : List ℕ) → prefix ++ 90 ∷ [] ≡ other ++ 90 ∷ [] → prefix ≡ other
end_taken prefix other same =
    (same_prefixes prefix (90 ∷ []) other (90 ∷ []) (omega (
      arith,
      ap length same,
      length-append prefix (90 ∷ []),
      length-append other (90 ∷ []),
    )) same).0

get_after : (prefix : List ℕ) (c : ℕ) → get_or (prefix ++ c ∷ []) (length prefix) 0 ≡ c
get_after [] c = refl
get_after (d ∷ prefix) c = get_after prefix c

no_end : (fraction prefix : List ℕ) → AreDigits fraction → fraction_text fraction ≡ prefix ++ 90 ∷ [] → ⊥
no_end [] [] digits same = cc
no_end [] (d ∷ prefix) digits same = cc
no_end (c ∷ cs) [] digits same = absurd (let e : c ∷ cs ≡ [] = cc in cc)
no_end (c ∷ cs) (d ∷ prefix) digits same =
    let after : c ∷ cs ≡ prefix ++ 90 ∷ [] = cc in
    let within : length prefix < length (c ∷ cs) = omega (arith, ap length after, length-append prefix (90 ∷ [])) in
    let digit = bounds_at (c ∷ cs) (length prefix) within digits in
    omega (arith, digit.1, ap (λ l. get_or l (length prefix) 0) after, get_after prefix 90)

pub end_prefix : (text prefix fraction : List ℕ) (zulu : Bool) → TakesZulu text prefix → IsTimeEnd text fraction zulu
    → prefix ≡ fraction_text fraction
end_prefix text prefix fraction true (inl taken) end = end_taken prefix (fraction_text fraction) (sym taken ∙ end.is)
end_prefix text prefix fraction true (inr none) end = absurd (none.1 (fraction_text fraction) end.is)
end_prefix text prefix fraction false (inl taken) end =
    absurd (no_end fraction prefix end.digits (sym (append-nil _) ∙ (sym end.is ∙ taken)))
end_prefix text prefix fraction false (inr none) end = sym none.0 ∙ (end.is ∙ append-nil _)

pub no_point_there : (text prefix fraction : List ℕ) (zulu : Bool) → TakesZulu text prefix → (prefix ≡ [] → ⊥)
    → ((rest : List ℕ) → prefix ≡ 46 ∷ rest → ⊥) → IsTimeEnd text fraction zulu → ⊥
no_point_there text prefix [] zulu takes some none end = some (end_prefix text prefix [] zulu takes end)
no_point_there text prefix (c ∷ cs) zulu takes some none end =
    none (c ∷ cs) (end_prefix text prefix (c ∷ cs) zulu takes end)

-- after the point are the digits of the fraction
pub digits_there : (text prefix digits fraction : List ℕ) (zulu : Bool) → TakesZulu text prefix → prefix ≡ 46 ∷ digits
    → IsTimeEnd text fraction zulu → (digits ≡ fraction) × (0 < length digits)
digits_there text prefix digits [] zulu takes point end =
    absurd (let e : 46 ∷ digits ≡ [] = sym point ∙ end_prefix text prefix [] zulu takes end in cc)
digits_there text prefix digits (c ∷ cs) zulu takes point end =
    let e : 46 ∷ digits ≡ 46 ∷ (c ∷ cs) = sym point ∙ end_prefix text prefix (c ∷ cs) zulu takes end in
    let same : digits ≡ c ∷ cs = cc in
    (same, omega (arith, ap length same))

pub no_digits : (text prefix digits fraction : List ℕ) (zulu : Bool) → TakesZulu text prefix → prefix ≡ 46 ∷ digits
    → ((n : ℕ) → digits ≡ last_digits (length digits) n → ⊥) → IsTimeEnd text fraction zulu → ⊥
no_digits text prefix digits fraction zulu takes point none end =
    let there = digits_there text prefix digits fraction zulu takes point end in
    let writes = digits_write digits (subst AreDigits (sym there.0) end.digits) in
    none writes.0 writes.2

zulu_of : (text prefix : List ℕ) → TakesZulu text prefix → (zulu : Bool) × (text ≡ prefix ++ zulu_text zulu)
zulu_of text prefix (inl taken) = (true, taken)
zulu_of text prefix (inr none) = (false, none.0 ∙ sym (append-nil prefix))

point_text : (digits : List ℕ) → 0 < length digits → 46 ∷ digits ≡ fraction_text digits
point_text [] some = absurd (omega arith)
point_text (d ∷ ds) some = refl

-- the thousandths that digits after the point count
pub counts_end : (text prefix digits : List ℕ) (n power : ℕ) → TakesZulu text prefix → prefix ≡ 46 ∷ digits
    → 0 < length digits → length digits ≤ 3
    → digits ≡ last_digits (length digits) n → n < 10 ^ length digits → power ≡ 10 ^ (3 - length digits)
    → CountsTimeEnd text (n * power)
counts_end text prefix digits n power takes point some most is small factor =
    let zulu = zulu_of text prefix takes in
    let value : digits_value digits ≡ n = ap digits_value is
    ∙ (last_digits-from (length digits) 0 n ∙ omega (arith, mod-eq_of_lt small)) in
    record {
      fraction = digits;
      zulu = zulu.0;
      end = record {
        digits = subst AreDigits (sym is) (last_digits_are (length digits) n);
        places = most;
        is = zulu.1 ∙ ap (λ l. l ++ zulu_text zulu.0) (point ∙ point_text digits some);
      };
      value = ap (λ v. v * power) (sym value) ∙ ap (λ p. digits_value digits * p) factor;
    }

pub thousandths_small : (n places power : ℕ) → n < 10 ^ places → places ≤ 3 → power ≡ 10 ^ (3 - places)
    → n * power < 1000
thousandths_small n places power small most factor =
    let sum : places + (3 - places) ≡ 3 = omega arith in
    let all : 10 ^ places * 10 ^ (3 - places) ≡ 1000 = sym (pow-add 10 places (3 - places)) ∙ ap (λ k. 10 ^ k) sum in
    let below : n + 1 ≤ 10 ^ places = omega arith in
    omega (arith, mul-le-mul_right (10 ^ (3 - places)) below, all, some_power (3 - places), ap (λ p. n * p) factor)

-- the numbers of a time, and what follows them
pub time_prefix : (codes text : List ℕ) (a b c : ℕ) (rest : List ℕ) (time : Time) → codes ≡ 84 ∷ text
    → BeginsWithThree text 2 58 a b c rest → IsTimeAfter codes time
    → AreSameThrees a b c time.hour time.minute time.second rest (fraction_text time.fraction ++ zulu_text time.zulu)
time_prefix codes text a b c rest time mark found after =
    let same : 84 ∷ text ≡ 84 ∷ full_time_text time = sym mark ∙ after.is in
    let texts : text ≡ full_time_text time = cc in
    threes_found text 2 58 a b c time.hour time.minute time.second rest
    (fraction_text time.fraction ++ zulu_text time.zulu) found
    (record {
      first = omega (arith, after.of_day.hour);
      second = omega (arith, after.of_day.minute);
      third = omega (arith, after.of_day.second);
      is = texts;
    })

pub no_clock : (codes text : List ℕ) (a b c : ℕ) (rest : List ℕ) (time : Time) → codes ≡ 84 ∷ text
    → BeginsWithThree text 2 58 a b c rest → (IsClock a b c → ⊥) → IsTimeAfter codes time → ⊥
no_clock codes text a b c rest time mark found none after =
    let same = time_prefix codes text a b c rest time mark found after in
    none (record {
      hours = omega (arith, same.first, after.of_day.hour);
      minutes = omega (arith, same.second, after.of_day.minute);
      seconds = omega (arith, same.third, after.of_day.second);
    })

pub no_time_end : (codes text : List ℕ) (a b c : ℕ) (rest : List ℕ) (time : Time) → codes ≡ 84 ∷ text
    → BeginsWithThree text 2 58 a b c rest
    → ((fraction : List ℕ) (zulu : Bool) → IsTimeEnd rest fraction zulu → ⊥) → IsTimeAfter codes time → ⊥
no_time_end codes text a b c rest time mark found none after =
    none time.fraction time.zulu
    (record {
      digits = after.of_day.fraction;
      places = after.of_day.places;
      is = (time_prefix codes text a b c rest time mark found after).after;
    })

pub counts_time : (codes text : List ℕ) (a b c n : ℕ) (rest : List ℕ) → codes ≡ 84 ∷ text
    → BeginsWithThree text 2 58 a b c rest → IsClock a b c → CountsTimeEnd rest n
    → CountsTime codes (((a * 60 + b) * 60 + c) * 1000 + n)
counts_time codes text a b c n rest mark found clock counted = record {
  time = record { hour = a; minute = b; second = c; fraction = counted.fraction; zulu = counted.zulu };
  after = record {
    of_day = record {
      hour = clock.hours;
      minute = clock.minutes;
      second = clock.seconds;
      fraction = counted.end.digits;
      places = counted.end.places;
    };
    is = mark ∙ ap (λ l. 84 ∷ l) (found.is ∙ ap (λ l. clock_text a b c ++ l) counted.end.is);
  };
  value = ap (λ v. ((a * 60 + b) * 60 + c) * 1000 + v) counted.value;
}

-- a moment text begins with a date
pub no_moment : (text : List ℕ) (at : ℤ) → ((y m d : ℕ) (rest : List ℕ) → BeginsWithDate text y m d rest → ⊥)
    → SpellsMoment text at → ⊥
no_moment text at none (inl alone) = none alone.year alone.month alone.day [] (record {
  date = alone.date;
  is = alone.is ∙ sym (append-nil _);
})
no_moment text at none (inr timed) = none timed.year timed.month timed.day (84 ∷ full_time_text timed.time)
    (record { date = timed.date; is = timed.is })

-- and has nothing but a time after it
pub no_time : (text : List ℕ) (y m d : ℕ) (rest : List ℕ) (at : ℤ) → BeginsWithDate text y m d rest → (rest ≡ [] → ⊥)
    → ((time : Time) → IsTimeAfter rest time → ⊥) → SpellsMoment text at → ⊥
no_time text y m d rest at found some none (inl alone) =
    some (threes_found text 4 45 y m d alone.year alone.month alone.day rest [] (date_begins text y m d rest found)
    (date_begins text alone.year alone.month alone.day [] (record {
      date = alone.date;
      is = alone.is ∙ sym (append-nil _);
    }))).after
no_time text y m d rest at found some none (inr timed) =
    none timed.time
    (record {
      of_day = timed.of_day;
      is = (threes_found text 4 45 y m d timed.year timed.month timed.day rest (84 ∷ full_time_text timed.time)
          (date_begins text y m d rest found)
          (date_begins text timed.year timed.month timed.day (84 ∷ full_time_text timed.time) (record {
            date =
                timed.date;
            is = timed.is;
          }))).after;
    })
