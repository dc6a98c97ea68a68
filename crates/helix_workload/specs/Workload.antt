-- The profile of a workload: its numbers, and its text.
use Rattle.std.specs.Prelude.{ℕ, zero, suc, ◌+◌, ◌*◌, ◌^◌, ◌/◌, ◌%◌, nat_lt, if◌then◌else◌, List, [], ◌∷◌, ◌++◌, codes, decimal}

-- the generator's next number, and what is drawn of it
abbrev pub next : ℕ → ℕ
next g = (g * 1103515245 + 12345) % 2 ^ 31

abbrev pub drawn : ℕ → ℕ
drawn g = g / 65536

-- the numbers of a workload: how many letters a text has, the first day of a month, how many days an end is after it,
-- and the least member of a set
pub record Draws : Type 0 where
  pub letters : ℕ
  pub day : ℕ
  pub days : ℕ
  pub least : ℕ

-- those that are drawn from four numbers of the generator
abbrev pub draws_from : ℕ → ℕ → ℕ → ℕ → Draws
draws_from first second third fourth = record {
  letters = 1 + drawn first % 4;
  day = 1 + drawn second % 28;
  days = drawn third % 30;
  least = drawn fourth % 1000;
}

-- the numbers of the workload with a number
abbrev pub draws_of : ℕ → Draws
draws_of number = let first = next (number % 2 ^ 31) in let second = next first in let third = next second in
    draws_from first second third (next third)

-- so many members of the set in descending order, each 7 above the next, with commas between them
unfoldable pub members : ℕ → ℕ → List ℕ
members least zero = []
members least (suc zero) = decimal least
members least (suc (suc count)) = decimal (least + 7 * suc count) ++ 44 ∷ members least (suc count)

-- a day of a month in two digits
abbrev pub two_digits : ℕ → List ℕ
two_digits day = if nat_lt day 10 then 48 ∷ decimal day else decimal day

-- the fields: a text, two dates, two numbers and a flag
abbrev pub text_field : List ℕ
text_field = codes "{\"fields\":[{\"name\":\"id\",\"type\":\"string\",\"nullable\":false},"

abbrev pub date_fields : List ℕ
date_fields = codes "{\"name\":\"day\",\"type\":\"date\",\"nullable\":false},{\"name\":\"end\",\"type\":\"date\",\"nullable\":false},"

abbrev pub number_fields : List ℕ
number_fields = codes "{\"name\":\"code\",\"type\":\"integer\",\"nullable\":false},{\"name\":\"amount\",\"type\":\"decimal\",\"nullable\":false},"

abbrev pub flag_field : List ℕ
flag_field = codes "{\"name\":\"flag\",\"type\":\"boolean\"}],"

-- the pieces of the text between the numbers
abbrev pub to_letters : List ℕ
to_letters = codes "\"constraints\":[{\"field\":\"id\",\"matchingRegex\":\"[A-H]{"

abbrev pub to_day : List ℕ
to_day = codes "}[0-9]{2}\"},{\"field\":\"day\",\"afterOrAt\":\"2024-01-"

abbrev pub to_days : List ℕ
to_days = codes "\"},{\"field\":\"day\",\"before\":\"2025-01-01\"},{\"field\":\"end\",\"afterField\":\"day\",\"offset\":"

abbrev pub to_members : List ℕ
to_members = codes ",\"offsetUnit\":\"days\"},{\"field\":\"end\",\"before\":\"2026-01-01\"},{\"field\":\"code\",\"inSet\":["

abbrev pub to_least : List ℕ
to_least = codes "]},{\"field\":\"amount\",\"granularTo\":0.01},{\"field\":\"amount\",\"greaterThan\":"

abbrev pub to_most : List ℕ
to_most = codes "},{\"field\":\"amount\",\"lessThan\":"

abbrev pub to_middle : List ℕ
to_middle = codes "},{\"if\":{\"field\":\"flag\",\"equalTo\":true},\"then\":{\"field\":\"amount\",\"greaterThanOrEqualTo\":"

abbrev pub to_end : List ℕ
to_end = codes "}}]}"

-- the text with some numbers, up to the members of the set and from them on, without the fields
abbrev pub first_part : Draws → List ℕ
first_part draws = to_letters ++ (decimal draws.letters ++ (to_day ++ (two_digits draws.day
    ++ (to_days ++ (decimal draws.days ++ to_members)))))

abbrev pub last_part : ℕ → List ℕ
last_part least = to_least ++ (decimal least ++ (to_most ++ (decimal (least + 100)
    ++ (to_middle ++ (decimal (least + 50) ++ to_end)))))

-- the profile's text: the set has 2,000 members
abbrev pub text_with : Draws → List ℕ
text_with draws = text_field ++ (date_fields ++ (number_fields ++ (flag_field ++ (first_part draws
    ++ (members draws.least 2000 ++ last_part draws.least)))))

abbrev pub workload_text : ℕ → List ℕ
workload_text number = text_with (draws_of number)
