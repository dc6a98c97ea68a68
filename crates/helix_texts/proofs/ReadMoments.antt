-- What is found at the start of a text is all that is there.
use Rattle.std.proofs.Common.{IsTrue, ◌≡◌, ℕ, ◌+◌, ◌-◌, ◌*◌, ◌/◌, ◌%◌, ◌^◌, ◌<◌, ◌≤◌, List, [], ◌∷◌, ◌++◌, length, length-append, get_or, take, append_assoc, true, sym, ap, ◌∙◌, subst, arith}
use Rattle.std.proofs.Common.{add-one}
use Rattle.std.proofs.lemmas.List.{take_more}
use Rattle.helix_base.specs.Digits.{is_digit, AreDigits}
use Rattle.helix_base.specs.Inner.DigitLaws.{digit_at}
use Rattle.helix_json.specs.Inner.DecimalLaws.{pow_more}
use Rattle.std.proofs.lemmas.Bool.Decides.{nat_tests}
use Rattle.helix_texts.specs.Texts.{last_digits}
use Rattle.helix_texts.specs.Inner.Reading.{BeginsWithNumber, BeginsWithPart, BeginsWithThree, BeginsWithDate}
use Rattle.helix_texts.proofs.DecimalTexts.{last_digits-suc, last_digits_are}
use Rattle.helix_texts.proofs.FixedDigits.{length-last_digits, same_prefixes, same_numbers}
use Rattle.helix_texts.proofs.MomentTexts.{AreSameThrees, same_threes, small_date}

-- one digit more
pub digit_after : (list : List ℕ) (i n d : ℕ) → take i list ≡ last_digits i n → i < length list → d ≡ get_or list i 0
    → 48 ≤ d → d ≤ 57 → take (i + 1) list ≡ last_digits (i + 1) (n * 10 + (d - 48))
digit_after list i n d so_far within is low high =
    let here : get_or list i 0 ≡ 48 + (n * 10 + (d - 48)) % 10 = omega arith in
    let prefix : n ≡ (n * 10 + (d - 48)) / 10 = omega arith in
    take_more list i 0 within
    ∙ (ap (λ l. l ++ get_or list i 0 ∷ []) so_far
    ∙ (ap (λ m. last_digits i m ++ get_or list i 0 ∷ []) prefix
    ∙ (ap (λ c. last_digits i ((n * 10 + (d - 48)) / 10) ++ c ∷ []) here
    ∙ (sym (last_digits-suc i (n * 10 + (d - 48))) ∙ ap (λ w. last_digits w (n * 10 + (d - 48))) (sym (add-one i))))))

pub number_small : (i n d : ℕ) → n < 10 ^ i → d ≤ 57 → n * 10 + (d - 48) < 10 ^ (i + 1)
number_small i n d small high = omega (arith, pow_more i)

-- another character is in no number
pub no_number : (list : List ℕ) (i n : ℕ) → i < length list → (IsTrue (is_digit (get_or list i 0)) → ⊥)
    → list ≡ last_digits (length list) n → ⊥
no_number list i n within other all = other
    (digit_at list i within (subst AreDigits (sym all) (last_digits_are (length list) n)))

pub too_short : (codes : List ℕ) (width n : ℕ) (rest : List ℕ) → length codes < width
    → BeginsWithNumber codes width n rest → ⊥
too_short codes width n rest short begins =
    omega (arith, ap length begins.is, length-append (last_digits width n) rest, length-last_digits width n)

pub no_number_in_prefix : (codes prefix after : List ℕ) (width n : ℕ) (rest : List ℕ) → codes ≡ prefix ++ after
    → length prefix ≡ width
    → ((k : ℕ) → prefix ≡ last_digits (length prefix) k → ⊥) → BeginsWithNumber codes width n rest → ⊥
no_number_in_prefix codes prefix after width n rest is lengths none begins =
    let prefixes = same_prefixes prefix after (last_digits width n) rest (lengths
    ∙ sym (length-last_digits width n)) (sym is ∙ begins.is) in
    none n (prefixes.0 ∙ ap (λ w. last_digits w n) (sym lengths))

pub no_mark_after : (codes : List ℕ) (width mark number n : ℕ) (after rest : List ℕ)
    → BeginsWithNumber codes width number after
    → ((r : List ℕ) → after ≡ mark ∷ r → ⊥) → BeginsWithPart codes width mark n rest → ⊥
no_mark_after codes width mark number n after rest found none begins =
    none rest (same_numbers width number n after (mark ∷ rest) found.small begins.small (sym found.is ∙ begins.is)).1

-- of three numbers the first, and what follows it
pub after_first : (codes : List ℕ) (width mark first a b c : ℕ) (after rest : List ℕ)
    → BeginsWithPart codes width mark first after → BeginsWithThree codes width mark a b c rest
    → after ≡ last_digits 2 b ++ mark ∷ (last_digits 2 c ++ rest)
after_first codes width mark first a b c after rest found begins =
    let flat : codes ≡ last_digits width a ++ mark ∷ (last_digits 2 b ++ mark ∷ (last_digits 2 c ++ rest)) = simp
    append_assoc at begins.is in
    let same = (same_numbers width first a _ _ found.small begins.first (sym found.is ∙ flat)).1 in
    cc

pub no_second : (codes : List ℕ) (width mark first a b c : ℕ) (after rest : List ℕ)
    → BeginsWithPart codes width mark first after
    → ((n : ℕ) (r : List ℕ) → BeginsWithPart after 2 mark n r → ⊥) → BeginsWithThree codes width mark a b c rest → ⊥
no_second codes width mark first a b c after rest found none begins =
    none b (last_digits 2 c ++ rest) (record {
      small = begins.second;
      is = after_first codes width mark first a b c after rest found begins;
    })

pub no_third : (codes : List ℕ) (width mark first second a b c : ℕ) (after last rest : List ℕ)
    → BeginsWithPart codes width mark first after → BeginsWithPart after 2 mark second last
    → ((n : ℕ) (r : List ℕ) → BeginsWithNumber last 2 n r → ⊥) → BeginsWithThree codes width mark a b c rest → ⊥
no_third codes width mark first second a b c after last rest found then none begins =
    let same = (same_numbers 2 second b _ _ then.small begins.second (sym then.is
    ∙ after_first codes width mark first a b c after rest found begins)).1 in
    none c rest (record { small = begins.third; is = cc })

-- three numbers are found once
pub threes_found : (codes : List ℕ) (width mark a b c a₂ b₂ c₂ : ℕ) (rest rest₂ : List ℕ)
    → BeginsWithThree codes width mark a b c rest → BeginsWithThree codes width mark a₂ b₂ c₂ rest₂
    → AreSameThrees a b c a₂ b₂ c₂ rest rest₂
threes_found codes width mark a b c a₂ b₂ c₂ rest rest₂ found begins =
    same_threes width mark a b c a₂ b₂ c₂ rest rest₂ found.first found.second found.third begins.first begins.second
    begins.third (sym found.is ∙ begins.is)

pub date_begins : (codes : List ℕ) (y m d : ℕ) (rest : List ℕ) → BeginsWithDate codes y m d rest
    → BeginsWithThree codes 4 45 y m d rest
date_begins codes y m d rest begins =
    let small = small_date y m d begins.date in
    record { first = small.0; second = small.1; third = small.2; is = begins.is }
