-- What the parts of `moment_of` promise each other.
use Rattle.std.specs.Prelude.{◌≡◌, ◌≢◌, ◌⊎◌, ℕ, ◌^◌, ◌<◌, ◌≤◌, Bool, List, [], ◌∷◌, ◌++◌, length}
use Rattle.helix_json.specs.Numbers.{fraction_text}
use Rattle.helix_base.specs.Digits.{AreDigits}
use Rattle.helix_ladders.specs.Calendar.{IsDate}
use Rattle.helix_texts.specs.Texts.{last_digits, date_text}
use Rattle.helix_texts.specs.Spelling.{Time, IsTime, zulu_text, full_time_text, thousandths, millis_of_time}

-- three numbers with a mark between them: the first of `width` digits, the others of two
abbrev pub three_text : ℕ → ℕ → ℕ → ℕ → ℕ → List ℕ
three_text width mark a b c = last_digits width a ++ mark ∷ (last_digits 2 b ++ mark ∷ last_digits 2 c)

-- the text begins with digits, and this number is theirs
pub record BeginsWithNumber (text : List ℕ) (width n : ℕ) (rest : List ℕ) : Type 0 where
  pub small : n < 10 ^ width
  pub is : text ≡ last_digits width n ++ rest

-- the same, with a mark after the digits
pub record BeginsWithPart (text : List ℕ) (width mark n : ℕ) (rest : List ℕ) : Type 0 where
  pub small : n < 10 ^ width
  pub is : text ≡ last_digits width n ++ mark ∷ rest

pub record BeginsWithThree (text : List ℕ) (width mark a b c : ℕ) (rest : List ℕ) : Type 0 where
  pub first : a < 10 ^ width
  pub second : b < 10 ^ 2
  pub third : c < 10 ^ 2
  pub is : text ≡ three_text width mark a b c ++ rest

pub record BeginsWithDate (text : List ℕ) (y m d : ℕ) (rest : List ℕ) : Type 0 where
  pub date : IsDate y m d
  pub is : text ≡ date_text y m d ++ rest

-- hours, minutes and seconds
pub record IsClock (hour minute second : ℕ) : Type 0 where
  pub hours : hour < 24
  pub minutes : minute < 60
  pub seconds : second < 60

-- a `Z` is taken from the end, if one is there
abbrev pub TakesZulu : List ℕ → List ℕ → Type 0
TakesZulu text prefix = (text ≡ prefix ++ 90 ∷ []) ⊎ ((text ≡ prefix) × ((other : List ℕ) → text ≢ other ++ 90 ∷ []))

-- a text is the end of a time: a fraction and `Z`, each where it is wanted
pub record IsTimeEnd (text fraction : List ℕ) (zulu : Bool) : Type 0 where
  pub digits : AreDigits fraction
  pub places : length fraction ≤ 3
  pub is : text ≡ fraction_text fraction ++ zulu_text zulu

pub record CountsTimeEnd (text : List ℕ) (n : ℕ) : Type 0 where
  pub fraction : List ℕ
  pub zulu : Bool
  pub end : IsTimeEnd text fraction zulu
  pub value : n ≡ thousandths fraction

-- a text is `T` and this time
pub record IsTimeAfter (text : List ℕ) (time : Time) : Type 0 where
  pub of_day : IsTime time
  pub is : text ≡ 84 ∷ full_time_text time

pub record CountsTime (text : List ℕ) (millis : ℕ) : Type 0 where
  pub time : Time
  pub after : IsTimeAfter text time
  pub value : millis ≡ millis_of_time time
