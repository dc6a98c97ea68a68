-- The profiles that are accepted so far: one boolean field, and no constraints.
use Rattle.std.specs.Prelude.{◌≡◌, ℕ, ◌≤◌, Bool, true, false, ◌||◌, ◌&&◌, not, List, [], ◌∷◌, ◌++◌, length, ◌==◌, nat_le, Option, Some, None, unwrap_or, IsTrue, codes, MatchBool}
use Rattle.std.specs.List.{list_all}

-- a profile file has at most this many bytes
abbrev pub longest_profile : ℕ
longest_profile = 1048576

-- one boolean field: its name, and whether it may be null
pub record Field : Type 0 where
  pub name : List ℕ
  pub nullable : Bool

-- space, tab, line feed and carriage return (RFC 8259, section 2)
abbrev pub is_space : ℕ → Bool
is_space byte = (byte == 32 || byte == 9) || (byte == 10 || byte == 13)

-- the bytes are written as the pattern says, in which a space means any blanks, and then comes the rest
abbrev pub Follows : List ℕ → List ℕ → List ℕ → Type 0
Follows [] bytes rest = bytes ≡ rest
Follows (expected ∷ pattern) bytes rest = MatchBool (expected == 32)
    ((blanks next : List ℕ) × IsTrue (list_all is_space blanks) × (bytes ≡ blanks ++ next) × Follows pattern next rest)
    ((next : List ℕ) × (bytes ≡ expected ∷ next) × Follows pattern next rest)

-- what comes before the field's name
abbrev pub before_name : List ℕ
before_name = codes " { \"fields\" : [ { \"name\" : "

-- what comes after it, where `nullable` is left out or written
abbrev pub after_name : Option Bool → List ℕ
after_name None = codes " , \"type\" : \"boolean\" } ] , \"constraints\" : [ ] } "
after_name (Some true) = codes " , \"type\" : \"boolean\" , \"nullable\" : true } ] , \"constraints\" : [ ] } "
after_name (Some false) = codes " , \"type\" : \"boolean\" , \"nullable\" : false } ] , \"constraints\" : [ ] } "

-- from U+0020 to U+007E, and neither a quote nor a backslash
abbrev pub is_name_character : ℕ → Bool
is_name_character byte = (nat_le 32 byte && nat_le byte 126) && not (byte == 34 || byte == 92)

-- 1 to 200 such characters
pub record IsFlagName (name : List ℕ) : Type 0 where
  pub some : 1 ≤ length name
  pub short : length name ≤ 200
  pub characters : IsTrue (list_all is_name_character name)

-- the name between quotes, and then the rest
abbrev pub quoted_before : List ℕ → List ℕ → List ℕ
quoted_before name rest = 34 ∷ (name ++ 34 ∷ rest)

-- what comes after the name says whether the field is nullable, which it is where nothing is said
pub record SaysNullable (bytes : List ℕ) (nullable : Bool) : Type 0 where
  pub written : Option Bool
  pub says : nullable ≡ unwrap_or written true
  pub closes : Follows (after_name written) bytes []

-- the bytes of a profile file say that there is this field
pub record ReadsProfile (bytes : List ℕ) (field : Field) : Type 0 where
  pub size : length bytes ≤ longest_profile
  pub name : IsFlagName field.name
  pub rest : List ℕ
  pub opens : Follows before_name bytes (quoted_before field.name rest)
  pub closes : SaysNullable rest field.nullable

-- the bytes are no such profile
abbrev pub IsRefused : List ℕ → Type 0
IsRefused bytes = (field : Field) → ¬ ReadsProfile bytes field
