-- What a JSON value gives, as the operand of a keyword or a member of a set: a value, a level, a length, an expression.
use Rattle.std.specs.Prelude.{◌≡◌, ◌≤◌, ◌<◌, ◌*◌, ◌^◌, ℕ, ℤ, pos, Bool, is_some, if◌then◌else◌, List, [], ◌∷◌, length, Option, Some, None, IsSomeAnd, bytes_eq, codes}
use Rattle.helix_expr.specs.declared.regex.Regex.{Regex}
use Rattle.helix_json.specs.Numbers.{IsUnits}
use Rattle.helix_json.specs.declared.value.Json.{Json}
use Rattle.helix_json.specs.declared.value.Json as json
use Rattle.helix_places.specs.Members.{items_of}
use Rattle.helix_regex.specs.Faults.{FirstFault}
use Rattle.helix_regex.specs.Meaning.{SpellsPattern}
use Rattle.helix_regex.specs.declared.fault.RegexFault.{RegexFault}
use Rattle.helix_texts.specs.Spelling.{Spells}
use Rattle.helix_texts.specs.Texts.{truth_text}
use Rattle.helix_values.specs.Class.{Class, booleans, numbers, strings, moments, class_of_kind}
use Rattle.helix_values.specs.declared.cell.Cell.{Cell}
use Rattle.helix_values.specs.declared.kind.Kind.{Kind}

-- The text of a value of the class as JSON writes it: that of a truth value for booleans, of a number for numbers, of
-- a string for strings and moments.
abbrev pub text_of : Class → Json → Option (List ℕ)
text_of booleans (json.Bool truth) = Some (truth_text truth)
text_of numbers (json.Number text) = Some text
text_of strings (json.Str text) = Some text
text_of moments (json.Str text) = Some text
text_of class v = None

-- the JSON type of a value of the class
abbrev pub has_type : Class → Json → Bool
has_type class v = is_some (text_of class v)

-- a value of the kind
abbrev pub GivesValue : Kind → Json → Cell → Type 0
GivesValue kind v value = IsSomeAnd (text_of (class_of_kind kind) v) (λ text. Spells kind text value)

-- a value of the kind for each item
abbrev pub AreValues : Kind → List Json → List Cell → Type 0
AreValues kind [] [] = Unit {0}
AreValues kind (item ∷ items) (value ∷ values) = GivesValue kind item value × AreValues kind items values
AreValues kind items values = ⊥

-- the maximum number of members of a list
abbrev pub max_members : ℕ
max_members = 10000

-- a list of 1 to 10,000 members, each of them a value of the kind
pub record GivesMembers (kind : Kind) (v : Json) (values : List Cell) : Type 0 where
  pub some : 1 ≤ length (items_of v)
  pub few : length (items_of v) ≤ max_members
  pub each : AreValues kind (items_of v) values

-- a number of this many units of 10^-15
abbrev pub HasUnits : Json → ℤ → Type 0
HasUnits (json.Number text) units = IsUnits text units
HasUnits v units = ⊥

-- the level of a grid of moments by its name
unfoldable pub level_named : List ℕ → Option ℕ
level_named word = if bytes_eq word (codes "millis") then Some 0
    else if bytes_eq word (codes "seconds") then Some 1
    else if bytes_eq word (codes "minutes") then Some 2
    else if bytes_eq word (codes "hours") then Some 3
    else if bytes_eq word (codes "days") then Some 4
    else if bytes_eq word (codes "months") then Some 5
    else if bytes_eq word (codes "years") then Some 6
    else None

-- a level of the class's ladder: a power of ten from 10^-15 to 1 for numbers, the name of a grid for moments
abbrev pub GivesLevel : Class → Json → ℕ → Type 0
GivesLevel numbers v level = (level < 16) × HasUnits v (pos (10 ^ level))
GivesLevel moments (json.Str word) level = level_named word ≡ Some level
GivesLevel class v level = ⊥

-- a length: a whole number from 0 to 1,000
abbrev pub GivesLength : Json → ℕ → Type 0
GivesLength v n = (n ≤ 1000) × HasUnits v (pos (n * 10 ^ 15))

-- the pattern breaks no rule, and spells the expression
pub record IsPatternOf (text : List ℕ) (regex : Regex) : Type 0 where
  pub spells : SpellsPattern text regex
  pub sound : (fault : RegexFault) → ¬ FirstFault text fault

-- the expression of a pattern
abbrev pub GivesPattern : Json → Regex → Type 0
GivesPattern (json.Str text) regex = IsPatternOf text regex
GivesPattern v regex = ⊥

-- what a reading of something that may be given finds: what is given, or None where nothing is
abbrev pub Reads : {X : Type 0} → (X → Type 0) → Option X → Type 0
Reads {X} Given None = (x : X) → ¬ (Given x)
Reads Given (Some x) = Given x
