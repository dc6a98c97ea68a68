-- The grammar of patterns: what a pattern is made of, and the text that it is written as.
--
--     alt    = seq { "|" seq }
--     seq    = { anchor | piece }
--     anchor = "^" | "$"
--     piece  = atom [ quant [ "?" ] ]
--     quant  = "*" | "+" | "?" | "{" digits "}" | "{" digits "," "}" | "{" digits "," digits "}"
--     atom   = literal | "." | escape | class | "(" alt ")" | "(?:" alt ")"
--     class  = "[" [ "^" ] item { item } "]"
use Rattle.std.specs.Prelude.{◌≡◌, ◌≢◌, ◌⊎◌, ℕ, ◌==◌, ◌&&◌, not, Bool, true, false, IsTrue, List, [], ◌∷◌, ◌++◌, codes}
use Rattle.helix_base.specs.Digits.{AreDigits}
use Rattle.helix_regex.specs.Characters.{is_literal, is_punct, is_set_letter, is_class_char}

-- a single character of a class, or the end of a range: as it is, or after a backslash
pub data End : Type 0 where
  plain : ℕ → End
  escaped : ℕ → End

-- an item of a class: one character, a range, a class escape, or a `-` that joins no ends
pub data Item : Type 0 where
  single : End → Item
  range : End → End → Item
  set_item : ℕ → Item
  dash : Item

-- an atom that is no group. A class has its items, and a truth value that says whether they are excluded
pub data Single : Type 0 where
  literal : ℕ → Single
  dot : Single
  escape : ℕ → Single
  set : ℕ → Single
  class : Bool → List Item → Single

-- how often, with the digits of counts as they are written
pub data Count : Type 0 where
  star : Count
  plus : Count
  question : Count
  exactly : List ℕ → Count
  at_least : List ℕ → Count
  between : List ℕ → List ℕ → Count

-- no quantifier, or one, with or without a `?` after it
pub data Quant : Type 0 where
  once : Quant
  times : Count → Bool → Quant

-- what alternatives and their sequences are made of, from left to right: nothing more; or a bar, an anchor, a single
-- atom with its quantifier, or a group with its, and then the rest. A truth value says whether a group begins with
-- `(?:`
pub data Pattern : Type 0 where
  end : Pattern
  bar : Pattern → Pattern
  caret : Pattern → Pattern
  dollar : Pattern → Pattern
  one : Single → Quant → Pattern → Pattern
  group : Bool → Pattern → Quant → Pattern → Pattern

-- an end of a range: the character itself, or escaped
abbrev pub end_text : End → List ℕ
end_text (plain c) = c ∷ []
end_text (escaped c) = 92 ∷ c ∷ []

-- an item of a class as it is written
abbrev pub item_text : Item → List ℕ
item_text (single e) = end_text e
item_text (range e f) = end_text e ++ 45 ∷ end_text f
item_text (set_item letter) = 92 ∷ letter ∷ []
item_text dash = 45 ∷ []

-- the items of a class as they are written
abbrev pub items_text : List Item → List ℕ
items_text [] = []
items_text (item ∷ items) = item_text item ++ items_text items

-- a class after its `[`
abbrev pub class_text : Bool → List Item → List ℕ
class_text true items = 94 ∷ (items_text items ++ 93 ∷ [])
class_text false items = items_text items ++ 93 ∷ []

-- a literal, a dot, an escape or a class as it is written
abbrev pub single_text : Single → List ℕ
single_text (literal c) = c ∷ []
single_text dot = 46 ∷ []
single_text (escape c) = 92 ∷ c ∷ []
single_text (set letter) = 92 ∷ letter ∷ []
single_text (class excluded items) = 91 ∷ class_text excluded items

-- a count between braces as it is written
abbrev pub count_text : Count → List ℕ
count_text star = 42 ∷ []
count_text plus = 43 ∷ []
count_text question = 63 ∷ []
count_text (exactly digits) = 123 ∷ (digits ++ 125 ∷ [])
count_text (at_least digits) = 123 ∷ (digits ++ 44 ∷ 125 ∷ [])
count_text (between digits others) = 123 ∷ (digits ++ 44 ∷ (others ++ 125 ∷ []))

-- a quantifier as it is written, with the `?` that says nothing
abbrev pub quant_text : Quant → List ℕ
quant_text once = []
quant_text (times count true) = count_text count ++ 63 ∷ []
quant_text (times count false) = count_text count

-- the beginning of a group: `(` or `(?:`
abbrev pub opening : Bool → List ℕ
opening true = codes "(?:"
opening false = codes "("

-- the text of a pattern
abbrev pub pattern_text : Pattern → List ℕ
pattern_text end = []
pattern_text (bar p) = 124 ∷ pattern_text p
pattern_text (caret p) = 94 ∷ pattern_text p
pattern_text (dollar p) = 36 ∷ pattern_text p
pattern_text (one s q p) = single_text s ++ (quant_text q ++ pattern_text p)
pattern_text (group bare inner q p) = opening bare ++ (pattern_text inner ++ 41 ∷ (quant_text q ++ pattern_text p))

-- at least one digit
abbrev pub IsNumeral : List ℕ → Type 0
IsNumeral digits = (digits ≢ []) × AreDigits digits

-- an end of a range keeps to the grammar
abbrev pub FitsEnd : End → Type 0
FitsEnd (plain c) = IsTrue (is_class_char c)
FitsEnd (escaped c) = IsTrue (is_punct c)

-- an unescaped `-` is the first item or the last
abbrev pub FitItems : Bool → List Item → Type 0
FitItems is_first [] = Unit {0}
FitItems is_first (single e ∷ items) = FitsEnd e × FitItems false items
FitItems is_first (range e f ∷ items) = (FitsEnd e × FitsEnd f) × FitItems false items
FitItems is_first (set_item letter ∷ items) = IsTrue (is_set_letter letter) × FitItems false items
FitItems is_first (dash ∷ items) = (IsTrue is_first ⊎ (items ≡ [])) × FitItems false items

-- after a character, a text has no two `&` side by side
abbrev pub parts_ampersands : ℕ → List ℕ → Bool
parts_ampersands before [] = true
parts_ampersands before (c ∷ cs) = not (before == 38 && c == 38) && parts_ampersands c cs

-- a `^` that is the first after `[` is no item
abbrev pub BeginsWithCaret : List ℕ → Type 0
BeginsWithCaret [] = ⊥
BeginsWithCaret (c ∷ cs) = c ≡ 94

-- a class keeps to the grammar
pub record FitsClass (excluded : Bool) (items : List Item) : Type 0 where
  pub some : items ≢ []
  pub fit : FitItems true items
  pub no_caret : excluded ≡ false → ¬ (BeginsWithCaret (items_text items))
  pub apart : IsTrue (parts_ampersands 91 (class_text excluded items))

-- a literal, a dot, an escape or a class keeps to the grammar
abbrev pub FitsSingle : Single → Type 0
FitsSingle (literal c) = IsTrue (is_literal c)
FitsSingle dot = Unit {0}
FitsSingle (escape c) = IsTrue (is_punct c)
FitsSingle (set letter) = IsTrue (is_set_letter letter)
FitsSingle (class excluded items) = FitsClass excluded items

-- a count keeps to the grammar
abbrev pub FitsCount : Count → Type 0
FitsCount (exactly digits) = IsNumeral digits
FitsCount (at_least digits) = IsNumeral digits
FitsCount (between digits others) = IsNumeral digits × IsNumeral others
FitsCount _ = Unit {0}

-- a quantifier keeps to the grammar
abbrev pub FitsQuant : Quant → Type 0
FitsQuant once = Unit {0}
FitsQuant (times count lazy) = FitsCount count

-- the pattern is in the grammar
abbrev pub Fits : Pattern → Type 0
Fits end = Unit {0}
Fits (bar p) = Fits p
Fits (caret p) = Fits p
Fits (dollar p) = Fits p
Fits (one s q p) = FitsSingle s × FitsQuant q × Fits p
Fits (group bare inner q p) = Fits inner × FitsQuant q × Fits p

-- the text is that of a pattern of the grammar
pub record Writes (text : List ℕ) (pattern : Pattern) : Type 0 where
  pub is : text ≡ pattern_text pattern
  pub fits : Fits pattern
