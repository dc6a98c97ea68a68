-- The rules of a pattern in the order in which they are tested, and the offset of the first that is broken.
use Rattle.std.specs.Prelude.{◌≡◌, ℕ, ◌+◌, ◌*◌, ◌<◌, ◌||◌, nat_lt, min, max, if◌then◌else◌, Bool, true, false, IsTrue, Option, Some, None, List, [], ◌∷◌, ◌++◌, length, take, slice_index}
use Rattle.helix_regex.specs.declared.fault.RegexFault.{RegexFault}
use Rattle.helix_regex.specs.declared.fault.RegexRule.{RegexRule}
use Rattle.helix_regex.specs.declared.fault.RegexRule.TheVariants as rule
use Rattle.helix_base.specs.Syntax.{IsSyntaxErrorAt}
use Rattle.helix_regex.specs.Characters.{is_character}
use Rattle.helix_regex.specs.Pattern.{Item, range, Single, class, exactly, at_least, between, Quant, once, times, Pattern, end, bar, caret, dollar, one, group, item_text, single_text, quant_text, opening, pattern_text, Writes}
use Rattle.helix_regex.specs.Meaning.{code_of, number_of, has_caret, has_dollar}

-- each code is a character of the alphabet
abbrev pub AreCharacters : List ℕ → Type 0
AreCharacters [] = Unit {0}
AreCharacters (c ∷ cs) = IsTrue (is_character c) × AreCharacters cs

-- index of the first character outside the alphabet
pub record IsFirstOutside (text : List ℕ) (count : ℕ) : Type 0 where
  pub within : count < length text
  pub characters : AreCharacters (take count text)
  pub other : ¬ (IsTrue (is_character (slice_index text count)))

-- the text is that of some pattern of the grammar
abbrev pub IsPatternText : List ℕ → Type 0
IsPatternText text = (pattern : Pattern) × Writes text pattern

-- the offset, where a test says so
abbrev pub offset_if : Bool → ℕ → List ℕ
offset_if test at = if test then at ∷ [] else []

-- what a piece is written as, and a group, each with its quantifier
abbrev pub piece_text : Single → Quant → List ℕ
piece_text s q = single_text s ++ quant_text q

-- a group as it is written, with its quantifier
abbrev pub group_text : Bool → Pattern → Quant → List ℕ
group_text bare inner q = opening bare ++ (pattern_text inner ++ 41 ∷ quant_text q)

-- offset of each `^` that is not the text's first character, and of each `$` that is not its last. Here and below the
-- first argument (after the size) is the offset of the pattern
abbrev pub stray_anchors : ℕ → ℕ → Pattern → List ℕ
stray_anchors size at end = []
stray_anchors size at (bar p) = stray_anchors size (at + 1) p
stray_anchors size at (caret p) = offset_if (nat_lt 0 at) at ++ stray_anchors size (at + 1) p
stray_anchors size at (dollar p) = offset_if (nat_lt (at + 1) size) at ++ stray_anchors size (at + 1) p
stray_anchors size at (one s q p) = stray_anchors size (at + length (piece_text s q)) p
stray_anchors size at (group bare inner q p) = stray_anchors size (at + length (opening bare)) inner
    ++ stray_anchors size (at + length (group_text bare inner q)) p

-- offset of each `|` outside of every group
abbrev pub outer_bars : ℕ → Pattern → List ℕ
outer_bars at end = []
outer_bars at (bar p) = at ∷ outer_bars (at + 1) p
outer_bars at (caret p) = outer_bars (at + 1) p
outer_bars at (dollar p) = outer_bars (at + 1) p
outer_bars at (one s q p) = outer_bars (at + length (piece_text s q)) p
outer_bars at (group bare inner q p) = outer_bars (at + length (group_text bare inner q)) p

-- offsets at which the rule on anchors is broken: a `|` outside of every group breaks it where there is any anchor
abbrev pub bad_anchors : Pattern → List ℕ
bad_anchors pattern = stray_anchors (length (pattern_text pattern)) 0 pattern
    ++ (if has_caret pattern || has_dollar pattern then outer_bars 0 pattern else [])

-- offset of each range whose first end is above its last
abbrev pub reversed_ranges : ℕ → List Item → List ℕ
reversed_ranges at [] = []
reversed_ranges at (range e f ∷ items) =
    offset_if (nat_lt (code_of f) (code_of e)) at ++ reversed_ranges (at + length (item_text (range e f))) items
reversed_ranges at (item ∷ items) = reversed_ranges (at + length (item_text item)) items

-- offset of each reversed range of the items of a class
abbrev pub ranges_in : ℕ → Single → List ℕ
ranges_in at (class true items) = reversed_ranges (at + 2) items
ranges_in at (class false items) = reversed_ranges (at + 1) items
ranges_in at _ = []

-- offsets at which the rule on ranges is broken
abbrev pub bad_ranges : ℕ → Pattern → List ℕ
bad_ranges at end = []
bad_ranges at (bar p) = bad_ranges (at + 1) p
bad_ranges at (caret p) = bad_ranges (at + 1) p
bad_ranges at (dollar p) = bad_ranges (at + 1) p
bad_ranges at (one s q p) = ranges_in at s ++ bad_ranges (at + length (piece_text s q)) p
bad_ranges at (group bare inner q p) = bad_ranges (at + length (opening bare)) inner
    ++ bad_ranges (at + length (group_text bare inner q)) p

-- a number is above 1,000, or the second is below the first
abbrev pub is_bad_count : Quant → Bool
is_bad_count (times (exactly digits) lazy) = nat_lt 1000 (number_of digits)
is_bad_count (times (at_least digits) lazy) = nat_lt 1000 (number_of digits)
is_bad_count (times (between digits others) lazy) =
    (nat_lt 1000 (number_of digits) || nat_lt 1000 (number_of others)) || nat_lt (number_of others) (number_of digits)
is_bad_count _ = false

-- offset of the `{` of each such count
abbrev pub bad_counts : ℕ → Pattern → List ℕ
bad_counts at end = []
bad_counts at (bar p) = bad_counts (at + 1) p
bad_counts at (caret p) = bad_counts (at + 1) p
bad_counts at (dollar p) = bad_counts (at + 1) p
bad_counts at (one s q p) = offset_if (is_bad_count q) (at + length (single_text s))
    ++ bad_counts (at + length (piece_text s q)) p
bad_counts at (group bare inner q p) = bad_counts (at + length (opening bare)) inner
    ++ (offset_if (is_bad_count q) (at + length (group_text bare inner once))
    ++ bad_counts (at + length (group_text bare inner q)) p)

-- the factor of a piece's positions
abbrev pub factor : Quant → ℕ
factor (times (exactly digits) lazy) = number_of digits
factor (times (at_least digits) lazy) = max (number_of digits) 1
factor (times (between digits others) lazy) = number_of others
factor _ = 1

-- the positions of a pattern: one for each atom that is no group, times the counts around it
abbrev pub positions : Pattern → ℕ
positions end = 0
positions (bar p) = positions p
positions (caret p) = positions p
positions (dollar p) = positions p
positions (one s q p) = factor q + positions p
positions (group bare inner q p) = positions inner * factor q + positions p

-- the nesting of groups
abbrev pub depth : Pattern → ℕ
depth end = 0
depth (bar p) = depth p
depth (caret p) = depth p
depth (dollar p) = depth p
depth (one s q p) = depth p
depth (group bare inner q p) = max (depth inner + 1) (depth p)

-- the pattern has too many positions, or its groups are nested too deep
abbrev pub is_too_large : Pattern → Bool
is_too_large pattern = nat_lt 5000 (positions pattern) || nat_lt 64 (depth pattern)

-- the first of some offsets
abbrev pub first_of : List ℕ → Option ℕ
first_of [] = None
first_of (at ∷ offsets) = Some at

-- the lesser of two offsets, where there are any
abbrev pub lesser : Option ℕ → Option ℕ → Option ℕ
lesser None b = b
lesser (Some x) None = Some x
lesser (Some x) (Some y) = Some (min x y)

-- the least offset of a list, where there is one
abbrev pub least_of : List ℕ → Option ℕ
least_of [] = None
least_of (at ∷ offsets) = lesser (Some at) (least_of offsets)

-- the rule is broken there, and none before it is broken
abbrev pub Breaks : RegexRule → List ℕ → ℕ → Type 0
Breaks rule.OutsideAlphabet text at = IsFirstOutside text at
Breaks rule.Syntax text at = AreCharacters text × IsSyntaxErrorAt IsPatternText text at
Breaks rule.Anchor text at = AreCharacters text
    × ((pattern : Pattern) × Writes text pattern × (least_of (bad_anchors pattern) ≡ Some at))
Breaks rule.BadRange text at = AreCharacters text
    × ((pattern : Pattern) × Writes text pattern × (bad_anchors pattern ≡ [])
    × (first_of (bad_ranges 0 pattern) ≡ Some at))
Breaks rule.BadCount text at = AreCharacters text
    × ((pattern : Pattern) × Writes text pattern × (bad_anchors pattern ≡ []) × (bad_ranges 0 pattern ≡ [])
    × (first_of (bad_counts 0 pattern) ≡ Some at))
Breaks rule.TooLarge text at = AreCharacters text
    × ((pattern : Pattern) × Writes text pattern × (bad_anchors pattern ≡ []) × (bad_ranges 0 pattern ≡ [])
    × (bad_counts 0 pattern ≡ []) × IsTrue (is_too_large pattern) × (at ≡ 0))

-- the first rule that a text breaks, and where
abbrev pub FirstFault : List ℕ → RegexFault → Type 0
FirstFault text fault = Breaks fault.rule text fault.at
