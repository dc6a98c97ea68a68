-- The expression that a pattern means, over the characters of Unicode.
use Rattle.std.specs.Prelude.{◌≡◌, ℕ, ◌+◌, ◌*◌, ◌-◌, ◌==◌, ◌&&◌, ◌||◌, not, nat_le, nat_lt, Bool, true, false, IsTrue, Some, None, List, [], ◌∷◌}
use Rattle.std.specs.List.{list_any}
use Rattle.helix_base.specs.Ranges.{in_ranges}
use Rattle.helix_expr.specs.declared.expr.Expr.{Expr, Empty, Chars}
use Rattle.helix_expr.specs.declared.expr.Expr.TheViews.{Seq, Alt, Repeat}
use Rattle.helix_expr.specs.declared.regex.Regex.{Regex}
use Rattle.helix_regex.specs.Characters.{is_character, set_has}
use Rattle.helix_regex.specs.Pattern.{End, plain, escaped, Item, single, range, set_item, dash, Single, literal, dot, escape, set, class, Count, star, plus, question, exactly, at_least, between, Quant, once, times, Pattern, end, bar, caret, dollar, one, group, Writes}

-- the character that an end of a range names
abbrev pub code_of : End → ℕ
code_of (plain c) = c
code_of (escaped c) = c

-- the character is one of an item's
abbrev pub item_has : Item → ℕ → Bool
item_has (single e) c = c == code_of e
item_has (range e f) c = is_character c && (nat_le (code_of e) c && nat_le c (code_of f))
item_has (set_item letter) c = set_has letter c
item_has dash c = c == 45

-- the characters that an atom matches
abbrev pub single_has : Single → ℕ → Bool
single_has (literal d) c = c == d
single_has dot c = is_character c
single_has (escape d) c = c == d
single_has (set letter) c = set_has letter c
single_has (class false items) c = list_any (λ item. item_has item c) items
single_has (class true items) c = is_character c && not (list_any (λ item. item_has item c) items)

-- ranges in ascending order, between any two of which a code is missing
abbrev pub are_separate : List (ℕ × ℕ) → Bool
are_separate [] = true
are_separate (r ∷ []) = nat_le r.0 r.1
are_separate (r ∷ next ∷ ranges) = (nat_le r.0 r.1 && nat_lt (r.1 + 1) next.0) && are_separate (next ∷ ranges)

-- the ranges of a set of characters: each set has one such list
pub record AreRangesOf (has : ℕ → Bool) (ranges : List (ℕ × ℕ)) : Type 0 where
  pub separate : IsTrue (are_separate ranges)
  pub same : (c : ℕ) → in_ranges ranges c ≡ has c

-- the number that digits write, in tens
abbrev pub number_after : ℕ → List ℕ → ℕ
number_after prefix [] = prefix
number_after prefix (digit ∷ digits) = number_after (prefix * 10 + (digit - 48)) digits

-- the number that the digits of a count write
abbrev pub number_of : List ℕ → ℕ
number_of digits = number_after 0 digits

-- a quantifier repeats; a `?` after it changes nothing
abbrev pub counted : Count → Expr → Expr
counted star e = Repeat e 0 None
counted plus e = Repeat e 1 None
counted question e = Repeat e 0 (Some 1)
counted (exactly digits) e = Repeat e (number_of digits) (Some (number_of digits))
counted (at_least digits) e = Repeat e (number_of digits) None
counted (between digits others) e = Repeat e (number_of digits) (Some (number_of others))

-- an expression with its quantifier
abbrev pub quantified : Quant → Expr → Expr
quantified once e = e
quantified (times count lazy) e = counted count e

-- pieces one after the other: none is the empty word, and one is itself
abbrev pub in_sequence : List Expr → Expr
in_sequence [] = Empty
in_sequence (e ∷ []) = e
in_sequence (e ∷ f ∷ es) = Seq (e ∷ f ∷ es)

-- a sequence, and those after bars: where there is no bar, it is itself
abbrev pub any_of : Expr → List Expr → Expr
any_of e [] = e
any_of e (f ∷ es) = Alt (e ∷ f ∷ es)

-- the pieces up to the first bar outside of groups, and the sequences after such bars
pub record Parts : Type 0 where
  pub pieces : List Expr
  pub others : List Expr

-- the parts as one expression: a sequence, or a choice of the sequences between bars
abbrev pub together : Parts → Expr
together parts = any_of (in_sequence parts.pieces) parts.others

-- the parts from a bar on: the pieces after it are a sequence of their own
abbrev pub after_bar : Parts → Parts
after_bar parts = record { pieces = []; others = in_sequence parts.pieces ∷ parts.others }

-- one more first piece
abbrev pub with_piece : Expr → Parts → Parts
with_piece e parts = record { pieces = e ∷ parts.pieces; others = parts.others }

-- the parts of a pattern. Anchors are no part of them, and a group only binds
abbrev pub HasParts : Pattern → Parts → Type 0
HasParts end parts = parts ≡ record { pieces = []; others = [] }
HasParts (bar p) parts = (rest : Parts) × HasParts p rest × (parts ≡ after_bar rest)
HasParts (caret p) parts = HasParts p parts
HasParts (dollar p) parts = HasParts p parts
HasParts (one s q p) parts = (ranges : List (ℕ × ℕ)) × (rest : Parts) × AreRangesOf (single_has s) ranges
    × HasParts p rest
    × (parts ≡ with_piece (quantified q (Chars ranges)) rest)
HasParts (group bare inner q p) parts = (within rest : Parts) × HasParts inner within × HasParts p rest
    × (parts ≡ with_piece (quantified q (together within)) rest)

-- the pattern has a `^`
abbrev pub has_caret : Pattern → Bool
has_caret end = false
has_caret (bar p) = has_caret p
has_caret (caret p) = true
has_caret (dollar p) = has_caret p
has_caret (one s q p) = has_caret p
has_caret (group bare inner q p) = has_caret inner || has_caret p

-- the pattern has a `$`
abbrev pub has_dollar : Pattern → Bool
has_dollar end = false
has_dollar (bar p) = has_dollar p
has_dollar (caret p) = has_dollar p
has_dollar (dollar p) = true
has_dollar (one s q p) = has_dollar p
has_dollar (group bare inner q p) = has_dollar inner || has_dollar p

-- the expression that a pattern means, with its anchors
abbrev pub MeansRegex : Pattern → Regex → Type 0
MeansRegex pattern regex = (parts : Parts) × HasParts pattern parts
    × (regex ≡ record { expr = together parts; at_start = has_caret pattern; at_end = has_dollar pattern })

-- the text spells the expression of the pattern that it writes
abbrev pub SpellsPattern : List ℕ → Regex → Type 0
SpellsPattern text regex = (pattern : Pattern) × Writes text pattern × MeansRegex pattern regex
