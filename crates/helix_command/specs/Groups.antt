-- How the words are divided into groups, from the left: a word with `=`, a flag, or an option and its value.
use Rattle.std.specs.Prelude.{ℕ, ◌+◌, Bool, true, false, ◌&&◌, ◌==◌, if◌then◌else◌, List, [], ◌∷◌, take, drop, Option, is_none, option_map, slice_get}
use Rattle.std.specs.List.{position}
use Rattle.std.specs.Option.{option_map_or}
use Rattle.helix_command.specs.declared.group.Group.{Group}
use Rattle.helix_command.specs.Options.{option_named, takes_value}

-- U+003D
abbrev pub is_equals : ℕ → Bool
is_equals code = code == 61

-- a word's name is what is before its first `=`, or all of it
unfoldable pub name_in : List ℕ → List ℕ
name_in word = option_map_or (λ at. take at word) (position is_equals word) word

-- a word's own value is what is after its first `=`
unfoldable pub value_in : List ℕ → Option (List ℕ)
value_in word = option_map (λ at. drop (at + 1) word) (position is_equals word)

-- a word with no value of its own that names an option with a value takes the next word as that
unfoldable pub takes_next : List ℕ → Bool
takes_next word = is_none (value_in word) && option_map_or takes_value (option_named (name_in word)) false

-- the value that belongs to a word, before these words
unfoldable pub value_of : List ℕ → List (List ℕ) → Option (List ℕ)
value_of word after = if takes_next word then slice_get after 0 else value_in word

-- the group that begins with a word, before these words
unfoldable pub group_of : ℕ → List ℕ → List (List ℕ) → Group
group_of number word after =
    record { number = number; option = option_named (name_in word); value = value_of word after }

-- the groups of the words from this number on, the first of which may be the value of the word before it
abbrev pub groups_from : ℕ → Bool → List (List ℕ) → List Group
groups_from number is_value [] = []
groups_from number true (word ∷ words) = groups_from (number + 1) false words
groups_from number false (word ∷ words) = group_of number word words ∷ groups_from (number + 1) (takes_next word) words

-- the groups of all words, which are numbered from 1
unfoldable pub groups_of : List (List ℕ) → List Group
groups_of words = groups_from 1 false words
