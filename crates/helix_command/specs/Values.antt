-- What values the options take.
use Rattle.std.specs.Prelude.{ℕ, Bool, not, ◌&&◌, ◌==◌, nat_le, slice_index, if◌then◌else◌, List, length, Option, Some, None, is_some, bytes_eq, codes}
use Rattle.std.specs.List.{list_all}
use Rattle.std.specs.Str.Parse.{digits_value}
use Rattle.helix_base.specs.Digits.{is_digit}
use Rattle.helix_base.specs.declared.alphabet.Alphabet.{Alphabet}
use Rattle.helix_base.specs.declared.alphabet.Alphabet.TheVariants as alphabet
use Rattle.helix_output.specs.declared.format.Format.{Format}
use Rattle.helix_output.specs.declared.format.Format.TheVariants as format
use Rattle.helix_command.specs.declared.options.OptionName.{OptionName}
use Rattle.helix_command.specs.declared.options.OptionName.TheVariants as option
use Rattle.helix_command.specs.Options.{takes_value}

-- one or more decimal digits, the first of which isn't 0
abbrev pub is_numeral : List ℕ → Bool
is_numeral text = not (length text == 0) && not (slice_index text 0 == 48) && list_all is_digit text

-- the number that a numeral spells, where it is at most this one
unfoldable pub number_within : ℕ → List ℕ → Option ℕ
number_within most text =
    if is_numeral text && nat_le (digits_value 10 text) most then Some (digits_value 10 text) else None

-- the greatest number that an option takes
abbrev pub greatest_number : ℕ
greatest_number = 1000000000000

unfoldable pub format_named : List ℕ → Option Format
format_named text = if bytes_eq text (codes "csv") then Some format.Csv
    else if bytes_eq text (codes "json") then Some format.Json
    else None

unfoldable pub alphabet_named : List ℕ → Option Alphabet
alphabet_named text = if bytes_eq text (codes "basic") then Some alphabet.Basic
    else if bytes_eq text (codes "latin") then Some alphabet.Latin
    else if bytes_eq text (codes "unicode") then Some alphabet.Unicode
    else None

-- a number from 1 to the greatest
abbrev pub is_number : List ℕ → Bool
is_number text = is_some (number_within greatest_number text)

-- the text is a value of the option; where it is a name, it isn't empty
unfoldable pub is_value : OptionName → List ℕ → Bool
is_value option.OutputFormat text = is_some (format_named text)
is_value option.MaxRows text = is_number text
is_value option.Violate text = is_number text
is_value option.Workload text = is_number text
is_value option.Characters text = is_some (alphabet_named text)
is_value other text = takes_value other && not (length text == 0)
