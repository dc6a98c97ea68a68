-- What the groups give.
use Rattle.std.specs.Prelude.{ℕ, Bool, false, ◌==◌, List, Option, find}
use Rattle.std.specs.List.{list_any}
use Rattle.std.specs.Option.{option_map_or, option_and_then}
use Rattle.helix_command.specs.declared.group.Group.{Group}
use Rattle.helix_command.specs.declared.options.OptionName.{OptionName}
use Rattle.helix_command.specs.Options.{row_of}
use Rattle.helix_command.specs.Values.{number_within, greatest_number}

-- the group is one of the option
unfoldable pub gives : OptionName → Group → Bool
gives option group = option_map_or (λ own. row_of own == row_of option) group.option false

-- some group gives the option
unfoldable pub is_given : OptionName → List Group → Bool
is_given option groups = list_any (λ group. gives option group) groups

-- the value of the first group that gives the option
unfoldable pub value_given : OptionName → List Group → Option (List ℕ)
value_given option groups = option_and_then (λ group. group.value) (find (λ group. gives option group) groups)

-- the number that it spells
unfoldable pub number_given : OptionName → List Group → Option ℕ
number_given option groups = option_and_then (number_within greatest_number) (value_given option groups)

-- the group is one of one of these options
unfoldable pub is_among : List OptionName → Group → Bool
is_among among group = list_any (λ option. gives option group) among

-- the first given option among these
unfoldable pub first_given : List OptionName → List Group → Option OptionName
first_given among groups = option_and_then (λ group. group.option) (find (λ group. is_among among group) groups)
