-- What is wrong with a group, and the first fault of all groups from the left.
use Rattle.std.specs.Prelude.{ℕ, Bool, not, ◌||◌, if◌then◌else◌, List, [], ◌∷◌, ◌++◌, Option, Some, None}
use Rattle.std.specs.Option.{option_map_or, option_or}
use Rattle.helix_command.specs.declared.fault.WordsFault.{WordsFault}
use Rattle.helix_command.specs.declared.fault.WordsFault.TheVariants as fault
use Rattle.helix_command.specs.declared.group.Group.{Group}
use Rattle.helix_command.specs.declared.options.OptionName.{OptionName}
use Rattle.helix_command.specs.Options.{takes_value}
use Rattle.helix_command.specs.Values.{is_value}
use Rattle.helix_command.specs.Given.{is_given}

-- a flag has no value, and another option has one that it takes
unfoldable pub fits : OptionName → Option (List ℕ) → Bool
fits option None = not (takes_value option)
fits option (Some text) = is_value option text

-- the fault of a group of an option: it was given before, or the value doesn't fit
abbrev pub option_fault : List Group → Option (List ℕ) → OptionName → Option WordsFault
option_fault before value option =
    if is_given option before || not (fits option value) then Some (fault.«Option» option) else None

-- the fault of a group after others: that of its option, or its word names none
unfoldable pub group_fault : List Group → Group → Option WordsFault
group_fault before group =
    option_map_or (option_fault before group.value) group.option (Some (fault.Word group.number))

-- the first fault of groups after others
abbrev pub fault_after : List Group → List Group → Option WordsFault
fault_after before [] = None
fault_after before (group ∷ groups) = option_or (group_fault before group) (fault_after (before ++ group ∷ []) groups)

-- the first fault from the left
unfoldable pub first_fault : List Group → Option WordsFault
first_fault groups = fault_after [] groups
