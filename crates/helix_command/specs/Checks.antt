-- The checks after the last word: options that are missing, and options that do not go together.
use Rattle.std.specs.Prelude.{ℕ, ◌+◌, Bool, false, ◌&&◌, ◌||◌, ◌==◌, if◌then◌else◌, List, [], ◌∷◌, length, take, drop, Option, Some, None, is_some, slice_index, bytes_eq}
use Rattle.std.specs.Option.{option_or}
use Rattle.helix_command.specs.declared.group.Group.{Group}
use Rattle.helix_command.specs.declared.options.OptionName.{OptionName}
use Rattle.helix_command.specs.declared.options.OptionName.TheVariants as option
use Rattle.helix_command.specs.Values.{number_within}
use Rattle.helix_command.specs.Given.{is_given, value_given, first_given}

-- the option is to blame where this holds
abbrev pub blame : OptionName → Bool → Option OptionName
blame option wrong = if wrong then Some option else None

-- the option is to blame where it isn't given
unfoldable pub missing : OptionName → List Group → Option OptionName
missing option groups = if is_given option groups then None else Some option

-- two texts are there, and they are the same
abbrev pub both_equal : Option (List ℕ) → Option (List ℕ) → Bool
both_equal (Some a) (Some b) = bytes_eq a b
both_equal (Some a) None = false
both_equal None other = false

-- both options are given, with the same text
unfoldable pub are_equal : OptionName → OptionName → List Group → Bool
are_equal a b groups = both_equal (value_given a groups) (value_given b groups)

-- both options are given
unfoldable pub are_given : OptionName → OptionName → List Group → Bool
are_given a b groups = is_given a groups && is_given b groups

-- the options that don't go with a workload
abbrev pub not_of_workload : List OptionName
not_of_workload = option.ProfileFile ∷ option.OutputPath ∷ option.OutputFormat ∷ option.ResumeFile ∷ option.TokenFile
    ∷ option.Violate ∷ option.ViolateRule ∷ option.Characters ∷ option.Replace ∷ option.ViolateAll ∷ option.Boundary
    ∷ option.Explain ∷ []

-- those that don't go with the violation of all constraints
abbrev pub not_of_all : List OptionName
not_of_all = option.Violate ∷ option.ViolateRule ∷ option.ResumeFile ∷ option.TokenFile ∷ []

-- the file's name is the output path, `.` and a numeral from 1 to 1000
unfoldable pub is_numbered : List ℕ → List ℕ → Bool
is_numbered output file = (slice_index file (length output) == 46) && bytes_eq (take (length output) file) output
    && is_some (number_within 1000 (drop (length output + 1) file))

abbrev pub both_numbered : Option (List ℕ) → Option (List ℕ) → Bool
both_numbered (Some output) (Some file) = is_numbered output file
both_numbered (Some output) None = false
both_numbered None other = false

-- the profile file is one that a violation of all constraints writes
unfoldable pub is_overwritten : List Group → Bool
is_overwritten groups = both_numbered (value_given option.OutputPath groups) (value_given option.ProfileFile groups)

-- a workload has only a row limit beside it
abbrev pub workload_fault : List Group → Option OptionName
workload_fault groups = option_or (first_given not_of_workload groups) (missing option.MaxRows groups)

-- another order has a profile file and an output path
abbrev pub generate_fault : List Group → Option OptionName
generate_fault groups = option_or (missing option.ProfileFile groups) (missing option.OutputPath groups)

unfoldable pub names_fault : List Group → Option OptionName
names_fault groups = if is_given option.Workload groups then workload_fault groups else generate_fault groups

-- the output is neither the profile file nor the resume file
unfoldable pub output_fault : List Group → Option OptionName
output_fault groups = blame option.OutputPath
    (are_equal option.OutputPath option.ProfileFile groups || are_equal option.OutputPath option.ResumeFile groups)

-- the token file is neither the profile file nor the output
unfoldable pub token_fault : List Group → Option OptionName
token_fault groups = blame option.TokenFile
    (are_equal option.TokenFile option.ProfileFile groups || are_equal option.TokenFile option.OutputPath groups)

-- one constraint is violated at most
unfoldable pub rule_fault : List Group → Option OptionName
rule_fault groups = blame option.ViolateRule (are_given option.ViolateRule option.Violate groups)

-- where all are, no single one is, no run goes on, and none of the files that are written is the profile file
unfoldable pub all_fault : List Group → Option OptionName
all_fault groups = if is_given option.ViolateAll groups
    then option_or (first_given not_of_all groups) (blame option.OutputPath (is_overwritten groups))
    else None

unfoldable pub boundary_fault : List Group → Option OptionName
boundary_fault groups = blame option.Boundary (are_given option.Boundary option.ViolateAll groups)

unfoldable pub explain_fault : List Group → Option OptionName
explain_fault groups = blame option.Explain
    (are_given option.Explain option.ViolateAll groups || are_given option.Explain option.Boundary groups)

-- the first option to blame
abbrev pub first_blamed : List (Option OptionName) → Option OptionName
first_blamed [] = None
first_blamed (fault ∷ faults) = option_or fault (first_blamed faults)

-- the checks in their order
unfoldable pub check_fault : List Group → Option OptionName
check_fault groups = first_blamed (names_fault groups ∷ output_fault groups ∷ token_fault groups ∷ rule_fault groups
    ∷ all_fault groups ∷ boundary_fault groups ∷ explain_fault groups ∷ [])
