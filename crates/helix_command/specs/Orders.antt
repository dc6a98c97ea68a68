-- The order that words give, or their fault.
use Rattle.std.specs.Prelude.{◌≡◌, ℕ, List, [], map, Option, Some, None, option_map, unwrap_or}
use Rattle.std.specs.Option.{option_map_or, option_or, option_and_then}
use Rattle.std.specs.Str.{chars}
use Rattle.helix_base.specs.declared.alphabet.Alphabet.{Alphabet}
use Rattle.helix_base.specs.declared.alphabet.Alphabet.TheVariants as alphabet
use Rattle.helix_command.specs.declared.fault.WordsFault.{WordsFault}
use Rattle.helix_command.specs.declared.fault.WordsFault.TheVariants as fault
use Rattle.helix_output.specs.declared.format.Format.{Format}
use Rattle.helix_output.specs.declared.format.Format.TheVariants as format
use Rattle.helix_command.specs.declared.group.Group.{Group}
use Rattle.helix_command.specs.declared.options.OptionName.TheVariants as option
use Rattle.helix_command.specs.declared.order.Job.{Job}
use Rattle.helix_command.specs.declared.order.Order.{Order}
use Rattle.helix_command.specs.declared.order.Order.TheVariants as order
use Rattle.helix_command.specs.Values.{alphabet_named, format_named}
use Rattle.helix_command.specs.Groups.{groups_of}
use Rattle.helix_command.specs.Given.{is_given, number_given, value_given}
use Rattle.helix_command.specs.Faults.{first_fault}
use Rattle.helix_command.specs.Checks.{check_fault}

-- the words as texts, from their UTF-8
unfoldable pub texts_of : List (List ℕ) → List (List ℕ)
texts_of words = map chars words

-- the row limit, which is ten million where none is given
unfoldable pub limit_of : List Group → ℕ
limit_of groups = unwrap_or (number_given option.MaxRows groups) 10000000

-- the format, which is CSV where none is given
unfoldable pub format_of : List Group → Format
format_of groups = unwrap_or (option_and_then format_named (value_given option.OutputFormat groups)) format.Csv

-- the alphabet, which is the basic one where none is given
unfoldable pub alphabet_of : List Group → Alphabet
alphabet_of groups = unwrap_or (option_and_then alphabet_named (value_given option.Characters groups)) alphabet.Basic

-- what to generate; names that must be there are
unfoldable pub job_of : List Group → Job
job_of groups = record {
  profile = unwrap_or (value_given option.ProfileFile groups) [];
  output = unwrap_or (value_given option.OutputPath groups) [];
  format = format_of groups;
  limit = limit_of groups;
  resume = value_given option.ResumeFile groups;
  token = value_given option.TokenFile groups;
  violate = number_given option.Violate groups;
  violate_rule = value_given option.ViolateRule groups;
  alphabet = alphabet_of groups;
  replace = is_given option.Replace groups;
  violate_all = is_given option.ViolateAll groups;
  boundary = is_given option.Boundary groups;
  explain = is_given option.Explain groups;
}

-- the order of groups: a workload where its number is given
unfoldable pub order_of : List Group → Order
order_of groups = option_map_or (λ number. order.Workload number (limit_of groups))
    (number_given option.Workload groups) (order.Generate (job_of groups))

-- the fault of groups: the first from the left, or else that of the first check that fails
unfoldable pub fault_of : List Group → Option WordsFault
fault_of groups = option_or (first_fault groups) (option_map (λ option. fault.«Option» option) (check_fault groups))

-- the words have no fault, and this is their order
pub record IsOrder (words : List (List ℕ)) (order : Order) : Type 0 where
  pub faultless : fault_of (groups_of words) ≡ None
  pub order_is : order ≡ order_of (groups_of words)

-- the words have this fault
pub record IsFault (words : List (List ℕ)) (fault : WordsFault) : Type 0 where
  pub fault_is : fault_of (groups_of words) ≡ Some fault
