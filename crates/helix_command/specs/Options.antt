-- The options of the command line: their words, their rows in the table of options, and whether they take a value.
use Rattle.std.specs.Prelude.{ℕ, Bool, true, false, List, [], ◌∷◌, Option, find, bytes_eq, codes}
use Rattle.helix_command.specs.declared.options.OptionName.{OptionName}
use Rattle.helix_command.specs.declared.options.OptionName.TheVariants as option

unfoldable pub word_of : OptionName → List ℕ
word_of option.ProfileFile = codes "--profile-file"
word_of option.OutputPath = codes "--output-path"
word_of option.OutputFormat = codes "--output-format"
word_of option.MaxRows = codes "--max-rows"
word_of option.ResumeFile = codes "--resume-file"
word_of option.TokenFile = codes "--token-file"
word_of option.Violate = codes "--violate"
word_of option.ViolateRule = codes "--violate-rule"
word_of option.Characters = codes "--characters"
word_of option.Replace = codes "--replace"
word_of option.ViolateAll = codes "--violate-all"
word_of option.Boundary = codes "--boundary"
word_of option.Explain = codes "--explain"
word_of option.Workload = codes "--workload"

-- the table of options
abbrev pub options : List OptionName
options = option.ProfileFile ∷ option.OutputPath ∷ option.OutputFormat ∷ option.MaxRows ∷ option.ResumeFile
    ∷ option.TokenFile ∷ option.Violate ∷ option.ViolateRule ∷ option.Characters ∷ option.Replace
    ∷ option.ViolateAll ∷ option.Boundary ∷ option.Explain ∷ option.Workload ∷ []

-- the row of an option in it, from 0
abbrev pub row_of : OptionName → ℕ
row_of option.ProfileFile = 0
row_of option.OutputPath = 1
row_of option.OutputFormat = 2
row_of option.MaxRows = 3
row_of option.ResumeFile = 4
row_of option.TokenFile = 5
row_of option.Violate = 6
row_of option.ViolateRule = 7
row_of option.Characters = 8
row_of option.Replace = 9
row_of option.ViolateAll = 10
row_of option.Boundary = 11
row_of option.Explain = 12
row_of option.Workload = 13

-- an option takes a value, or it is a flag
abbrev pub takes_value : OptionName → Bool
takes_value option.Replace = false
takes_value option.ViolateAll = false
takes_value option.Boundary = false
takes_value option.Explain = false
takes_value other = true

-- the option with a word
unfoldable pub option_named : List ℕ → Option OptionName
option_named word = find (λ option. bytes_eq word (word_of option)) options
