-- The words of options are short.
use Rattle.std.proofs.Common.{◌≤◌, length, arith}
use Rattle.helix_command.specs.Options.{word_of}
use Rattle.helix_command.specs.declared.options.OptionName.{OptionName}
use Rattle.helix_command.specs.declared.options.OptionName.TheVariants as option

pub word_length : (o : OptionName) → length (word_of o) ≤ 16
unfolding word_of
word_length option.ProfileFile = omega arith
word_length option.OutputPath = omega arith
word_length option.OutputFormat = omega arith
word_length option.MaxRows = omega arith
word_length option.ResumeFile = omega arith
word_length option.TokenFile = omega arith
word_length option.Violate = omega arith
word_length option.ViolateRule = omega arith
word_length option.Characters = omega arith
word_length option.Replace = omega arith
word_length option.ViolateAll = omega arith
word_length option.Boundary = omega arith
word_length option.Explain = omega arith
word_length option.Workload = omega arith
