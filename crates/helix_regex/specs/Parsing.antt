-- Why a text gives no expression.
use Rattle.std.specs.Prelude.{ℕ, List}
use Rattle.helix_regex.specs.declared.fault.RegexError.{RegexError}
use Rattle.helix_regex.specs.declared.fault.RegexError.TheVariants as error
use Rattle.helix_regex.specs.Faults.{FirstFault}

-- a fault is the text's first; running out of memory has no cause in the text
abbrev pub IsCause : List ℕ → RegexError → Type 0
IsCause text (error.Fault fault) = FirstFault text fault
IsCause text error.Memory = Unit {0}
