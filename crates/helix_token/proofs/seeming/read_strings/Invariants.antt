use Rattle.std.proofs.Common.{◌≡◌, ◌++◌, length, map}
use Rattle.std.specs.Str.{chars}
use Rattle.helix_token.specs.Inner.Strings.{first_strings}
use Rattle.helix_token.proofs.seeming.read_strings.Given as goal

abbrev pub invariant-loop-text : goal.invariant-loop-text
invariant-loop-text l = l.strings ++ map chars (first_strings l.reader) ≡ map chars (first_strings l.initial.reader)

abbrev pub decreases-loop-text : goal.decreases-loop-text
decreases-loop-text l = length l.reader
