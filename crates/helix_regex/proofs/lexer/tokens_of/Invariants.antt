use Rattle.std.proofs.Common.{take}
use Rattle.helix_regex.specs.Pattern.{Pattern, Writes}
use Rattle.helix_regex.proofs.Tokenized.{Lexed}
use Rattle.helix_regex.proofs.lexer.tokens_of.Given as goal

abbrev pub invariant-loop-i : goal.invariant-loop-i
invariant-loop-i l = (p : Pattern) → Writes l.codes p → Lexed (take l.i l.codes) l.lexer l.all.items
