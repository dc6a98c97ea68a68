use Rattle.std.proofs.Common.{◌≡◌, ◌++◌, take}
use Rattle.helix_token.specs.Inner.Strings.{string_tokens}
use Rattle.helix_token.proofs.write.write_strings.Given as goal

abbrev pub invariant-loop-string : goal.invariant-loop-string
invariant-loop-string l = record {
  tokens : l.writer.tokens ≡ l.initial.writer.tokens ++ string_tokens (take l.string-index l.strings);
  before : l.writer.before ≡ l.initial.writer.before;
}
