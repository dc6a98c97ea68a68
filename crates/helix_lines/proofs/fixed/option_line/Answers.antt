use Rattle.std.proofs.Common.{ap, arith, length}
use Rattle.helix_lines.proofs.OptionWords.{word_length}
use Rattle.helix_lines.proofs.fixed.option_line.Goals as goal

pub push_str-requires : goal.push_str-requires
push_str-requires c = (
  omega arith,
  omega (arith, ap length c.fixed_line-line.ensures, ap length c.word.ensures, word_length c.args.option),
)
