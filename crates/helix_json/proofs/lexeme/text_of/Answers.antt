use Rattle.std.proofs.Common.{arith}
use Rattle.helix_base.specs.Inner.ScalarLaws.{scalar_at}
use Rattle.helix_json.proofs.lexeme.text_of.Goals as goal

pub push-requires : goal.push-requires
push-requires c = scalar_at c.args.codes.now c.loop-code.code-index c.requires (omega arith)
