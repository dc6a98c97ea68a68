use Rattle.std.proofs.Common.{rules}
use Rattle.helix_json.specs.Inner.DecimalLaws.{digits_more}
use Rattle.helix_references.proofs.digits.digits_end.Goals as goal

pub loop-i-preserved : goal.loop-i-preserved
loop-i-preserved c = search (rules, digits_more)
