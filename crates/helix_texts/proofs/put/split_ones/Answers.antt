use Rattle.std.proofs.Common.{arith}
use Rattle.helix_texts.proofs.EndZeros.{numeral-le}
use Rattle.helix_texts.proofs.put.split_ones.Goals as goal

pub returns-clause-short : goal.returns-clause-short
returns-clause-short c = numeral-le _ (omega arith)
