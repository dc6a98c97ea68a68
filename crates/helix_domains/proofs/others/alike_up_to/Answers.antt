use Rattle.std.proofs.Common.{arith}
use Rattle.helix_domains.proofs.Followings.{alike_more, alike_all}
use Rattle.helix_domains.proofs.others.alike_up_to.Goals as goal

pub loop-number-preserved : goal.loop-number-preserved
loop-number-preserved c = record {
  reached = omega (arith, c.min-last.ensures, c.loop-number.invariant.reached, c.alike.ensures.reached);
  alike = λ other low high. alike_more c.args.cells.now c.args.place c.args.numbers.now c.loop-number.number-index
      _ c.args.code other c.loop-number-test.true c.code_of.result c.code_of.ensures
      (c.alike.ensures.alike other low (omega (arith, high, c.min-last.ensures)))
      (c.loop-number.invariant.alike other low (omega (arith, high, c.min-last.ensures)));
}

pub returns-clause-alike : goal.returns-clause-alike
returns-clause-alike c = λ other low high. alike_all c.args.cells.now c.args.place c.args.numbers.now
    c.loop-number.number-index c.args.code other c.loop-number-test.false (c.loop-number.invariant.alike other low high)
