use Rattle.std.proofs.Common.{sym, subst}
use Rattle.std.specs.List.{All}
use Rattle.std.proofs.lemmas.List.Elements.{All-push}
use Rattle.helix_grids.specs.Tests.{NamesLevelBelow}
use Rattle.helix_domains.specs.Inner.Line.{ladder_on}
use Rattle.helix_domains.proofs.GridTests.{tests_more, tests_all}
use Rattle.helix_domains.proofs.grids.grid_tests.Goals as goal

pub loop-signed-preserved : goal.loop-signed-preserved
loop-signed-preserved c = record {
  exact = tests_more c.args.line c.args.atoms.now c.loop-signed.signed-index c.signed-item.result
      c.loop-signed-test.true c.signed-item.is c.loop-signed.tests.items c.push.new.self.items c.in_ok-grid_test.field-0
      c.in_ok-push.ensures.items c.loop-signed.invariant.exact c.in_ok-grid_test.ensures.exact;
  levels = subst (All (NamesLevelBelow (ladder_on c.args.line).levels)) (sym c.in_ok-push.ensures.items)
      (All-push (NamesLevelBelow (ladder_on c.args.line).levels) c.loop-signed.tests.items c.in_ok-grid_test.field-0
      c.loop-signed.invariant.levels c.in_ok-grid_test.ensures.level);
}

pub returns-clause-exact : goal.returns-clause-exact
returns-clause-exact c = tests_all c.args.line c.args.atoms.now c.loop-signed.signed-index c.loop-signed.tests.items
    c.loop-signed-test.false c.loop-signed.invariant.exact
