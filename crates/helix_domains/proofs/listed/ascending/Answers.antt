use Rattle.helix_domains.proofs.Distinct.{same_through}
use Rattle.helix_domains.proofs.listed.ascending.Goals as goal

pub returns-clause-same : goal.returns-clause-same
returns-clause-same c = same_through c.args.cells.items c.in_ok-all.all.items c.as_slice.result.now c.distinct.result
    c.as_slice.ensures.value c.in_ok-all.ensures.same c.distinct.ensures.same
