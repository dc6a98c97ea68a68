use Rattle.helix_domains.proofs.OnGrids.{moments_exact}
use Rattle.helix_domains.proofs.grids.moments.Goals as goal

pub returns : goal.returns
returns c = moments_exact c.args.kind c.args.level c.args.atoms.now c.in_ok-tests.tests.items c.as_slice.result.now
    c.in_ok-of.field-0 c.requires.class c.requires.level c.in_ok-tests.ensures.exact c.as_slice.ensures.value
    c.in_ok-of.ensures
