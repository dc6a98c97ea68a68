use Rattle.helix_domains.proofs.Listing.{listed_values}
use Rattle.helix_domains.proofs.sets.listed.Goals as goal

pub returns : goal.returns
returns c = listed_values c.args.kind c.args.atoms.now c.args.cells.now c.in_ok-kept.kept.items
    c.in_ok-ascending.field-0
    c.requires.all c.in_ok-kept.ensures c.in_ok-ascending.ensures.same c.in_ok-ascending.ensures.ascending
