use Rattle.std.proofs.Common.{rules, ap, take}
use Rattle.helix_rows.proofs.Offers.{offered_equal, offered_above}
use Rattle.helix_rows.specs.Inner.Answers.{best_of}
use Rattle.helix_rows.specs.Regions.{piece, Continues}
use Rattle.helix_rows.proofs.offer.offer.Goals as goal

pub returns-in-Equal-clause-offered : goal.returns-in-Equal-clause-offered
returns-in-Equal-clause-offered g c =
    offered_equal (Continues (g.R.Region.HasRow c.args.region.now)
    (piece (take c.args.position (g.R.Region.fields c.args.region.now)) c.args.row.now)) c.args.mark c.args.number
    (best_of c.args.found.now) c.args.found.now.spare c.least-2.new.out c.if-not-least.ensures.answer _ _
    c.cmp_cell.result
    c.cmp_cell.ensures c.view.ensures c.view-2.ensures c.in-Equal.is c.push-in-Equal.new.self.items
    (ap (λ n. n.items) c.push-in-Equal.ensures)

pub returns-in-Greater-clause-offered : goal.returns-in-Greater-clause-offered
returns-in-Greater-clause-offered g c =
    offered_above (Continues (g.R.Region.HasRow c.args.region.now)
    (piece (take c.args.position (g.R.Region.fields c.args.region.now)) c.args.row.now)) c.args.mark c.args.number
    (best_of c.args.found.now) c.args.found.now.spare c.least-2.new.out c.if-not-least.ensures.answer _ _
    c.cmp_cell.result
    c.cmp_cell.ensures c.view.ensures c.view-2.ensures c.in-Greater.is
    (search rules)
