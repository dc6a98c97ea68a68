use Rattle.std.proofs.Common.{◌≤◌, length, sym, ap, subst}
use Rattle.std.specs.List.{All}
use Rattle.helix_rows.proofs.Finishing.{opened}
use Rattle.helix_rows.proofs.walk.RowWalk.open.Goals as goal

pub invariant_of-result : goal.invariant_of-result
invariant_of-result g c =
    opened g.R.Region.fields g.R.Region.HasRow c.in_ok-layout.layout c.args.fields c.args.regions.items c.args.parts
    c.in_ok-alive.alive.items c.most_regions-room.result c.in_ok-open.field-0.room c.in_ok-row.row
    c.has_empty_part-empty.result c.in_ok-layout.ensures.layout c.in_ok-layout.ensures.parts c.requires.regions
    c.in_ok-alive.ensures.count c.in_ok-alive.ensures.rooms c.in_ok-alive.ensures.few
    (subst (All (λ part. length part.regions ≤ c.most_regions-room.result)) c.as_slice.ensures
    c.most_regions-room.ensures.few)
    (λ bound all. c.most_regions-room.ensures.least bound
    (subst (All (λ part. length part.regions ≤ bound)) (sym c.as_slice.ensures) all))
    (ap (λ n. n.room) c.in_ok-open.ensures) c.in_ok-row.ensures
    c.has_empty_part-empty.ensures
