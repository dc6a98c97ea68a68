use Rattle.std.proofs.Common.{pos, ◌+ℤ◌}
use Rattle.helix_grids.proofs.OnAndOff.{HasSearched, distance}
use Rattle.helix_grids.proofs.first.first_on_and_off.Given as goal

abbrev pub invariant-loop-from : goal.invariant-loop-from
invariant-loop-from g l = HasSearched (g.S.Scale.ladder l.scale).low l.most ((g.S.Scale.ladder l.scale).IsOn l.on)
    ((g.S.Scale.ladder l.scale).IsOn l.off) l.bound l.from

abbrev pub decreases-loop-from : goal.decreases-loop-from
decreases-loop-from g l = distance l.from (l.most +ℤ pos 1)
