use Rattle.helix_grids.proofs.Meeting.{met}
use Rattle.helix_grids.proofs.grid.Grid.meet.Goals as goal

pub invariant_of-self-2 : goal.invariant_of-self-2
invariant_of-self-2 g c =
    rw (c.in_ok-push.ensures.items, c.in_ok-met.ensures)
    (met _ _ _ _ _ _ c.self.invariant c.in_ok-members.ensures.form c.in_ok-members.ensures.exact)
