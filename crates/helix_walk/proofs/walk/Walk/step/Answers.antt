use Rattle.std.proofs.Common.{subst}
use Rattle.helix_walk.proofs.Kept.{keeps_walk}
use Rattle.helix_walk.specs.Kept.{KeepsWalk}
use Rattle.helix_walk.proofs.walk.Walk.step.Goals as goal

pub returns-clause-parts : goal.returns-clause-parts
returns-clause-parts g c = subst (λ walk. KeepsWalk walk c.step.new.self) c.self.view_is
    (keeps_walk c.self.inside.rows c.step.new.self c.step.ensures.parts)
