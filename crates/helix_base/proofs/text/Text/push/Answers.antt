use Rattle.helix_base.specs.Inner.ScalarLaws.{all_scalars-push}
use Rattle.helix_base.proofs.text.Text.push.Goals as goal

pub invariant_of-self-2 : goal.invariant_of-self-2
invariant_of-self-2 c =
    rw c.in_ok-push.ensures.items (all_scalars-push c.self.inside.codes.items c.args.code c.self.invariant c.requires)
