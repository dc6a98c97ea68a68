use Rattle.helix_run.proofs.Patterns.{follows-some, follows-none}
use Rattle.helix_run.proofs.pattern.follows.Goals as goal

pub returns-in-Some : goal.returns-in-Some
returns-in-Some c =
    follows-some c.args.pattern.now c.args.bytes.now c.in-Some.rest.now c.is_empty.result c.in-Some.ensures c.requires
    c.is_empty.ensures

pub returns-in-None : goal.returns-in-None
returns-in-None c = follows-none c.args.pattern.now c.args.bytes.now c.in-None.ensures c.requires
