use Rattle.std.proofs.Common.{◌∙◌, vec_len}
use Rattle.helix_json.proofs.Tracking.{stays, opens, closes, without_last}
use Rattle.helix_json.proofs.nest.Nest.allow.Goals as goal

pub returns-in-Stay : goal.returns-in-Stay
returns-in-Stay c = stays c.args.self.now c.args.kind c.innermost.result c.innermost.ensures c.in-Stay.need
    c.in-Stay.ensures

pub returns-in_ok-push-in-Open : goal.returns-in_ok-push-in-Open
returns-in_ok-push-in-Open c = opens c.args.self.now c.args.kind c.innermost.result c.innermost.ensures c.in-Open.need
    c.in-Open.container c.push.new.self.items c.in-Open.ensures
    c.in_ok-push-in-Open.ensures.items

pub returns-in-Close : goal.returns-in-Close
returns-in-Close c = closes c.args.self.now c.args.kind c.innermost.result c.innermost.ensures c.pop.new.self.items
    c.in-Close.ensures
    (λ outer last is. c.pop.ensures.rest ∙ without_last c.args.self.now.containers.items outer last
    (vec_len c.args.self.now.containers) c.args.self.now.containers.ok.0 is)
