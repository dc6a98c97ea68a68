use Rattle.helix_json.proofs.Builder.{item_ends}
use Rattle.helix_json.proofs.build.end_item.Goals as goal

pub returns-in_ok-push-in-Comma : goal.returns-in_ok-push-in-Comma
returns-in_ok-push-in-Comma c =
    item_ends c.args.frames.now.items c.push-in-Comma.new.self.items c.args.items c.push.new.self c.args.item
    c.args.token c.in-Comma.is c.in_ok-push.ensures.ok c.in_ok-push-in-Comma.ensures.items
