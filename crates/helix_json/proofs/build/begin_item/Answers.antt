use Rattle.helix_json.proofs.Builder.{item_begins}
use Rattle.helix_json.proofs.build.begin_item.Goals as goal

pub returns-in_ok-push-in_default : goal.returns-in_ok-push-in_default
returns-in_ok-push-in_default c =
    item_begins c.args.frames.now.items c.push.new.self.items c.new-in_default.result c.args.token c.begin_value.result
    c.in_default.not-CloseList c.new-in_default.ensures c.in_ok-push-in_default.ensures.items c.begin_value.ensures
