use Rattle.helix_json.proofs.Builder.{colon_leads}
use Rattle.helix_json.proofs.build.advance.Goals as goal

pub returns-in_ok-push-in-Colon : goal.returns-in_ok-push-in-Colon
returns-in_ok-push-in-Colon c =
    colon_leads c.args.frames.now.items c.push.new.self.items c.args.next c.in-Colon.members c.in-Colon.key c.args.token
    c.in-Colon.is c.requires c.in_ok-push-in-Colon.ensures.items
