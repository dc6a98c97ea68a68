use Rattle.std.proofs.Common.{ap}
use Rattle.helix_domains.proofs.Walking.{near_texts}
use Rattle.helix_domains.proofs.walk.near_of.Goals as goal

pub returns-in_ok-open-in-Texts : goal.returns-in_ok-open-in-Texts
returns-in_ok-open-in-Texts c = near_texts c.args.values.now c.in-Texts.words c.longest_word.result
    c.in_ok-open-in-Texts.field-0
    c.in-Texts.is c.longest_word.ensures.room (ap (λ t. t.room) c.in_ok-open-in-Texts.ensures)
