use Rattle.helix_legacy.proofs.Rules.{no_list, list_says}
use Rattle.helix_legacy.proofs.breach.rules_fault.Goals as goal

pub returns-in-Some : goal.returns-in-Some
returns-in-Some c = list_says c.args.rules.now c.in-Some.items.now c.items_fault.result c.in-Some.ensures.some
    c.items_fault.ensures

pub returns-in-None : goal.returns-in-None
returns-in-None c = no_list c.args.rules.now c.in-None.ensures.empty
