use Rattle.std.proofs.Common.{sym}
use Rattle.helix_legacy.proofs.Shapes.{no_list, items_say}
use Rattle.helix_legacy.proofs.shape.form_fault.Goals as goal

pub returns-in-Some : goal.returns-in-Some
returns-in-Some c = items_say c.args.rules.now c.in-Some.items.now c.items_fault.result c.in-Some.ensures.some
    c.items_fault.ensures

pub returns-in-None : goal.returns-in-None
returns-in-None c = no_list c.args.rules.now c.top.result (sym c.in-None.ensures.none) c.top.ensures
