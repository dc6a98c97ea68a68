use Rattle.helix_legacy.proofs.Naming.{no_names, list_names}
use Rattle.helix_legacy.proofs.names.name_fault.Goals as goal

pub returns-in-Some : goal.returns-in-Some
returns-in-Some c = list_names c.args.rules.now c.in-Some.items.now c.names_fault.result c.in-Some.ensures.some
    c.names_fault.ensures

pub returns-in-None : goal.returns-in-None
returns-in-None c = no_names c.args.rules.now c.in-None.ensures.empty
