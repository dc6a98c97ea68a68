use Rattle.helix_rules.proofs.Atomic.{atom_says, no_atom_says}
use Rattle.helix_rules.proofs.atom.atom_fault.Goals as goal

pub returns-in-Some : goal.returns-in-Some
returns-in-Some c = atom_says c.args.rule c.args.fields.now c.args.v.now c.in-Some.atom c.atom_in.result
    c.fault_in_operand.result c.atom_in.ensures c.in-Some.is c.fault_in_operand.ensures

pub returns-in-None : goal.returns-in-None
returns-in-None c = no_atom_says c.args.rule c.args.fields.now c.args.v.now c.atom_in.result c.atom_in.ensures
    c.in-None.is
