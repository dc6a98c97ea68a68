use Rattle.helix_rules.specs.declared.rule.Rule.TheVariants as rule
use Rattle.helix_rules.proofs.Breaching.{by_rule}
use Rattle.helix_rules.proofs.fault.fault_of.Goals as goal

pub returns-in-S8 : goal.returns-in-S8
returns-in-S8 c = by_rule c.args.fields.now c.args.v.now rule.S8 c.args.rule
    c.first_in_constraints.result c.in-S8.is c.first_in_constraints.ensures

pub returns-in-S9 : goal.returns-in-S9
returns-in-S9 c = by_rule c.args.fields.now c.args.v.now rule.S9 c.args.rule
    c.reference_fault_in.result c.in-S9.is c.reference_fault_in.ensures

pub returns-in-S10 : goal.returns-in-S10
returns-in-S10 c = by_rule c.args.fields.now c.args.v.now rule.S10 c.args.rule
    c.reference_fault_in-in-S10.result c.in-S10.is c.reference_fault_in-in-S10.ensures

pub returns-in-S11 : goal.returns-in-S11
returns-in-S11 c = by_rule c.args.fields.now c.args.v.now rule.S11 c.args.rule
    c.operand_fault_in.result c.in-S11.is c.operand_fault_in.ensures

pub returns-in-S12 : goal.returns-in-S12
returns-in-S12 c = by_rule c.args.fields.now c.args.v.now rule.S12 c.args.rule
    c.operand_fault_in-in-S12.result c.in-S12.is c.operand_fault_in-in-S12.ensures

pub returns-in-S13 : goal.returns-in-S13
returns-in-S13 c = by_rule c.args.fields.now c.args.v.now rule.S13 c.args.rule
    c.operand_fault_in-in-S13.result c.in-S13.is c.operand_fault_in-in-S13.ensures

pub returns-in-S14 : goal.returns-in-S14
returns-in-S14 c = by_rule c.args.fields.now c.args.v.now rule.S14 c.args.rule
    c.operand_fault_in-in-S14.result c.in-S14.is c.operand_fault_in-in-S14.ensures

pub returns-in-S15 : goal.returns-in-S15
returns-in-S15 c = by_rule c.args.fields.now c.args.v.now rule.S15 c.args.rule
    c.operand_fault_in-in-S15.result c.in-S15.is c.operand_fault_in-in-S15.ensures

pub returns-in-S16 : goal.returns-in-S16
returns-in-S16 c = by_rule c.args.fields.now c.args.v.now rule.S16 c.args.rule
    c.operand_fault_in-in-S16.result c.in-S16.is c.operand_fault_in-in-S16.ensures

pub returns-in-S17 : goal.returns-in-S17
returns-in-S17 c = by_rule c.args.fields.now c.args.v.now rule.S17 c.args.rule
    c.first_in_constraints-in-S17.result c.in-S17.is c.first_in_constraints-in-S17.ensures

pub returns-in-S18 : goal.returns-in-S18
returns-in-S18 c = by_rule c.args.fields.now c.args.v.now rule.S18 c.args.rule
    c.reference_fault_in-in-S18.result c.in-S18.is c.reference_fault_in-in-S18.ensures

pub returns-in-S19 : goal.returns-in-S19
returns-in-S19 c = by_rule c.args.fields.now c.args.v.now rule.S19 c.args.rule
    c.reference_fault_in-in-S19.result c.in-S19.is c.reference_fault_in-in-S19.ensures

pub returns-in-S20 : goal.returns-in-S20
returns-in-S20 c = by_rule c.args.fields.now c.args.v.now rule.S20 c.args.rule
    c.reference_fault_in-in-S20.result c.in-S20.is c.reference_fault_in-in-S20.ensures

pub returns-in-S21 : goal.returns-in-S21
returns-in-S21 c = by_rule c.args.fields.now c.args.v.now rule.S21 c.args.rule
    c.cycle_fault.result c.in-S21.is c.cycle_fault.ensures.place
