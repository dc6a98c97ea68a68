use Rattle.helix_command.specs.Checks.{check_fault}
use Rattle.helix_command.proofs.Blaming.{blamed}
use Rattle.helix_command.proofs.checks.check_fault.Goals as goal

pub returns : goal.returns
unfolding check_fault
returns c =
    let all = blamed c.names_fault.result c.output_fault.result c.token_fault.result c.rule_fault.result
    c.all_fault.result c.boundary_fault.result c.explain_fault.result in cc
