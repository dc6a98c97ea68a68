-- The tests of the operand of `anyOf` or `allOf`.
use Rattle.std.specs.Prelude.{Bool}
use Rattle.helix_json.specs.declared.value.Json.{Json}
use Rattle.helix_constraints.specs.declared.form_rule.OperandTest.{OperandTest}
use Rattle.helix_constraints.specs.declared.form_rule.OperandTest.TheVariants as test
use Rattle.helix_constraints.specs.Rules.{is_no_list, is_empty_list}

abbrev pub passes : OperandTest → Json → Bool
passes test.NoList = is_no_list
passes test.Empty = is_empty_list
