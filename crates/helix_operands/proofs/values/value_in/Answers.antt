use Rattle.std.proofs.Common.{ap}
use Rattle.helix_operands.proofs.Given.{value_by_class}
use Rattle.helix_values.specs.Class.{class_of_kind, moments, numbers, strings}
use Rattle.helix_operands.proofs.values.value_in.Goals as goal

pub returns-in-Integer : goal.returns-in-Integer
returns-in-Integer c = value_by_class numbers c.args.kind c.args.json.now c.number_in.result
    (ap class_of_kind c.in-Integer.is) c.number_in.ensures

pub returns-in-Decimal : goal.returns-in-Decimal
returns-in-Decimal c = value_by_class numbers c.args.kind c.args.json.now c.number_in-in-Decimal.result
    (ap class_of_kind c.in-Decimal.is) c.number_in-in-Decimal.ensures

pub returns-in-Text : goal.returns-in-Text
returns-in-Text c = value_by_class strings c.args.kind c.args.json.now c.string_in.result
    (ap class_of_kind c.in-Text.is) c.string_in.ensures.strings

pub returns-in-Date : goal.returns-in-Date
returns-in-Date c = value_by_class moments c.args.kind c.args.json.now c.string_in-in-Date.result
    (ap class_of_kind c.in-Date.is) c.string_in-in-Date.ensures.moments

pub returns-in-DateTime : goal.returns-in-DateTime
returns-in-DateTime c = value_by_class moments c.args.kind c.args.json.now c.string_in-in-DateTime.result
    (ap class_of_kind c.in-DateTime.is) c.string_in-in-DateTime.ensures.moments

pub returns-in-Code : goal.returns-in-Code
returns-in-Code c = value_by_class strings c.args.kind c.args.json.now c.string_in-in-Code.result
    (ap class_of_kind c.in-Code.is) c.string_in-in-Code.ensures.strings
