use Rattle.helix_values.proofs.ClassLaws.{class_of_value, comparable_in_class}
use Rattle.helix_values.proofs.laws.universes_lie_in_classes.Goals as goal

pub returns-clause-class : goal.returns-clause-class
returns-clause-class c = class_of_value

pub returns-clause-comparable : goal.returns-clause-comparable
returns-clause-comparable c = comparable_in_class
