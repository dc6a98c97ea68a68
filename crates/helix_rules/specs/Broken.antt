-- Where each rule on profiles is broken.
use Rattle.std.specs.Prelude.{List}
use Rattle.helix_constraints.specs.Rules.{BreaksForm, BreaksSize}
use Rattle.helix_constraints.specs.Visited.{InConstraints}
use Rattle.helix_fields.specs.FieldRules.{BreaksField, BreaksFieldName, BreaksUnique}
use Rattle.helix_fields.specs.Whole.{BreaksConstraintList, BreaksFieldList, BreaksProfileKey, IsNoObject}
use Rattle.helix_json.specs.declared.value.Json.{Json}
use Rattle.helix_operands.specs.declared.rule.OperandRule.TheVariants as operand
use Rattle.helix_places.specs.declared.place.Step.{Step}
use Rattle.helix_profile.specs.declared.field.Field.{Field}
use Rattle.helix_references.specs.declared.rule.ReferenceRule.TheVariants as reference
use Rattle.helix_references.specs.Rules.{Breaks}
use Rattle.helix_rules.specs.declared.rule.Rule.{Rule}
use Rattle.helix_rules.specs.declared.rule.Rule.TheVariants as rule
use Rattle.helix_rules.specs.Atoms.{BreaksAtom}
use Rattle.helix_rules.specs.Lines.{BreaksForest}

-- The rule is broken at the place in the value, where these are the declared fields. Rules other than S1 to S21 are not
-- about the value alone, and are broken nowhere here.
abbrev pub Broken : List Field → Rule → Json → List Step → Type 0
Broken fields rule.S1 v place = IsNoObject v place
Broken fields rule.S2 v place = BreaksProfileKey v place
Broken fields rule.S3 v place = BreaksFieldList v place
Broken fields rule.S4 v place = BreaksField v place
Broken fields rule.S5 v place = BreaksFieldName v place
Broken fields rule.S6 v place = BreaksUnique v place
Broken fields rule.S7 v place = BreaksConstraintList v place
Broken fields rule.S8 v place = InConstraints BreaksForm v place
Broken fields rule.S9 v place = InConstraints (Breaks reference.Reference fields) v place
Broken fields rule.S10 v place = InConstraints (Breaks reference.Class fields) v place
Broken fields rule.S11 v place = InConstraints (BreaksAtom operand.Type fields) v place
Broken fields rule.S12 v place = InConstraints (BreaksAtom operand.Value fields) v place
Broken fields rule.S13 v place = InConstraints (BreaksAtom operand.Size fields) v place
Broken fields rule.S14 v place = InConstraints (BreaksAtom operand.Grid fields) v place
Broken fields rule.S15 v place = InConstraints (BreaksAtom operand.Length fields) v place
Broken fields rule.S16 v place = InConstraints (BreaksAtom operand.Pattern fields) v place
Broken fields rule.S17 v place = InConstraints BreaksSize v place
Broken fields rule.S18 v place = InConstraints (Breaks reference.OneClass fields) v place
Broken fields rule.S19 v place = InConstraints (Breaks reference.TwoFields fields) v place
Broken fields rule.S20 v place = InConstraints (Breaks reference.Offset fields) v place
Broken fields rule.S21 v place = BreaksForest fields v place
Broken fields other v place = ⊥
