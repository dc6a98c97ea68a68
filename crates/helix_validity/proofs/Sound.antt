-- A constraint, or a list of them, within which no rule on constraints is broken, at a place.
use Rattle.std.proofs.Common.{◌≡◌, inl, inr, List, [], ◌∷◌, ◌++◌, Option, Some, None, slice_get, codes, refl, sym, subst, append_assoc}
use Rattle.std.specs.Option.{IsSomeAnd}
use Rattle.helix_constraints.specs.Rules.{BreaksForm, BreaksSize, form_in}
use Rattle.helix_constraints.specs.Visited.{InConstraint, InConstraints, Visited, role_of_parts}
use Rattle.helix_constraints.specs.declared.role.Role.{Role}
use Rattle.helix_constraints.specs.declared.role.Role.TheVariants as role
use Rattle.helix_fields.specs.Fields.{IsNowhere}
use Rattle.helix_json.specs.declared.value.Json.{Json}
use Rattle.helix_keywords.specs.declared.form.Form.{Form}
use Rattle.helix_operands.specs.declared.rule.OperandRule.{OperandRule}
use Rattle.helix_operands.specs.declared.rule.OperandRule.TheVariants as operand
use Rattle.helix_places.specs.Members.{items_of, members_of, value_of}
use Rattle.helix_places.specs.PlaceLaws.{and_some}
use Rattle.helix_places.specs.Places.{InItem, part}
use Rattle.helix_places.specs.declared.place.Step.{Step}
use Rattle.helix_places.specs.declared.place.Step.TheVariants as step
use Rattle.helix_profile.specs.declared.field.Field.{Field}
use Rattle.helix_readings.specs.declared.sets.SetMembers.{SetMembers}
use Rattle.helix_references.specs.Rules.{Breaks}
use Rattle.helix_references.specs.declared.rule.ReferenceRule.{ReferenceRule}
use Rattle.helix_references.specs.declared.rule.ReferenceRule.TheVariants as reference
use Rattle.helix_rules.specs.Atoms.{BreaksAtom}
use Rattle.helix_rules.specs.declared.rule.Rule.TheVariants as rule
use Rattle.helix_validity.specs.Mentions.{AreFilled, AreSetMembers, NamesSetFile}
use Rattle.helix_validity.specs.Unbroken.{IsUnbrokenProfile}
use Rattle.helix_values.specs.declared.kind.Kind.{Kind}

pub record IsSound (fields : List Field) (sets : List SetMembers) (prefix : List Step) (which : Role) (v : Json)
    : Type 0
  where
    pub form : IsNowhere (Visited BreaksForm which) v
    pub size : IsNowhere (Visited BreaksSize which) v
    pub references : (broken : ReferenceRule) → IsNowhere (Visited (Breaks broken fields) which) v
    pub operands : (broken : OperandRule) → IsNowhere (Visited (BreaksAtom broken fields) which) v
    pub filled : (kind : Kind) (place : List Step) → Visited (NamesSetFile fields kind) which v place
        → AreSetMembers sets kind (prefix ++ place)

-- what is named in a part is named in the whole
in_part : (P : Json → List Step → Type 0) (which next : Role) (v w : Json) (s : Step) (place : List Step)
    → role_of_parts which v ≡ Some next → part v s ≡ Some w → Visited P next w place → Visited P which v (s ∷ place)
in_part P which next v w s place role_is part_is there =
    inr (and_some (role_of_parts which v) (λ r. IsSomeAnd (part v s) (λ u. Visited P r u place)) next role_is
    (and_some (part v s) (λ u. Visited P next u place) w part_is there))

-- what a constraint names itself
pub itself : (P : Json → List Step → Type 0) (v : Json) (place : List Step) → P v place → Visited P role.One v place
itself P v [] h = h
itself P v (s ∷ place) h = inl h

-- what is named in a constraint of the list is named in the profile
in_profile : (P : Json → List Step → Type 0) (v w item : Json) (i : _) (place : List Step)
    → value_of (codes "constraints") (members_of v) ≡ Some w → slice_get (items_of w) i ≡ Some item
    → InConstraint P item place → InConstraints P v (step.Member (codes "constraints") ∷ step.Item i ∷ place)
in_profile P v w item i place is at there = (
  refl,
  and_some (value_of (codes "constraints") (members_of v)) (λ u. InItem (InConstraint P) u (step.Item i ∷ place)) w is
      (and_some (slice_get (items_of w) i) (λ u. InConstraint P u place) item at there),
)

module _ (fields : List Field) (sets : List SetMembers) where
  pub sound_part : (prefix : List Step) (which next : Role) (v w : Json) (s : Step)
      → role_of_parts which v ≡ Some next → part v s ≡ Some w → IsSound fields sets prefix which v
      → IsSound fields sets (prefix ++ s ∷ []) next w
  sound_part prefix which next v w s role_is part_is sound = record {
    form = λ place h. sound.form (s ∷ place) (in_part BreaksForm which next v w s place role_is part_is h);
    size = λ place h. sound.size (s ∷ place) (in_part BreaksSize which next v w s place role_is part_is h);
    references = λ broken place h. sound.references broken (s ∷ place)
        (in_part (Breaks broken fields) which next v w s place role_is part_is h);
    operands = λ broken place h. sound.operands broken (s ∷ place)
        (in_part (BreaksAtom broken fields) which next v w s place role_is part_is h);
    filled = λ kind place h. subst (AreSetMembers sets kind) (sym (append_assoc prefix (s ∷ []) place))
        (sound.filled kind (s ∷ place) (in_part (NamesSetFile fields kind) which next v w s place role_is part_is h));
  }

  module _ (v : Json) (unbroken : IsUnbrokenProfile fields v) where
    no_reference : (broken : ReferenceRule) → IsNowhere (InConstraints (Breaks broken fields)) v
    no_reference reference.Reference = unbroken rule.S9
    no_reference reference.Class = unbroken rule.S10
    no_reference reference.OneClass = unbroken rule.S18
    no_reference reference.TwoFields = unbroken rule.S19
    no_reference reference.Offset = unbroken rule.S20

    no_operand : (broken : OperandRule) → IsNowhere (InConstraints (BreaksAtom broken fields)) v
    no_operand operand.Type = unbroken rule.S11
    no_operand operand.Value = unbroken rule.S12
    no_operand operand.Size = unbroken rule.S13
    no_operand operand.Grid = unbroken rule.S14
    no_operand operand.Length = unbroken rule.S15
    no_operand operand.Pattern = unbroken rule.S16

    -- each constraint of the list
    pub sound_item : AreFilled fields sets v → (w item : Json) (i : _)
        → value_of (codes "constraints") (members_of v) ≡ Some w → slice_get (items_of w) i ≡ Some item
        → IsSound fields sets (step.Member (codes "constraints") ∷ step.Item i ∷ []) role.One item
    sound_item filled w item i is at = record {
      form = λ place h. unbroken rule.S8 (step.Member (codes "constraints") ∷ step.Item i ∷ place)
          (in_profile BreaksForm v w item i place is at h);
      size = λ place h. unbroken rule.S17 (step.Member (codes "constraints") ∷ step.Item i ∷ place)
          (in_profile BreaksSize v w item i place is at h);
      references = λ broken place h. no_reference broken (step.Member (codes "constraints") ∷ step.Item i ∷ place)
          (in_profile (Breaks broken fields) v w item i place is at h);
      operands = λ broken place h. no_operand broken (step.Member (codes "constraints") ∷ step.Item i ∷ place)
          (in_profile (BreaksAtom broken fields) v w item i place is at h);
      filled = λ kind place h. filled kind (step.Member (codes "constraints") ∷ step.Item i ∷ place)
          (in_profile (NamesSetFile fields kind) v w item i place is at h);
    }

  -- a sound constraint has a form
  module _ (prefix : List Step) (v : Json) (sound : IsSound fields sets prefix role.One v) where
    form_by : (f : Option Form) → form_in v ≡ f → (has : Form) × (form_in v ≡ Some has)
    form_by None is = absurd (sound.form [] (inl (refl, is)))
    form_by (Some has) is = (has, is)

    pub its_form : (has : Form) × (form_in v ≡ Some has)
    its_form = form_by (form_in v) refl
