-- What the members of an object give, as code sees them.
use Rattle.std.specs.Prelude.{ℕ, List, Option, IsSomeAnd}
use Rattle.helix_json.specs.declared.value.Member.{Member}
use Rattle.helix_keywords.specs.declared.form.Form.{Form}
use Rattle.helix_places.specs.Members.{value_of}
use Rattle.helix_places.specs.declared.place.Step.{Step}
use Rattle.helix_profile.specs.declared.constraint.Constraint.{Constraint}
use Rattle.helix_profile.specs.declared.field.Field.{Field}
use Rattle.helix_readings.specs.Given.{GivesByForm, GivesConstraint, GivesList, at_key}
use Rattle.helix_readings.specs.declared.sets.SetMembers.{SetMembers}

-- the value under the key gives the constraint
abbrev pub OperandGives : List Field → List SetMembers → List Step → List Member → List ℕ → Constraint → Type 0
OperandGives fields sets place members key part =
    IsSomeAnd (value_of key members) (λ v. GivesConstraint fields sets (at_key place key) v part)

-- the value under the key gives the constraints
abbrev pub OperandsGive : List Field → List SetMembers → List Step → List Member → List ℕ → List Constraint → Type 0
OperandsGive fields sets place members key parts =
    IsSomeAnd (value_of key members) (λ v. GivesList fields sets (at_key place key) v parts)

-- the members of an object give the constraint, with this form
abbrev pub MembersGive : List Field → List SetMembers → List Step → List Member → Option Form → Constraint → Type 0
MembersGive fields sets place members form c = GivesByForm fields sets place members
    (OperandGives fields sets place members) (OperandsGive fields sets place members) form c
