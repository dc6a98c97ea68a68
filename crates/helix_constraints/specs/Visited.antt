-- The constraints of a value: those in its list `constraints`, and those within a constraint, as operands of `not`,
-- `if`, `then` and `else` and in the lists of `anyOf` and `allOf`.
use Rattle.std.specs.Prelude.{◌⊎◌, if◌then◌else◌, List, [], ◌∷◌, Option, Some, None, IsSomeAnd, codes}
use Rattle.helix_json.specs.declared.value.Json.{Json}
use Rattle.helix_keywords.specs.declared.form.Form.{Form}
use Rattle.helix_keywords.specs.declared.form.Form.TheVariants as form
use Rattle.helix_keywords.specs.Forms.{form_of}
use Rattle.helix_places.specs.declared.place.Step.{Step}
use Rattle.helix_places.specs.Members.{members_of, is_list}
use Rattle.helix_places.specs.Places.{part, InItem, InMember}
use Rattle.helix_constraints.specs.declared.role.Role.{Role}
use Rattle.helix_constraints.specs.declared.role.Role.TheVariants as role

-- what the values of the members of an object are by its form, where they are or have constraints
abbrev pub role_by_form : Option Form → Option Role
role_by_form (Some form.Not) = Some role.One
role_by_form (Some form.If) = Some role.One
role_by_form (Some form.IfElse) = Some role.One
role_by_form (Some form.AnyOf) = Some role.Many
role_by_form (Some form.AllOf) = Some role.Many
role_by_form other = None

-- what the parts of a constraint, or of a list of constraints, are
abbrev pub role_of_parts : Role → Json → Option Role
role_of_parts role.One v = role_by_form (form_of (members_of v))
role_of_parts role.Many v = if is_list v then Some role.One else None

-- `P` names the place in the value itself, which is a constraint
abbrev pub Itself : (Json → List Step → Type 0) → Role → Json → List Step → Type 0
Itself P role.One v place = P v place
Itself P role.Many v place = ⊥

-- `P` names the place in the constraint or in one within it, or in a constraint of the list
abbrev pub Visited : (Json → List Step → Type 0) → Role → Json → List Step → Type 0
Visited P role v [] = Itself P role v []
Visited P role v (step ∷ place) = Itself P role v (step ∷ place)
    ⊎ IsSomeAnd (role_of_parts role v) (λ next. IsSomeAnd (part v step) (λ w. Visited P next w place))

-- `P` names the place in the constraint or in one within it
abbrev pub InConstraint : (Json → List Step → Type 0) → Json → List Step → Type 0
InConstraint P = Visited P role.One

-- `P` names the place in a constraint of the list `constraints`, or in one within such a constraint
abbrev pub InConstraints : (Json → List Step → Type 0) → Json → List Step → Type 0
InConstraints P = InMember (codes "constraints") (InItem (InConstraint P))

-- `P` names the place in a constraint within the value
abbrev pub Within : (Json → List Step → Type 0) → Role → Json → List Step → Type 0
Within P role v [] = ⊥
Within P role v (step ∷ place) =
    IsSomeAnd (role_of_parts role v) (λ next. IsSomeAnd (part v step) (λ w. Visited P next w place))

-- no constraint is within the constraint
abbrev pub IsAlone : Json → Type 0
IsAlone v = (place : List Step) → ¬ (Within (λ w there. Unit {0}) role.One v place)
