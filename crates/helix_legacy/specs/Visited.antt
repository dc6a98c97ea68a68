-- The constraints that are visited, and where one of them breaks rule L4.
use Rattle.std.specs.Prelude.{◌≡◌, ◌⊎◌, if◌then◌else◌, List, [], ◌∷◌, Option, Some, None, IsSomeAnd}
use Rattle.helix_json.specs.declared.value.Json.{Json}
use Rattle.helix_json.specs.declared.value.Member.{Member}
use Rattle.helix_legacy.specs.declared.form.Form.{Form}
use Rattle.helix_legacy.specs.declared.form.Form.TheVariants as form
use Rattle.helix_places.specs.declared.place.Step.{Step}
use Rattle.helix_places.specs.Members.{members_of, is_list}
use Rattle.helix_legacy.specs.Forms.{form_of}
use Rattle.helix_places.specs.Places.{part}
use Rattle.helix_legacy.specs.Tests.{test_fault}

-- what is visited: one constraint, or a value that is to be a list of constraints
pub data Role : Type 0 where
  one : Role
  many : Role

-- the role of the parts of an object by its form, where they are visited
abbrev pub parts_by_form : Form → Option Role
parts_by_form form.Test = None
parts_by_form form.Operands = Some one
parts_by_form form.Branches = Some many
parts_by_form form.Other = None

-- the role of the parts of a visited value, where they are visited
abbrev pub role_of_parts : Role → Json → Option Role
role_of_parts one v = parts_by_form (form_of (members_of v))
role_of_parts many v = if is_list v then Some one else None

-- the place of the first fault of an object, which only one with `is` has
abbrev pub fault_by_form : Form → List Member → Option (List Step)
fault_by_form form.Test members = test_fault members
fault_by_form form.Operands members = None
fault_by_form form.Branches members = None
fault_by_form form.Other members = None

abbrev pub own_fault : Role → Json → Option (List Step)
own_fault one v = fault_by_form (form_of (members_of v)) (members_of v)
own_fault many v = None

-- in a visited value the place is that of its own fault, or of the fault of a visited one in it
abbrev pub BreaksTests : Role → Json → List Step → Type 0
BreaksTests role v [] = own_fault role v ≡ Some []
BreaksTests role v (step ∷ place) = (own_fault role v ≡ Some (step ∷ place))
    ⊎ IsSomeAnd (role_of_parts role v) (λ next. IsSomeAnd (part v step) (λ w. BreaksTests next w place))
