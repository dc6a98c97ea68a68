-- The rules on the form of a constraint: where each is broken in the constraint itself.
use Rattle.std.specs.Prelude.{◌≡◌, ◌⊎◌, ℕ, Bool, true, not, ◌&&◌, ◌==◌, List, length, Option, Some, None, IsSomeAnd, codes}
use Rattle.helix_json.specs.declared.value.Json.{Json}
use Rattle.helix_keywords.specs.declared.form.Form.{Form}
use Rattle.helix_keywords.specs.declared.form.Form.TheVariants as form
use Rattle.helix_keywords.specs.Forms.{form_of}
use Rattle.helix_places.specs.declared.place.Step.{Step}
use Rattle.helix_places.specs.Members.{items_of, members_of, is_list}
use Rattle.helix_places.specs.Places.{Here, InMember}

-- the form of a constraint, which only an object has
abbrev pub form_in : Json → Option Form
form_in v = form_of (members_of v)

-- the keyword of a form whose operand is a list of constraints
abbrev pub list_key : Option Form → Option (List ℕ)
list_key (Some form.AnyOf) = Some (codes "anyOf")
list_key (Some form.AllOf) = Some (codes "allOf")
list_key other = None

-- the place is that of `anyOf` or `allOf`, whose operand passes the test
abbrev pub AtOperand : (Json → Bool) → Json → List Step → Type 0
AtOperand test v place =
    IsSomeAnd (list_key (form_in v)) (λ key. InMember key (Here (λ w. test w ≡ true)) v place)

-- no list
abbrev pub is_no_list : Json → Bool
is_no_list v = not (is_list v)

-- a list without items
abbrev pub is_empty_list : Json → Bool
is_empty_list v = is_list v && (length (items_of v) == 0)

-- S8: the constraint is no object or has no form, and the place is the constraint; or `anyOf` or `allOf` is no list
abbrev pub BreaksForm : Json → List Step → Type 0
BreaksForm v place = Here (λ w. form_in w ≡ None) v place ⊎ AtOperand is_no_list v place

-- S17: `anyOf` or `allOf` is empty
abbrev pub BreaksSize : Json → List Step → Type 0
BreaksSize = AtOperand is_empty_list
