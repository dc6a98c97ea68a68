-- The constraints of a profile in the order of the text, each with its place.
use Rattle.std.specs.Prelude.{ℕ, ◌+◌, List, [], ◌∷◌, ◌++◌, Option, Some, None, flat_map, codes}
use Rattle.helix_json.specs.declared.value.Json.{Json, Row_of-Json, Row_of-Member}
use Rattle.helix_json.specs.declared.value.Json as json
use Rattle.helix_keywords.specs.declared.form.Form.{Form}
use Rattle.helix_keywords.specs.declared.form.Form.TheVariants as form
use Rattle.helix_keywords.specs.Forms.{form_of}
use Rattle.helix_places.specs.Members.{listed_members, members_of, value_of}
use Rattle.helix_places.specs.declared.place.Step.{Step}
use Rattle.helix_places.specs.declared.place.Step.TheVariants as step
use Rattle.helix_traversal.specs.declared.inside.Inside.{Inside}
use Rattle.helix_traversal.specs.declared.inside.Inside.TheVariants as inside

-- a value where a constraint stands, with its place
pub record Visit : Type 0 where
  pub place : List Step
  pub value : Json

abbrev pub visit : List Step → Json → Visit
visit place v = record { place = place; value = v }

-- the place of the member with a key, and of the item with an index, of a value at a place
abbrev pub at_key : List Step → List ℕ → List Step
at_key place key = place ++ step.Member key ∷ []

abbrev pub at_index : List Step → ℕ → List Step
at_index place index = place ++ step.Item index ∷ []

-- which values of an object are constraints, or lists of them, by its form
abbrev pub inside_of : Option Form → Inside
inside_of (Some form.Not) = inside.Operands
inside_of (Some form.If) = inside.Operands
inside_of (Some form.IfElse) = inside.Operands
inside_of (Some form.AnyOf) = inside.Branches
inside_of (Some form.AllOf) = inside.Branches
inside_of other = inside.Nothing

abbrev pub chosen : Inside → List Visit → List Visit → List Visit
chosen inside.Nothing operands branches = []
chosen inside.Operands operands branches = operands
chosen inside.Branches operands branches = branches

abbrev mutual
  -- the constraints within a constraint at a place
  pub within : List Step → Json → List Visit
  within place json.Null = []
  within place (json.Bool b) = []
  within place (json.Number text) = []
  within place (json.Str text) = []
  within place (json.List' shape items) = []
  within place (json.Object' shape members) =
      chosen (inside_of (form_of (listed_members members))) (of_operands place members) (of_branches place members)

  -- each item of a list at a place, with those within it
  pub of_list : List Step → Json → List Visit
  of_list place json.Null = []
  of_list place (json.Bool b) = []
  of_list place (json.Number text) = []
  of_list place (json.Str text) = []
  of_list place (json.List' shape items) = of_items place 0 items
  of_list place (json.Object' shape members) = []

  -- items, counted on from an index
  pub of_items : {n : _} → List Step → ℕ → Row_of-Json n → List Visit
  of_items place index json.end_of-Json = []
  of_items place index (json.more_of-Json item items) =
      (visit (at_index place index) item ∷ within (at_index place index) item) ++ of_items place (index + 1) items

  -- the value of each member, with those within it
  pub of_operands : {n : _} → List Step → Row_of-Member n → List Visit
  of_operands place json.end_of-Member = []
  of_operands place (json.more_of-Member key value members) =
      (visit (at_key place key) value ∷ within (at_key place key) value) ++ of_operands place members

  -- the lists that the values of the members are
  pub of_branches : {n : _} → List Step → Row_of-Member n → List Visit
  of_branches place json.end_of-Member = []
  of_branches place (json.more_of-Member key value members) =
      of_list (at_key place key) value ++ of_branches place members

-- all constraints of a profile: those of its list `constraints`, and those within them
abbrev pub of_some_list : List Step → Option Json → List Visit
of_some_list place None = []
of_some_list place (Some list) = of_list place list

abbrev pub all_constraints : Json → List Visit
all_constraints v =
    of_some_list (step.Member (codes "constraints") ∷ []) (value_of (codes "constraints") (members_of v))

-- what is collected of visited values
abbrev pub collected : {Item : Type 0} → (List Step → Json → List Item) → List Visit → List Item
collected own visits = flat_map (λ one. own one.place one.value) visits
