-- The relations of a profile in the order of the text, as lines between two fields, and where they form a cycle.
use Rattle.std.specs.Prelude.{◌≡◌, ℕ, pos, ◌==◌, ◌&&◌, not, nat_lt, if◌then◌else◌, List, [], ◌∷◌, ◌++◌, Option, Some, None, IsSomeAnd, codes}
use Rattle.helix_constraints.specs.Visited.{InConstraints}
use Rattle.helix_forest.specs.Closing.{IsFirstToClose}
use Rattle.helix_json.specs.declared.value.Json.{Json, Row_of-Json, Row_of-Member}
use Rattle.helix_json.specs.declared.value.Json as json
use Rattle.helix_json.specs.declared.value.Member.{Member}
use Rattle.helix_keywords.specs.declared.form.Form.{Form}
use Rattle.helix_keywords.specs.declared.form.Form.TheVariants as form
use Rattle.helix_keywords.specs.declared.keyword.FieldKeyword.{FieldKeyword}
use Rattle.helix_keywords.specs.Forms.{form_of}
use Rattle.helix_keywords.specs.Keywords.{field_word}
use Rattle.helix_places.specs.declared.place.Step.{Step}
use Rattle.helix_places.specs.declared.place.Step.TheVariants as step
use Rattle.helix_places.specs.Members.{listed_members, members_of, value_of}
use Rattle.helix_places.specs.Places.{IsFirstPlace}
use Rattle.helix_profile.specs.declared.field.Field.{Field}
use Rattle.helix_profile.specs.declared.relation.Compare.TheVariants as compare
use Rattle.helix_profile.specs.declared.relation.Relation.{Relation}
use Rattle.helix_references.specs.Naming.{index_by}
use Rattle.helix_ladders.specs.declared.offset.Offset.TheVariants as offset
use Rattle.helix_rules.specs.declared.lines.Inside.{Inside}
use Rattle.helix_rules.specs.declared.lines.Inside.TheVariants as inside

-- the maximum number of fields of a profile
abbrev pub max_fields : ℕ
max_fields = 64

-- a line between two fields: a relation whose offset and comparison say nothing
abbrev pub line : ℕ → ℕ → Relation
line left right = record { left = left; compare = compare.Equal; right = right; offset = offset.Plain (pos 0) }

-- two different fields of a profile have a line
abbrev pub line_between : ℕ → ℕ → Option Relation
line_between left right = if (nat_lt left max_fields && nat_lt right max_fields) && not (left == right)
    then Some (line left right) else None

abbrev pub line_of : Option ℕ → Option ℕ → Option Relation
line_of (Some left) (Some right) = line_between left right
line_of left right = None

-- the keyword of a constraint that has the form of a relation
abbrev pub related_of : Option Form → Option FieldKeyword
related_of (Some (form.Related keyword)) = Some keyword
related_of other = None

-- the line between the fields that the members of a relation name
abbrev pub line_with : List Field → FieldKeyword → List Member → Option Relation
line_with fields keyword members =
    line_of (index_by fields (value_of (codes "field") members))
    (index_by fields (value_of (field_word keyword) members))

-- the lines of an object itself
abbrev pub line_list : Option Relation → List Relation
line_list None = []
line_list (Some own) = own ∷ []

abbrev pub own_lines : List Field → Option FieldKeyword → List Member → List Relation
own_lines fields None members = []
own_lines fields (Some keyword) members = line_list (line_with fields keyword members)

-- which values of an object are constraints, or lists of them, by its form
abbrev pub inside_of : Option Form → Inside
inside_of (Some form.Not) = inside.Operands
inside_of (Some form.If) = inside.Operands
inside_of (Some form.IfElse) = inside.Operands
inside_of (Some form.AnyOf) = inside.Branches
inside_of (Some form.AllOf) = inside.Branches
inside_of other = inside.Nothing

-- the lines of an object: its own, or those of its operands, or of its lists
abbrev pub chosen_lines : Inside → List Relation → List Relation → List Relation → List Relation
chosen_lines inside.Nothing own operands branches = own
chosen_lines inside.Operands own operands branches = operands
chosen_lines inside.Branches own operands branches = branches

abbrev pub object_lines : List Field → List Member → List Relation → List Relation → List Relation
object_lines fields members operands branches = chosen_lines (inside_of (form_of members))
    (own_lines fields (related_of (form_of members)) members) operands branches

abbrev mutual
  -- the lines of a constraint, and of those within it
  pub lines_in : List Field → Json → List Relation
  lines_in fields json.Null = []
  lines_in fields (json.Bool b) = []
  lines_in fields (json.Number text) = []
  lines_in fields (json.Str text) = []
  lines_in fields (json.List' shape items) = []
  lines_in fields (json.Object' shape members) =
      object_lines fields (listed_members members) (operand_lines fields members) (branch_lines fields members)

  -- the lines of a list of constraints
  pub list_lines : List Field → Json → List Relation
  list_lines fields json.Null = []
  list_lines fields (json.Bool b) = []
  list_lines fields (json.Number text) = []
  list_lines fields (json.Str text) = []
  list_lines fields (json.List' shape items) = item_lines fields items
  list_lines fields (json.Object' shape members) = []

  pub item_lines : {n : _} → List Field → Row_of-Json n → List Relation
  item_lines fields json.end_of-Json = []
  item_lines fields (json.more_of-Json item items) = lines_in fields item ++ item_lines fields items

  pub operand_lines : {n : _} → List Field → Row_of-Member n → List Relation
  operand_lines fields json.end_of-Member = []
  operand_lines fields (json.more_of-Member key value members) =
      lines_in fields value ++ operand_lines fields members

  pub branch_lines : {n : _} → List Field → Row_of-Member n → List Relation
  branch_lines fields json.end_of-Member = []
  branch_lines fields (json.more_of-Member key value members) =
      list_lines fields value ++ branch_lines fields members

abbrev pub lines_under : List Field → Option Json → List Relation
lines_under fields None = []
lines_under fields (Some constraints) = list_lines fields constraints

-- the lines of a profile, in the order of the text
abbrev pub lines_of : List Field → Json → List Relation
lines_of fields v = lines_under fields (value_of (codes "constraints") (members_of v))

-- two lines join the same fields in the same order
abbrev pub IsAlong : Relation → Relation → Type 0
IsAlong line own = (own.left ≡ line.left) × (own.right ≡ line.right)

-- the constraint is a relation along the line, and the place is that of its keyword
abbrev pub Joins : List Field → Relation → Json → List Step → Type 0
Joins fields line v place = IsSomeAnd (related_of (form_of (members_of v))) (λ keyword.
    (place ≡ step.Member (field_word keyword) ∷ [])
    × IsSomeAnd (line_with fields keyword (members_of v)) (IsAlong line))

-- S21: The relations form a cycle. The place is that of the first relation which joins two fields that earlier ones
-- link already, but don't join: no earlier one is along its line, so it is the first that is.
pub record BreaksForest (fields : List Field) (v : Json) (place : List Step) : Type 0 where
  pub index : ℕ
  pub closes : IsFirstToClose (lines_of fields v) index
  pub first : IsFirstPlace v (InConstraints (Joins fields closes.closes.relation) v) place
