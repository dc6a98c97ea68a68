-- Today's form of a value of the older form.
use Rattle.std.specs.Prelude.{ℕ, true, if◌then◌else◌, List, [], ◌∷◌, map, Option, Some, None, bytes_eq, codes}
use Rattle.helix_json.specs.declared.value.Json.{Json, Row_of-Json, Row_of-Member}
use Rattle.helix_json.specs.declared.value.Json as json
use Rattle.helix_json.specs.declared.value.Json.TheViews as view
use Rattle.helix_json.specs.declared.value.Member.{Member}
use Rattle.helix_legacy.specs.declared.form.Form.{Form}
use Rattle.helix_legacy.specs.declared.form.Form.TheVariants as form
use Rattle.helix_legacy.specs.declared.form.Line.{Line}
use Rattle.helix_legacy.specs.declared.form.Line.TheVariants as line
use Rattle.helix_places.specs.Members.{members_of, items_of, listed_members, value_of}
use Rattle.helix_legacy.specs.Forms.{form_of, line_of, word_of}
use Rattle.helix_legacy.specs.Broken.{is_older}

-- the value of a member, which the table's lines have
abbrev pub or_null : Option Json → Json
or_null None = json.Null
or_null (Some v) = v

abbrev pub or_empty : Option (List ℕ) → List ℕ
or_empty None = []
or_empty (Some word) = word

abbrev pub member : List ℕ → Json → Member
member key value = record { key = key; value = value }

-- a test by a keyword: `{"field":F,KEYWORD:OPERAND}`
abbrev pub keyword_test : Json → List ℕ → Json → Json
keyword_test field keyword operand = view.Object (member (codes "field") field ∷ member keyword operand ∷ [])

abbrev pub the : List ℕ → List Member → Json
the key members = or_null (value_of key members)

-- the table: a line's form today
abbrev pub line_today : Option Line → List Member → Json
line_today None members = view.Object members
line_today (Some line.Null) members = keyword_test (the (codes "field") members) (codes "isNull") (json.Bool true)
line_today (Some line.Values) members =
    keyword_test (the (codes "field") members) (codes "inSet") (the (codes "values") members)
line_today (Some line.File) members =
    keyword_test (the (codes "field") members) (codes "inSet") (the (codes "file") members)
line_today (Some line.Value) members =
    keyword_test (the (codes "field") members) (or_empty (word_of members)) (the (codes "value") members)

-- An object by its form: a test as the table says, and otherwise with its visited parts replaced. `operands` and
-- `branches` are its members with each value replaced as a constraint, and as a list of constraints.
abbrev pub object_today : Form → List Member → List Member → List Member → Json
object_today form.Test members operands branches = line_today (line_of members) members
object_today form.Operands members operands branches = view.Object operands
object_today form.Branches members operands branches = view.Object branches
object_today form.Other members operands branches = view.Object members

abbrev mutual
  -- a visited constraint
  pub constraint_today : Json → Json
  constraint_today json.Null = json.Null
  constraint_today (json.Bool b) = json.Bool b
  constraint_today (json.Number text) = json.Number text
  constraint_today (json.Str text) = json.Str text
  constraint_today (json.List' shape items) = json.List' shape items
  constraint_today (json.Object' shape members) = object_today (form_of (listed_members members))
      (listed_members members) (operands_today members) (branches_today members)

  -- a list of visited constraints
  pub constraints_today : Json → Json
  constraints_today json.Null = json.Null
  constraints_today (json.Bool b) = json.Bool b
  constraints_today (json.Number text) = json.Number text
  constraints_today (json.Str text) = json.Str text
  constraints_today (json.List' shape items) = view.List (items_today items)
  constraints_today (json.Object' shape members) = json.Object' shape members

  pub items_today : {n : _} → Row_of-Json n → List Json
  items_today json.end_of-Json = []
  items_today (json.more_of-Json item items) = constraint_today item ∷ items_today items

  pub operands_today : {n : _} → Row_of-Member n → List Member
  operands_today json.end_of-Member = []
  operands_today (json.more_of-Member key value members) =
      member key (constraint_today value) ∷ operands_today members

  pub branches_today : {n : _} → Row_of-Member n → List Member
  branches_today json.end_of-Member = []
  branches_today (json.more_of-Member key value members) =
      member key (constraints_today value) ∷ branches_today members

-- a rule: `{"allOf":[..]}` with its constraints
abbrev pub rule_today : Json → Json
rule_today rule =
    view.Object (member (codes "allOf") (constraints_today (the (codes "constraints") (members_of rule))) ∷ [])

-- a member of the value: `constraints` in the place of `rules`, and any other as it is
abbrev pub member_today : Member → Member
member_today old = if bytes_eq old.key (codes "rules")
    then member (codes "constraints") (view.List (map rule_today (items_of old.value)))
    else old

-- today's form of a value: itself, where it isn't of the older form
abbrev pub today_of : Json → Json
today_of v = if is_older v then view.Object (map member_today (members_of v)) else v
