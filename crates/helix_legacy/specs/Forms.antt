-- How a visited constraint of the older form is written, and the table of tests.
use Rattle.std.specs.Prelude.{ℕ, Bool, false, ◌||◌, if◌then◌else◌, List, [], ◌∷◌, Option, Some, None, bytes_eq, codes}
use Rattle.helix_json.specs.declared.value.Json.{Json}
use Rattle.helix_json.specs.declared.value.Json as json
use Rattle.helix_json.specs.declared.value.Member.{Member}
use Rattle.helix_legacy.specs.declared.form.Form.{Form}
use Rattle.helix_legacy.specs.declared.form.Form.TheVariants as form
use Rattle.helix_legacy.specs.declared.form.Line.{Line}
use Rattle.helix_legacy.specs.declared.form.Line.TheVariants as line
use Rattle.helix_places.specs.Members.{value_of, has_key, are_keys}

-- `not`; `if` and `then`; or `if`, `then` and `else`: each value is a constraint
unfoldable pub are_operand_keys : List Member → Bool
are_operand_keys members = are_keys (codes "not" ∷ []) members
    || are_keys (codes "if" ∷ codes "then" ∷ []) members
    || are_keys (codes "if" ∷ codes "then" ∷ codes "else" ∷ []) members

-- `anyOf` or `allOf`: a list of constraints
unfoldable pub is_branch_key : List Member → Bool
is_branch_key members = are_keys (codes "anyOf" ∷ []) members || are_keys (codes "allOf" ∷ []) members

unfoldable pub form_of : List Member → Form
form_of members = if has_key (codes "is") members then form.Test
    else if are_operand_keys members then form.Operands
    else if is_branch_key members then form.Branches
    else form.Other

-- the text of a string
abbrev pub text_of : Option Json → Option (List ℕ)
text_of None = None
text_of (Some (json.Str text)) = Some text
text_of (Some v) = None

-- the word of a test: its `is`, where that is a string
unfoldable pub word_of : List Member → Option (List ℕ)
word_of members = text_of (value_of (codes "is") members)

unfoldable pub is_general_word : List ℕ → Bool
is_general_word word = bytes_eq word (codes "equalTo") || bytes_eq word (codes "granularTo")

unfoldable pub is_text_word : List ℕ → Bool
is_text_word word = bytes_eq word (codes "matchingRegex") || bytes_eq word (codes "containingRegex")
    || bytes_eq word (codes "ofLength") || bytes_eq word (codes "longerThan") || bytes_eq word (codes "shorterThan")

unfoldable pub is_number_word : List ℕ → Bool
is_number_word word = bytes_eq word (codes "greaterThan") || bytes_eq word (codes "greaterThanOrEqualTo")
    || bytes_eq word (codes "lessThan") || bytes_eq word (codes "lessThanOrEqualTo")

unfoldable pub is_moment_word : List ℕ → Bool
is_moment_word word = bytes_eq word (codes "after") || bytes_eq word (codes "afterOrAt")
    || bytes_eq word (codes "before") || bytes_eq word (codes "beforeOrAt")

-- the atomic keywords other than `isNull` and `inSet`
unfoldable pub is_value_word : List ℕ → Bool
is_value_word word = is_general_word word || is_text_word word || is_number_word word || is_moment_word word

-- the words of the table
unfoldable pub is_table_word : List ℕ → Bool
is_table_word word = bytes_eq word (codes "null") || bytes_eq word (codes "inSet") || is_value_word word

abbrev pub some_table_word : Option (List ℕ) → Bool
some_table_word None = false
some_table_word (Some word) = is_table_word word

-- the `is` is a word of the table
unfoldable pub has_table_word : List Member → Bool
has_table_word members = some_table_word (word_of members)

-- the lines of the table, by their keys: `{"field":F,"is":"null"}`
unfoldable pub null_line : List Member → Option Line
null_line members = if are_keys (codes "field" ∷ codes "is" ∷ []) members then Some line.Null else None

-- `{"field":F,"is":"inSet","values":L}` and `{"field":F,"is":"inSet","file":S}`
unfoldable pub set_line : List Member → Option Line
set_line members = if are_keys (codes "field" ∷ codes "is" ∷ codes "values" ∷ []) members then Some line.Values
    else if are_keys (codes "field" ∷ codes "is" ∷ codes "file" ∷ []) members then Some line.File
    else None

-- `{"field":F,"is":W,"value":V}`
unfoldable pub value_line : List Member → Option Line
value_line members =
    if are_keys (codes "field" ∷ codes "is" ∷ codes "value" ∷ []) members then Some line.Value else None

-- the line with the word and the keys of a test
unfoldable pub line_for : List ℕ → List Member → Option Line
line_for word members = if bytes_eq word (codes "null") then null_line members
    else if bytes_eq word (codes "inSet") then set_line members
    else if is_value_word word then value_line members
    else None

abbrev pub line_for_some : Option (List ℕ) → List Member → Option Line
line_for_some None members = None
line_for_some (Some word) members = line_for word members

unfoldable pub line_of : List Member → Option Line
line_of members = line_for_some (word_of members) members
