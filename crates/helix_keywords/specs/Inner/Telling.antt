-- The keys that tell the form of a constraint.
use Rattle.std.specs.Prelude.{ℕ, if◌then◌else◌, List, Option, Some, None, bytes_eq, codes}
use Rattle.helix_keywords.specs.declared.form.Form.{Form}
use Rattle.helix_keywords.specs.declared.form.Form.TheVariants as form
use Rattle.helix_keywords.specs.declared.keyword.Keyword.{Keyword}
use Rattle.helix_keywords.specs.declared.keyword.FieldKeyword.{FieldKeyword}
use Rattle.helix_keywords.specs.Keywords.{word_of, field_word, keyword_named, field_keyword_named}

-- the form told by a word that is no keyword
unfoldable pub part_form : List ℕ → Option Form
part_form word = if bytes_eq word (codes "not") then Some form.Not
    else if bytes_eq word (codes "anyOf") then Some form.AnyOf
    else if bytes_eq word (codes "allOf") then Some form.AllOf
    else if bytes_eq word (codes "if") then Some form.If
    else None

abbrev pub field_form : Option FieldKeyword → List ℕ → Option Form
field_form (Some keyword) word = Some (form.Related keyword)
field_form None word = part_form word

abbrev pub atom_form : Option Keyword → List ℕ → Option Form
atom_form (Some keyword) word = Some (form.Atom keyword)
atom_form None word = field_form (field_keyword_named word) word

-- the form that a key tells, where it tells one; `if` tells `If`, of which `IfElse` is the longer one
unfoldable pub form_told : List ℕ → Option Form
form_told word = atom_form (keyword_named word) word

-- the form but for its `else`
abbrev pub shorter : Form → Form
shorter (form.Atom keyword) = form.Atom keyword
shorter (form.Related keyword) = form.Related keyword
shorter form.Not = form.Not
shorter form.AnyOf = form.AnyOf
shorter form.AllOf = form.AllOf
shorter form.If = form.If
shorter form.IfElse = form.If

-- the key that tells the form
abbrev pub telling : Form → List ℕ
telling (form.Atom keyword) = word_of keyword
telling (form.Related keyword) = field_word keyword
telling form.Not = codes "not"
telling form.AnyOf = codes "anyOf"
telling form.AllOf = codes "allOf"
telling form.If = codes "if"
telling form.IfElse = codes "if"
