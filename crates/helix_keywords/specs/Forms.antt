-- The forms of a constraint, each by its set of keys.
use Rattle.std.specs.Prelude.{ℕ, Bool, IsTrue, List, [], ◌∷◌, ◌++◌, map, Option, find, codes}
use Rattle.std.specs.List.{list_any}
use Rattle.helix_json.specs.declared.value.Member.{Member}
use Rattle.helix_places.specs.Members.{are_keys}
use Rattle.helix_keywords.specs.declared.form.Form.{Form}
use Rattle.helix_keywords.specs.declared.form.Form.TheVariants as form
use Rattle.helix_keywords.specs.Keywords.{word_of, field_word, keywords, field_keywords}

-- the sets of keys of the objects of a form
unfoldable pub key_sets : Form → List (List (List ℕ))
key_sets (form.Atom keyword) = (codes "field" ∷ word_of keyword ∷ []) ∷ []
key_sets (form.Related keyword) = (codes "field" ∷ field_word keyword ∷ [])
    ∷ (codes "field" ∷ field_word keyword ∷ codes "offset" ∷ [])
    ∷ (codes "field" ∷ field_word keyword ∷ codes "offsetUnit" ∷ [])
    ∷ (codes "field" ∷ field_word keyword ∷ codes "offset" ∷ codes "offsetUnit" ∷ []) ∷ []
key_sets form.Not = (codes "not" ∷ []) ∷ []
key_sets form.AnyOf = (codes "anyOf" ∷ []) ∷ []
key_sets form.AllOf = (codes "allOf" ∷ []) ∷ []
key_sets form.If = (codes "if" ∷ codes "then" ∷ []) ∷ []
key_sets form.IfElse = (codes "if" ∷ codes "then" ∷ codes "else" ∷ []) ∷ []

-- the keys of the members, no two of which are the same, are one of these sets
unfoldable pub has_form : Form → List Member → Bool
has_form form members = list_any (λ keys. are_keys keys members) (key_sets form)

abbrev pub HasForm : List Member → Form → Type 0
HasForm members form = IsTrue (has_form form members)

-- all forms
abbrev pub forms : List Form
forms = map form.Atom keywords ++ (map form.Related field_keywords
    ++ (form.Not ∷ form.AnyOf ∷ form.AllOf ∷ form.If ∷ form.IfElse ∷ []))

-- the form of the members of an object, which have at most one
unfoldable pub form_of : List Member → Option Form
form_of members = find (λ form. has_form form members) forms
