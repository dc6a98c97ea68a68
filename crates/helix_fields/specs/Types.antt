-- The types of fields, by their words.
use Rattle.std.specs.Prelude.{ℕ, Bool, false, ◌||◌, if◌then◌else◌, List, Option, Some, None, bytes_eq, codes}
use Rattle.helix_base.specs.declared.alphabet.Alphabet.{Alphabet}
use Rattle.helix_json.specs.declared.value.Json.{Json}
use Rattle.helix_json.specs.declared.value.Json as json
use Rattle.helix_values.specs.declared.kind.Kind.{Kind}
use Rattle.helix_values.specs.declared.kind.Kind.TheVariants as kind
use Rattle.helix_values.specs.declared.kind.Code.TheVariants as code

-- a type of truth values or numbers
unfoldable pub is_plain_word : List ℕ → Bool
is_plain_word word = bytes_eq word (codes "boolean") || bytes_eq word (codes "integer")
    || bytes_eq word (codes "decimal")

-- a type of texts or moments
unfoldable pub is_text_word : List ℕ → Bool
is_text_word word = bytes_eq word (codes "string") || bytes_eq word (codes "date") || bytes_eq word (codes "datetime")

-- a type of codes of the securities business
unfoldable pub is_code_word : List ℕ → Bool
is_code_word word = bytes_eq word (codes "isin") || bytes_eq word (codes "sedol") || bytes_eq word (codes "cusip")

-- a type
unfoldable pub is_type_word : List ℕ → Bool
is_type_word word = is_plain_word word || is_text_word word || is_code_word word

-- a string that is a type
abbrev pub is_type : Json → Bool
is_type (json.Str word) = is_type_word word
is_type v = false

-- the kinds of the types of codes
unfoldable pub code_named : List ℕ → Option Kind
code_named word = if bytes_eq word (codes "isin") then Some (kind.Code code.Isin)
    else if bytes_eq word (codes "sedol") then Some (kind.Code code.Sedol)
    else if bytes_eq word (codes "cusip") then Some (kind.Code code.Cusip)
    else None

-- the kinds of the types of texts and moments, and of codes: strings are texts of the alphabet
unfoldable pub text_named : Alphabet → List ℕ → Option Kind
text_named alphabet word = if bytes_eq word (codes "string") then Some (kind.Text alphabet)
    else if bytes_eq word (codes "date") then Some kind.Date
    else if bytes_eq word (codes "datetime") then Some kind.DateTime
    else code_named word

-- the kind of values of a type
unfoldable pub kind_named : Alphabet → List ℕ → Option Kind
kind_named alphabet word = if bytes_eq word (codes "boolean") then Some kind.Boolean
    else if bytes_eq word (codes "integer") then Some kind.Integer
    else if bytes_eq word (codes "decimal") then Some kind.Decimal
    else text_named alphabet word
