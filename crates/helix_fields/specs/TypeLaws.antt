-- Where no field breaks its form, each has a type, and its kind is that of the type.
use Rattle.std.proofs.Common.{◌≡◌, ◌⊎◌, inl, inr, ℕ, suc, Bool, true, false, ◌||◌, if◌then◌else◌, List, [], ◌∷◌, Option, Some, None, slice_get, codes, refl, sym, ◌∙◌, ap, subst}
use Rattle.std.specs.List.{AllByRecursion}
use Rattle.std.specs.Str.{bytes_eq}
use Rattle.std.proofs.lemmas.Bool.{or_cases}
use Rattle.helix_base.specs.declared.alphabet.Alphabet.{Alphabet}
use Rattle.helix_json.specs.declared.value.Json.{Json}
use Rattle.helix_json.specs.declared.value.Json as json
use Rattle.helix_places.specs.Members.{items_of, members_of, value_of}
use Rattle.helix_places.specs.PlaceLaws.{and_some}
use Rattle.helix_values.specs.declared.kind.Kind.{Kind}
use Rattle.helix_values.specs.declared.kind.Kind.TheVariants as kind
use Rattle.helix_values.specs.declared.kind.Code.TheVariants as code
use Rattle.helix_fields.specs.FieldLaws.{fields_are, has_name, item_sound, member_sound, named_and_typed, some_value}
use Rattle.helix_fields.specs.FieldRules.{BreaksField, BreaksFieldForm, is_field_member}
use Rattle.helix_fields.specs.Fields.{Declares, IsNowhere, field_of, kind_of_word, kind_or_boolean, name_or_empty}
use Rattle.helix_fields.specs.Types.{code_named, is_code_word, is_plain_word, is_text_word, is_type, is_type_word, kind_named, text_named}
use Rattle.helix_fields.specs.Under.{items_of_some, items_under, text_of_some, text_under}
use Rattle.helix_fields.specs.Whole.{BreaksFieldList}

abbrev IsKind : Option Kind → Type 0
IsKind o = (k : Kind) × (o ≡ Some k)

one_of : (a b c : Bool) (x y z : Kind) (rest : Option Kind) → ((((a || b) || c) ≡ true) ⊎ IsKind rest)
    → IsKind (if a then Some x else if b then Some y else if c then Some z else rest)
one_of true b c x y z rest some = (x, refl)
one_of false true c x y z rest some = (y, refl)
one_of false false true x y z rest some = (z, refl)
one_of false false false x y z rest (inl e) = absurd (cc)
one_of false false false x y z rest (inr k) = k

code_kind : (word : List ℕ) → is_code_word word ≡ true → IsKind (code_named word)
unfolding is_code_word code_named
code_kind word is = one_of (bytes_eq word (codes "isin")) (bytes_eq word (codes "sedol"))
    (bytes_eq word (codes "cusip")) (kind.Code code.Isin) (kind.Code code.Sedol) (kind.Code code.Cusip) None (inl is)

text_kind : (alphabet : Alphabet) (word : List ℕ) → (is_text_word word ≡ true) ⊎ IsKind (code_named word)
    → IsKind (text_named alphabet word)
unfolding is_text_word text_named
text_kind alphabet word = one_of (bytes_eq word (codes "string")) (bytes_eq word (codes "date"))
    (bytes_eq word (codes "datetime")) (kind.Text alphabet) kind.Date kind.DateTime (code_named word)

plain_kind : (alphabet : Alphabet) (word : List ℕ) → (is_plain_word word ≡ true) ⊎ IsKind (text_named alphabet word)
    → IsKind (kind_named alphabet word)
unfolding is_plain_word kind_named
plain_kind alphabet word = one_of (bytes_eq word (codes "boolean")) (bytes_eq word (codes "integer"))
    (bytes_eq word (codes "decimal")) kind.Boolean kind.Integer kind.Decimal (text_named alphabet word)

-- each type has a kind
pub type_kind : (alphabet : Alphabet) (word : List ℕ) → is_type_word word ≡ true → IsKind (kind_named alphabet word)
unfolding is_type_word
type_kind alphabet word is = elim (or_cases (is_plain_word word || is_text_word word) (is_code_word word) is) [
  | inl early ↦ elim (or_cases (is_plain_word word) (is_text_word word) early) [
    | inl plain ↦ plain_kind alphabet word (inl plain)
    | inr text ↦ plain_kind alphabet word (inr (text_kind alphabet word (inl text)))
  ]
  | inr last ↦ plain_kind alphabet word (inr (text_kind alphabet word (inr (code_kind word last))))
]

type_text : (w : Json) → is_type w ≡ true
    → (word : List ℕ) × (text_of_some (Some w) ≡ Some word) × (is_type_word word ≡ true)
type_text json.Null e = absurd (cc)
type_text (json.Bool b) e = absurd (cc)
type_text (json.Number text) e = absurd (cc)
type_text (json.Str text) e = (text, refl, e)
type_text (json.List' shape items) e = absurd (cc)
type_text (json.Object' shape members) e = absurd (cc)

type_member : (w : Json) → is_field_member (codes "type") w ≡ true → is_type w ≡ true
unfolding is_field_member
type_member w is = is

-- a field that is as it has to be has a type
has_type : (x : Json) → IsNowhere BreaksFieldForm x
    → (word : List ℕ) × (text_under (codes "type") x ≡ Some word) × (is_type_word word ≡ true)
has_type x sound =
    let there = some_value (value_of (codes "type") (members_of x)) (named_and_typed x sound).1 in
    let text = type_text there.0 (type_member there.0 (member_sound x sound (codes "type") there.0 there.1)) in
    (text.0, ap text_of_some there.1 ∙ text.1, text.2)

pub declares : (alphabet : Alphabet) (x : Json) → IsNowhere BreaksFieldForm x
    → Declares alphabet x (field_of alphabet x)
declares alphabet x sound =
    let name = has_name x sound in
    let type_is = has_type x sound in
    let made = type_kind alphabet type_is.0 type_is.2 in
    record {
      name = name.1 ∙ ap Some (sym (ap name_or_empty name.1));
      kind = and_some (text_under (codes "type") x)
          (λ word. kind_named alphabet word ≡ Some (field_of alphabet x).kind) type_is.0 type_is.1
          (made.1 ∙ ap Some (sym (ap (kind_of_word alphabet) type_is.1 ∙ ap kind_or_boolean made.1)));
    }

all_items : (P : Json → Type 0) (items : List Json) → ((k : ℕ) (x : Json) → slice_get items k ≡ Some x → P x)
    → AllByRecursion P items
all_items P [] each = tt
all_items P (x ∷ items) each = (each 0 x refl, all_items P items (λ k y at. each (suc k) y at))

-- Where S3 and S4 are broken nowhere, no field lacks its name or its kind.
pub fields_are_declared : (alphabet : Alphabet) (v : Json) → IsNowhere BreaksFieldList v → IsNowhere BreaksField v
    → AllByRecursion (λ item. Declares alphabet item (field_of alphabet item)) (items_under (codes "fields") v)
fields_are_declared alphabet v list form =
    let there = fields_are v list in
    subst (λ items. AllByRecursion (λ item. Declares alphabet item (field_of alphabet item)) items)
    (sym (ap items_of_some there.1))
    (all_items (λ item. Declares alphabet item (field_of alphabet item)) (items_of there.0)
    (λ k x at. declares alphabet x (item_sound v there.0 there.1 form k x at)))
