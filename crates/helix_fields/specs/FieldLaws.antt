-- Where no rule is broken, each field has what a field has to have, and the fields are valid.
use Rattle.std.proofs.Common.{◌≡◌, ◌≢◌, inl, inr, ℕ, zero, suc, ◌<◌, ◌≤◌, Bool, true, false, not, ◌&&◌, ◌||◌, nat_le, nat_eq, List, [], ◌∷◌, length, take, map, Option, Some, None, is_some, slice_get, codes, refl, sym, ◌∙◌, ap, subst, arith}
use Rattle.std.specs.List.{AllByRecursion, list_all}
use Rattle.std.proofs.lemmas.Bool.{and_parts, leb-true}
use Rattle.std.proofs.lemmas.List.{length-map, length-take-le}
use Rattle.std.proofs.lemmas.Option.{slice_get_within}
use Rattle.helix_base.specs.declared.alphabet.Alphabet.{Alphabet}
use Rattle.helix_json.specs.declared.value.Json.{Json}
use Rattle.helix_json.specs.declared.value.Json as json
use Rattle.helix_places.specs.declared.place.Step.TheVariants as step
use Rattle.helix_places.specs.Members.{items_of, members_of, value_of, has_key, is_list, is_string}
use Rattle.helix_places.specs.Names.{is_name_text, is_name_character}
use Rattle.helix_places.specs.Places.{Here, InItem}
use Rattle.helix_places.specs.PlaceLaws.{and_some}
use Rattle.helix_profile.specs.declared.field.Field.{Field}
use Rattle.helix_profile.specs.Validity.{IsName, HaveDifferentNames}
use Rattle.helix_fields.specs.FieldRules.{BreaksField, BreaksFieldForm, BreaksFieldName, BreaksNames, IsFaultyName, is_field_member, is_named_and_typed, name_at, name_of, name_of_some}
use Rattle.helix_fields.specs.Fields.{AreValidFields, IsNowhere, field_of, fields_of, name_or_empty}
use Rattle.helix_fields.specs.Under.{items_under, items_of_some, text_of_some}
use Rattle.helix_fields.specs.Whole.{BreaksFieldList, is_list_within}

pub not_false : (b : Bool) → ¬ (b ≡ false) → b ≡ true
not_false true n = refl
not_false false n = absurd (n refl)

pub some_value : (o : Option Json) → is_some o ≡ true → (w : Json) × (o ≡ Some w)
some_value None e = absurd (cc)
some_value (Some w) e = (w, refl)

string_text : (w : Json) → is_string w ≡ true → (text : List ℕ) × (text_of_some (Some w) ≡ Some text)
string_text json.Null e = absurd (cc)
string_text (json.Bool b) e = absurd (cc)
string_text (json.Number text) e = absurd (cc)
string_text (json.Str text) e = (text, refl)
string_text (json.List' shape items) e = absurd (cc)
string_text (json.Object' shape members) e = absurd (cc)

or_false : (b : Bool) → (b || false) ≡ true → b ≡ true
or_false true e = refl
or_false false e = absurd (cc)

-- what is under `name` of a field
name_member : (w : Json) → is_field_member (codes "name") w ≡ true → is_string w ≡ true
unfolding is_field_member
name_member w is = or_false (is_string w) is

-- names
not_127 : (code : ℕ) → not (nat_eq code 127) ≡ true → code ≢ 127
not_127 code e same = let is : nat_eq code 127 ≡ true = ap (λ n. nat_eq n 127) same in absurd (cc)

printable : (name : List ℕ) → list_all is_name_character name ≡ true
    → AllByRecursion (λ code. (32 ≤ code) × (code ≢ 127)) name
printable [] all = tt
printable (code ∷ rest) all =
    let both = and_parts (is_name_character code) (list_all is_name_character rest) all in
    let here = and_parts (nat_le 32 code) (not (nat_eq code 127)) both.0 in
    ((leb-true 32 code here.0, not_127 code here.1), printable rest both.1)

pub name_text_is_name : (name : List ℕ) → is_name_text name ≡ true → IsName name
name_text_is_name name is =
    let parts = and_parts (nat_le 1 (length name) && nat_le (length name) 200) (list_all is_name_character name) is in
    let sizes = and_parts (nat_le 1 (length name)) (nat_le (length name) 200) parts.0 in
    record {
      not_empty = leb-true 1 (length name) sizes.0;
      short = leb-true (length name) 200 sizes.1;
      printable = printable name parts.1;
    }

-- lists of fields that are made one by one
module _ (make : Json → Field) where
  all_made : (P : Field → Type 0) (items : List Json)
      → ((k : ℕ) (x : Json) → slice_get items k ≡ Some x → P (make x)) → AllByRecursion P (map make items)
  all_made P [] each = tt
  all_made P (x ∷ items) each = (each 0 x refl, all_made P items (λ k y at. each (suc k) y at))

  names_differ : (items : List Json)
      → ((i j : ℕ) (x y : Json) → i < j → slice_get items i ≡ Some x → slice_get items j ≡ Some y
      → (make x).name ≢ (make y).name) → HaveDifferentNames (map make items)
  names_differ [] differ = tt
  names_differ (x ∷ items) differ = (
    all_made (λ other. (make x).name ≢ other.name) items (λ k y at. differ 0 (suc k) x y (omega arith) refl at),
    names_differ items (λ i j y z less at other. differ (suc i) (suc j) y z (omega arith) at other),
  )

slice_take : (items : List Json) (i j : ℕ) → i < j → slice_get (take j items) i ≡ slice_get items i
slice_take [] i zero less = absurd (omega arith)
slice_take [] i (suc j) less = refl
slice_take (x ∷ items) i zero less = absurd (omega arith)
slice_take (x ∷ items) zero (suc j) less = refl
slice_take (x ∷ items) (suc i) (suc j) less = slice_take items i j (omega arith)

-- `fields` is a list of 1 to 64 items
pub fields_are : (v : Json) → IsNowhere BreaksFieldList v
    → (w : Json) × (value_of (codes "fields") (members_of v) ≡ Some w) × (is_list_within 1 64 w ≡ true)
fields_are v list =
    let there = some_value (value_of (codes "fields") (members_of v))
    (not_false (has_key (codes "fields") (members_of v)) (λ none. list [] (inl (refl, none)))) in (
      there.0,
      there.1,
      not_false (is_list_within 1 64 there.0) (λ bad. list (step.Member (codes "fields") ∷ [])
          (inr (
            refl,
            and_some (value_of (codes "fields") (members_of v))
                (λ u. Here (λ fields. is_list_within 1 64 fields ≡ false) u []) there.0 there.1 (refl, bad),
          ))),
    )

module _ (v w : Json) (is : value_of (codes "fields") (members_of v) ≡ Some w) where
  -- an item of `fields` is as a field has to be
  pub item_sound : IsNowhere BreaksField v → (k : ℕ) (x : Json) → slice_get (items_of w) k ≡ Some x
      → IsNowhere BreaksFieldForm x
  item_sound form k x at place broken = form (step.Member (codes "fields") ∷ step.Item k ∷ place) (
    refl,
    and_some (value_of (codes "fields") (members_of v)) (λ u. InItem BreaksFieldForm u (step.Item k ∷ place)) w is
        (and_some (slice_get (items_of w) k) (λ u. BreaksFieldForm u place) x at broken),
  )

  -- no name is faulty
  name_sound : IsNowhere BreaksFieldName v → (k : ℕ) (name : List ℕ) → name_at (items_of w) k ≡ Some name
      → ¬ (IsFaultyName (take k (items_of w)) name)
  name_sound names k name at faulty =
      names (step.Member (codes "fields") ∷ step.Item k ∷ step.Member (codes "name") ∷ []) (
        refl,
        and_some (value_of (codes "fields") (members_of v))
            (λ u. BreaksNames u (step.Item k ∷ step.Member (codes "name") ∷ [])) w is (record {
              index = k;
              is = refl;
              faulty = and_some (name_at (items_of w) k) (IsFaultyName (take k (items_of w))) name at faulty;
            }),
      )

-- a field that is as it has to be has a name and a type
pub named_and_typed : (x : Json) → IsNowhere BreaksFieldForm x
    → (has_key (codes "name") (members_of x) ≡ true) × (has_key (codes "type") (members_of x) ≡ true)
named_and_typed x sound = and_parts (has_key (codes "name") (members_of x)) (has_key (codes "type") (members_of x))
    (not_false (is_named_and_typed x) (λ bad. sound [] (inl (refl, bad))))

-- what is under a key of it is as it has to be
pub member_sound : (x : Json) → IsNowhere BreaksFieldForm x → (key : List ℕ) (w : Json)
    → value_of key (members_of x) ≡ Some w → is_field_member key w ≡ true
member_sound x sound key w is = not_false (is_field_member key w) (λ bad. sound (step.Member key ∷ [])
    (inr (refl, and_some (value_of key (members_of x)) (λ u. is_field_member key u ≡ false) w is bad)))

pub has_name : (x : Json) → IsNowhere BreaksFieldForm x → (name : List ℕ) × (name_of x ≡ Some name)
has_name x sound =
    let there = some_value (value_of (codes "name") (members_of x)) (named_and_typed x sound).0 in
    let text = string_text there.0 (name_member there.0 (member_sound x sound (codes "name") there.0 there.1)) in
    (text.0, ap text_of_some there.1 ∙ text.1)

-- items that have names, of which none is faulty
module _ (alphabet : Alphabet) (items : List Json)
    (named : (k : ℕ) (x : Json) → slice_get items k ≡ Some x → (name : List ℕ) × (name_of x ≡ Some name))
    (sound : (k : ℕ) (name : List ℕ) → name_at items k ≡ Some name → ¬ (IsFaultyName (take k items) name))
  where
    field_name : (k : ℕ) (x : Json) (at : slice_get items k ≡ Some x)
        → name_at items k ≡ Some (field_of alphabet x).name
    field_name k x at = let has = named k x at in
        ap name_of_some at ∙ (has.1 ∙ ap Some (sym (ap name_or_empty has.1)))

    is_name : (k : ℕ) (x : Json) → slice_get items k ≡ Some x → IsName (field_of alphabet x).name
    is_name k x at = name_text_is_name (field_of alphabet x).name
        (not_false (is_name_text (field_of alphabet x).name)
        (λ bad. sound k (field_of alphabet x).name (field_name k x at) (inl bad)))

    differ : (i j : ℕ) (x y : Json) → i < j → slice_get items i ≡ Some x → slice_get items j ≡ Some y
        → (field_of alphabet x).name ≢ (field_of alphabet y).name
    differ i j x y less at other same =
        sound j (field_of alphabet y).name (field_name j y other) (inr (
          i,
          (let below : j < length items = slice_get_within items j y other in
              let all : length (take j items) ≡ j = length-take-le j items (omega arith) in omega arith),
          ap name_of_some (slice_take items i j less) ∙ (field_name i x at ∙ ap Some same),
        ))

    pub names_are : AllByRecursion (λ field. IsName field.name) (map (field_of alphabet) items)
    names_are = all_made (field_of alphabet) (λ field. IsName field.name) items is_name

    pub names_are_different : HaveDifferentNames (map (field_of alphabet) items)
    names_are_different = names_differ (field_of alphabet) items differ

items_are : (v w : Json) → value_of (codes "fields") (members_of v) ≡ Some w
    → items_under (codes "fields") v ≡ items_of w
items_are v w is = ap items_of_some is

valid_items : (alphabet : Alphabet) (w : Json) → is_list_within 1 64 w ≡ true
    → ((k : ℕ) (x : Json) → slice_get (items_of w) k ≡ Some x → (name : List ℕ) × (name_of x ≡ Some name))
    → ((k : ℕ) (name : List ℕ) → name_at (items_of w) k ≡ Some name → ¬ (IsFaultyName (take k (items_of w)) name))
    → AreValidFields (map (field_of alphabet) (items_of w))
valid_items alphabet w within named sound =
    let sizes = and_parts (is_list w) (nat_le 1 (length (items_of w)) && nat_le (length (items_of w)) 64) within in
    let both = and_parts (nat_le 1 (length (items_of w))) (nat_le (length (items_of w)) 64) sizes.1 in
    let least : 1 ≤ length (items_of w) = leb-true 1 (length (items_of w)) both.0 in
    let most : length (items_of w) ≤ 64 = leb-true (length (items_of w)) 64 both.1 in
    let same : length (map (field_of alphabet) (items_of w)) ≡ length (items_of w) =
    length-map (items_of w) (field_of alphabet) in
    record {
      some_field = omega arith;
      few_fields = omega arith;
      names = names_are alphabet (items_of w) named sound;
      different_names = names_are_different alphabet (items_of w) named sound;
    }

-- Where S3, S4 and S5 are broken nowhere, the fields are valid.
pub fields_are_valid : (alphabet : Alphabet) (v : Json) → IsNowhere BreaksFieldList v → IsNowhere BreaksField v
    → IsNowhere BreaksFieldName v → AreValidFields (fields_of alphabet v)
fields_are_valid alphabet v list form names =
    let there = fields_are v list in
    subst (λ items. AreValidFields (map (field_of alphabet) items)) (sym (items_are v there.0 there.1))
    (valid_items alphabet there.0 there.2
    (λ k x at. has_name x (item_sound v there.0 there.1 form k x at))
    (name_sound v there.0 there.1 names))
