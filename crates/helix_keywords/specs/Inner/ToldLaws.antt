-- The key that tells a form, among its keys.
use Rattle.std.proofs.Common.{◌≡◌, ℕ, ◌⊎◌, inl, inr, Bool, true, false, ◌||◌, ◌==◌, List, [], ◌∷◌, length, Some, None, codes, refl, sym, ap, subst}
use Rattle.std.specs.List.{AllByRecursion, IsDistinct, list_any, list_all}
use Rattle.std.specs.Str.{bytes_eq}
use Rattle.std.proofs.lemmas.Bool.{and_parts, or_cases, or_left, or_right}
use Rattle.helix_json.specs.declared.value.Member.{Member}
use Rattle.helix_places.specs.Members.{has_key, are_keys}
use Rattle.helix_places.specs.KeyLaws.{same_bytes, bytes_same, other_bytes}
use Rattle.helix_keywords.specs.declared.form.Form.{Form}
use Rattle.helix_keywords.specs.declared.form.Form.TheVariants as form
use Rattle.helix_keywords.specs.declared.keyword.Keyword.{Keyword}
use Rattle.helix_keywords.specs.declared.keyword.Keyword.TheVariants as keyword
use Rattle.helix_keywords.specs.declared.keyword.FieldKeyword.{FieldKeyword}
use Rattle.helix_keywords.specs.declared.keyword.FieldKeyword.TheVariants as field_keyword
use Rattle.helix_keywords.specs.Keywords.{word_of, field_word, keyword_named, field_keyword_named}
use Rattle.helix_keywords.specs.Forms.{has_form, key_sets}
use Rattle.helix_keywords.specs.KeySetLaws.{all_member, only_keys}
use Rattle.helix_keywords.specs.Inner.Telling.{form_told, part_form, shorter, telling}

pub told_atom : (k : Keyword) → form_told (word_of k) ≡ Some (form.Atom k)
unfolding form_told keyword_named field_keyword_named part_form word_of field_word
told_atom keyword.EqualTo = refl
told_atom keyword.InSet = refl
told_atom keyword.IsNull = refl
told_atom keyword.MatchingRegex = refl
told_atom keyword.ContainingRegex = refl
told_atom keyword.OfLength = refl
told_atom keyword.LongerThan = refl
told_atom keyword.ShorterThan = refl
told_atom keyword.GreaterThan = refl
told_atom keyword.GreaterThanOrEqualTo = refl
told_atom keyword.LessThan = refl
told_atom keyword.LessThanOrEqualTo = refl
told_atom keyword.After = refl
told_atom keyword.AfterOrAt = refl
told_atom keyword.Before = refl
told_atom keyword.BeforeOrAt = refl
told_atom keyword.GranularTo = refl

pub told_related : (k : FieldKeyword) → form_told (field_word k) ≡ Some (form.Related k)
unfolding form_told keyword_named field_keyword_named part_form word_of field_word
told_related field_keyword.EqualToField = refl
told_related field_keyword.GreaterThanField = refl
told_related field_keyword.GreaterThanOrEqualToField = refl
told_related field_keyword.LessThanField = refl
told_related field_keyword.LessThanOrEqualToField = refl
told_related field_keyword.AfterField = refl
told_related field_keyword.AfterOrAtField = refl
told_related field_keyword.BeforeField = refl
told_related field_keyword.BeforeOrAtField = refl

-- the other keys tell none
told_field : form_told (codes "field") ≡ None
unfolding form_told keyword_named field_keyword_named part_form word_of field_word
told_field = refl

told_offset : form_told (codes "offset") ≡ None
unfolding form_told keyword_named field_keyword_named part_form word_of field_word
told_offset = refl

told_unit : form_told (codes "offsetUnit") ≡ None
unfolding form_told keyword_named field_keyword_named part_form word_of field_word
told_unit = refl

told_then : form_told (codes "then") ≡ None
unfolding form_told keyword_named field_keyword_named part_form word_of field_word
told_then = refl

told_else : form_told (codes "else") ≡ None
unfolding form_told keyword_named field_keyword_named part_form word_of field_word
told_else = refl

told_part : (word : List ℕ) (f : Form) → keyword_named word ≡ None → field_keyword_named word ≡ None
    → part_form word ≡ Some f → form_told word ≡ Some f
unfolding form_told
told_part word f none nor is = rw none (rw nor is)

pub told_telling : (f : Form) → form_told (telling f) ≡ Some (shorter f)
unfolding form_told keyword_named field_keyword_named part_form word_of field_word
told_telling (form.Atom k) = told_atom k
told_telling (form.Related k) = told_related k
told_telling form.Not = refl
told_telling form.AnyOf = refl
told_telling form.AllOf = refl
told_telling form.If = refl
told_telling form.IfElse = refl

apart : (a b : List ℕ) (f : Form) → form_told a ≡ None → form_told b ≡ Some f → bytes_eq a b ≡ false
apart a b f none some = other_bytes a b (λ e. let same : form_told a ≡ form_told b = ap form_told e in cc)

apart_after : (a b : List ℕ) (f : Form) → form_told a ≡ None → form_told b ≡ Some f → bytes_eq b a ≡ false
apart_after a b f none some = other_bytes b a (λ e. let same : form_told b ≡ form_told a = ap form_told e in cc)

-- a set of keys of a form: no two are the same, and one of them tells the form
record IsSetOf (f : Form) (keys : List (List ℕ)) : Type 0 where
  pub distinct : IsDistinct bytes_eq keys
  pub tells : list_any (bytes_eq (telling f)) keys ≡ true
  pub others : AllByRecursion (λ key. (form_told key ≡ None) ⊎ (key ≡ telling f)) keys

second : (a w : List ℕ) (rest : List (List ℕ)) → list_any (bytes_eq w) (a ∷ w ∷ rest) ≡ true
second a w rest = or_right (bytes_eq w a) (bytes_eq w w || list_any (bytes_eq w) rest)
    (or_left (bytes_eq w w) (list_any (bytes_eq w) rest) (bytes_same w))

two_keys : (f : Form) (w : List ℕ) → w ≡ telling f → form_told w ≡ Some (shorter f)
    → IsSetOf f (codes "field" ∷ w ∷ [])
unfolding IsDistinct
two_keys f w is told = record {
  distinct = ((apart (codes "field") w (shorter f) told_field told, tt), (tt, tt));
  tells = let P : List ℕ → Type 0 = λ k. list_any (bytes_eq k) (codes "field" ∷ w ∷ []) ≡ true in
      subst P is (second (codes "field") w []);
  others = (inl told_field, (inr is, tt));
}

three_keys : (f : Form) (w other : List ℕ) → w ≡ telling f → form_told w ≡ Some (shorter f)
    → form_told other ≡ None → bytes_eq (codes "field") other ≡ false
    → IsSetOf f (codes "field" ∷ w ∷ other ∷ [])
unfolding IsDistinct
three_keys f w other is told none not_field = record {
  distinct = (
    (apart (codes "field") w (shorter f) told_field told, (not_field, tt)),
    ((apart_after other w (shorter f) none told, tt), (tt, tt)),
  );
  tells = let P : List ℕ → Type 0 = λ k. list_any (bytes_eq k) (codes "field" ∷ w ∷ other ∷ []) ≡ true in
      subst P is (second (codes "field") w (other ∷ []));
  others = (inl told_field, (inr is, (inl none, tt)));
}

four_keys : (f : Form) (w : List ℕ) → w ≡ telling f → form_told w ≡ Some (shorter f)
    → IsSetOf f (codes "field" ∷ w ∷ codes "offset" ∷ codes "offsetUnit" ∷ [])
unfolding IsDistinct
four_keys f w is told = record {
  distinct = (
    (apart (codes "field") w (shorter f) told_field told, (refl, (refl, tt))),
    (
      (
        apart_after (codes "offset") w (shorter f) told_offset told,
        (apart_after (codes "offsetUnit") w (shorter f) told_unit told, tt),
      ),
      ((refl, tt), (tt, tt)),
    ),
  );
  tells = let P : List ℕ → Type 0 =
      λ k. list_any (bytes_eq k) (codes "field" ∷ w ∷ codes "offset" ∷ codes "offsetUnit" ∷ []) ≡ true in
      subst P is (second (codes "field") w (codes "offset" ∷ codes "offsetUnit" ∷ []));
  others = (inl told_field, (inr is, (inl told_offset, (inl told_unit, tt))));
}

sets_of : (f : Form) → AllByRecursion (IsSetOf f) (key_sets f)
unfolding key_sets IsDistinct
sets_of (form.Atom k) = (two_keys (form.Atom k) (word_of k) refl (told_atom k), tt)
sets_of (form.Related k) = (
  two_keys (form.Related k) (field_word k) refl (told_related k),
  (
    three_keys (form.Related k) (field_word k) (codes "offset") refl (told_related k) told_offset refl,
    (
      three_keys (form.Related k) (field_word k) (codes "offsetUnit") refl (told_related k) told_unit refl,
      (four_keys (form.Related k) (field_word k) refl (told_related k), tt),
    ),
  ),
)
sets_of form.Not = (record { distinct = (tt, tt); tells = refl; others = (inr refl, tt) }, tt)
sets_of form.AnyOf = (record { distinct = (tt, tt); tells = refl; others = (inr refl, tt) }, tt)
sets_of form.AllOf = (record { distinct = (tt, tt); tells = refl; others = (inr refl, tt) }, tt)
sets_of form.If = (
  record { distinct = ((refl, tt), (tt, tt)); tells = refl; others = (inr refl, (inl told_then, tt)) },
  tt,
)
sets_of form.IfElse = (
  record {
    distinct = ((refl, (refl, tt)), ((refl, tt), (tt, tt)));
    tells = refl;
    others = (inr refl, (inl told_then, (inl told_else, tt)));
  },
  tt,
)

not_both : (b : Bool) → b ≡ true → b ≡ false → ⊥
not_both b yes_it_is not_it = cc

some_set : (P : List (List ℕ) → Type 0) (test : List (List ℕ) → Bool) (sets : List (List (List ℕ)))
    → AllByRecursion P sets → list_any test sets ≡ true → (keys : List (List ℕ)) × P keys × (test keys ≡ true)
some_set P test [] all any = absurd (not_both false any refl)
some_set P test (keys ∷ sets) all any = elim (or_cases (test keys) (list_any test sets) any) [
  | inl here ↦ (keys, all.0, here)
  | inr later ↦ some_set P test sets all.1 later
]

set_with : (f : Form) (members : List Member) → has_form f members ≡ true
    → (keys : List (List ℕ)) × IsSetOf f keys × (are_keys keys members ≡ true)
unfolding has_form
set_with f members has = some_set (IsSetOf f) (λ keys. are_keys keys members) (key_sets f) (sets_of f) has

at_member : (P : List ℕ → Type 0) (key : List ℕ) (keys : List (List ℕ)) → AllByRecursion P keys
    → list_any (bytes_eq key) keys ≡ true → P key
at_member P key [] all any = absurd (not_both false any refl)
at_member P key (other ∷ keys) all any = elim (or_cases (bytes_eq key other) (list_any (bytes_eq key) keys) any) [
  | inl here ↦ subst P (sym (same_bytes key other here)) all.0
  | inr later ↦ at_member P key keys all.1 later
]

-- a form is there with the key that tells it
pub telling_there : (f : Form) (members : List Member) → has_form f members ≡ true
    → has_key (telling f) members ≡ true
telling_there f members has =
    let there = set_with f members has in
    let both = and_parts (length members == length there.0) (list_all (λ k. has_key k members) there.0) there.2 in
    all_member (λ k. has_key k members) (telling f) there.0 both.1 there.1.tells

-- and with no other that tells one
pub told_is : (f g : Form) (members : List Member) (key : List ℕ) → has_form f members ≡ true
    → has_key key members ≡ true → form_told key ≡ Some g → shorter f ≡ g
told_is f g members key has there_is tells =
    let there = set_with f members has in
    let within : list_any (bytes_eq key) there.0 ≡ true =
    only_keys there.0 members key there.1.distinct there.2 there_is in
    let which : (form_told key ≡ None) ⊎ (key ≡ telling f) =
    at_member (λ k. (form_told k ≡ None) ⊎ (k ≡ telling f)) key there.0 there.1.others within in
    elim which [
      | inl none ↦ absurd (let a : form_told key ≡ None = none in cc)
      | inr is ↦ (let a : form_told key ≡ form_told (telling f) = ap form_told is in
          let b : form_told (telling f) ≡ Some (shorter f) = told_telling f in cc)
    ]
