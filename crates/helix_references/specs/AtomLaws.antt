-- An atomic constraint that breaks no rule has a declared field, for which its keyword is.
use Rattle.std.proofs.Common.{◌≡◌, ℕ, true, not, List, [], ◌∷◌, Option, Some, None, IsSome, slice_get, codes, refl, sym, ◌∙◌, ap}
use Rattle.std.specs.Str.{bytes_eq}
use Rattle.std.proofs.lemmas.Bool.{and_from, true_from_ne_false}
use Rattle.helix_json.specs.declared.value.Json.TheViews as view
use Rattle.helix_json.specs.declared.value.Member.{Member}
use Rattle.helix_keywords.specs.declared.form.Form.TheVariants as form
use Rattle.helix_keywords.specs.declared.keyword.Keyword.{Keyword}
use Rattle.helix_keywords.specs.Forms.{form_of, has_form}
use Rattle.helix_keywords.specs.FormLaws.{form_of_has, atom_has_field, atom_has_keyword}
use Rattle.helix_keywords.specs.Keywords.{is_for, word_of}
use Rattle.helix_places.specs.declared.place.Step.TheVariants as step
use Rattle.helix_places.specs.Members.{value_of}
use Rattle.helix_places.specs.KeyLaws.{bytes_same}
use Rattle.helix_profile.specs.Validity.{FieldWith}
use Rattle.helix_profile.specs.declared.field.Field.{Field}
use Rattle.helix_values.specs.Class.{class_of_kind}
use Rattle.helix_references.specs.declared.rule.ReferenceRule.TheVariants as rule
use Rattle.helix_references.specs.Naming.{index_by, kind_by}
use Rattle.helix_references.specs.Rules.{IsFaulty, IsUnbroken, is_misused, names_field}
use Rattle.helix_references.specs.RefusalLaws.{broken_at, some_value}
use Rattle.helix_references.specs.RelationLaws.{NamedField, named_field}
use Rattle.helix_references.specs.ValidityLaws.{if_some}

some_by : {A : Type 0} (o : Option A) → ¬ (o ≡ None) → IsSome o
some_by None not_none = absurd (not_none refl)
some_by (Some x) not_none = refl

module _ (fields : List Field) (members : List Member) (keyword : Keyword)
    (has : has_form (form.Atom keyword) members ≡ true) (unbroken : IsUnbroken fields (view.Object members))
  where
    form_is : form_of members ≡ Some (form.Atom keyword)
    form_is = form_of_has members (form.Atom keyword) has

    pub has_field : IsSome (index_by fields (value_of (codes "field") members))
    unfolding IsFaulty
    has_field = some_by (index_by fields (value_of (codes "field") members)) (λ none.
        let there = some_value (value_of (codes "field") members) (atom_has_field keyword members has) in
        unbroken rule.Reference (step.Member (codes "field") ∷ [])
        (broken_at fields members rule.Reference (codes "field") there.0 there.1
        (ap (λ f. names_field f (codes "field")) form_is, ap (index_by fields) (sym there.1) ∙ none)))

    pub atom_for : (index : ℕ) → index_by fields (value_of (codes "field") members) ≡ Some index
        → FieldWith fields index (λ field. is_for keyword (class_of_kind field.kind) ≡ true)
    unfolding IsFaulty
    atom_for index is =
        let named : NamedField fields (value_of (codes "field") members) index =
        named_field fields (value_of (codes "field") members) index is in
        let there = some_value (value_of (word_of keyword) members) (atom_has_keyword keyword members has) in (
          named.within,
          if_some (slice_get fields index) (λ field. is_for keyword (class_of_kind field.kind) ≡ true) named.field
              named.at
              (true_from_ne_false (is_for keyword (class_of_kind named.field.kind)) (λ is_not.
              let own : is_misused (Some (form.Atom keyword)) (Some named.field.kind) (word_of keyword) ≡ true =
              and_from (bytes_eq (word_of keyword) (word_of keyword))
              (not (is_for keyword (class_of_kind named.field.kind))) (bytes_same (word_of keyword))
              (ap not is_not) in
              unbroken rule.Class (step.Member (word_of keyword) ∷ [])
              (broken_at fields members rule.Class (word_of keyword) there.0 there.1
              (ap (λ f. is_misused f (kind_by fields (value_of (codes "field") members)) (word_of keyword)) form_is
              ∙ (ap (λ k. is_misused (Some (form.Atom keyword)) k (word_of keyword)) named.kind_is ∙ own))))),
        )
