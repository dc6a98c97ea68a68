-- A relation that is given is one for its two fields, where no rule is broken.
use Rattle.std.proofs.Common.{◌≡◌, ◌≢◌, ℕ, inl, inr, true, not, List, [], ◌∷◌, Option, Some, slice_get, IfSome, codes, sym, ◌∙◌, ap, subst}
use Rattle.std.specs.Str.{bytes_eq}
use Rattle.std.proofs.lemmas.Bool.{and_from, true_from_ne_false}
use Rattle.helix_json.specs.declared.value.Json.{Json}
use Rattle.helix_json.specs.declared.value.Json.TheViews as view
use Rattle.helix_json.specs.declared.value.Member.{Member}
use Rattle.helix_keywords.specs.declared.form.Form.TheVariants as form
use Rattle.helix_keywords.specs.declared.keyword.FieldKeyword.{FieldKeyword}
use Rattle.helix_keywords.specs.Forms.{form_of, has_form}
use Rattle.helix_keywords.specs.Keywords.{field_word, is_for_field}
use Rattle.helix_places.specs.declared.place.Step.TheVariants as step
use Rattle.helix_places.specs.Members.{value_of}
use Rattle.helix_places.specs.PlaceLaws.{some_and}
use Rattle.helix_places.specs.KeyLaws.{bytes_same}
use Rattle.helix_profile.specs.declared.field.Field.{Field}
use Rattle.helix_profile.specs.declared.relation.Compare.{Compare}
use Rattle.helix_profile.specs.declared.relation.Relation.{Relation}
use Rattle.helix_profile.specs.Validity.{FieldWith, IsCompareFor, IsOffsetFor, IsRelationFor}
use Rattle.helix_values.specs.Class.{class_of_kind}
use Rattle.helix_values.specs.declared.kind.Kind.{Kind}
use Rattle.helix_references.specs.declared.rule.ReferenceRule.TheVariants as rule
use Rattle.helix_references.specs.Naming.{index_by, index_in, kind_by, kind_in}
use Rattle.helix_references.specs.Relations.{GivesOffset, GivesRelation}
use Rattle.helix_references.specs.Rules.{AreOne, AreUnlike, IsFaulty, IsUnbroken, is_misused, is_relation_key}
use Rattle.helix_references.specs.RefusalLaws.{broken_at, form_is, operand_value}
use Rattle.helix_references.specs.RelationLaws.{NamedField, named_field, one_or_not, compare_for, offset_range}

pub if_some : {A : Type 0} (o : Option A) (P : A → Type 0) (x : A) → o ≡ Some x → P x → IfSome o P
if_some o P x is holds = let Q : Option _ → Type 0 = λ q. IfSome q P in subst Q (sym is) holds

module _ (fields : List Field) (members : List Member) (keyword : FieldKeyword) (relation : Relation)
    (has : has_form (form.Related keyword) members ≡ true) (unbroken : IsUnbroken fields (view.Object members))
    (gives : GivesRelation fields members keyword relation)
  where
    left : NamedField fields (value_of (codes "field") members) relation.left
    left = named_field fields (value_of (codes "field") members) relation.left gives.left

    right : NamedField fields (value_of (field_word keyword) members) relation.right
    right = named_field fields (value_of (field_word keyword) members) relation.right gives.right

    operand : Json
    operand = (operand_value fields members keyword has).0

    operand_is : value_of (field_word keyword) members ≡ Some operand
    unfolding operand
    operand_is = (operand_value fields members keyword has).1

    keyword_is : is_relation_key (form_of members) (field_word keyword) ≡ true
    keyword_is = ap (λ f. is_relation_key f (field_word keyword)) (form_is fields members keyword has)
        ∙ bytes_same (field_word keyword)

    different : relation.left ≢ relation.right
    unfolding IsFaulty
    different same =
        let other : index_in fields operand ≡ Some relation.right =
        ap (index_by fields) (sym operand_is) ∙ gives.right in
        let P : Option ℕ → Type 0 = λ i. AreOne i (index_in fields operand) in
        let Q : Option ℕ → Type 0 = λ i. AreOne (Some relation.left) i in
        unbroken rule.TwoFields (step.Member (field_word keyword) ∷ [])
        (broken_at fields members rule.TwoFields (field_word keyword) operand operand_is
        (keyword_is, subst P (sym gives.left) (subst Q (sym other) same)))

    one_class : class_of_kind left.field.kind ≡ class_of_kind right.field.kind
    unfolding IsFaulty
    one_class = elim (one_or_not (class_of_kind left.field.kind) (class_of_kind right.field.kind)) [
      | inl same ↦ same
      | inr apart ↦ absurd (
          let other : kind_in fields operand ≡ Some right.field.kind =
          ap (kind_by fields) (sym operand_is) ∙ right.kind_is in
          let P : Option Kind → Type 0 = λ k. AreUnlike k (kind_in fields operand) in
          let Q : Option Kind → Type 0 = λ k. AreUnlike (Some left.field.kind) k in
          unbroken rule.OneClass (step.Member (field_word keyword) ∷ [])
          (broken_at fields members rule.OneClass (field_word keyword) operand operand_is
          (keyword_is, subst P (sym left.kind_is) (subst Q (sym other) apart))))
    ]

    is_for : is_for_field keyword (class_of_kind left.field.kind) ≡ true
    unfolding IsFaulty
    is_for = true_from_ne_false (is_for_field keyword (class_of_kind left.field.kind)) (λ is_not.
        let own : is_misused (Some (form.Related keyword)) (Some left.field.kind) (field_word keyword) ≡ true =
        and_from (bytes_eq (field_word keyword) (field_word keyword))
        (not (is_for_field keyword (class_of_kind left.field.kind))) (bytes_same (field_word keyword))
        (ap not is_not) in
        unbroken rule.Class (step.Member (field_word keyword) ∷ [])
        (broken_at fields members rule.Class (field_word keyword) operand operand_is
        (ap (λ f. is_misused f (kind_by fields (value_of (codes "field") members)) (field_word keyword))
        (form_is fields members keyword has)
        ∙ (ap (λ k. is_misused (Some (form.Related keyword)) k (field_word keyword)) left.kind_is ∙ own))))

    comparison : IsCompareFor (class_of_kind left.field.kind) relation.compare
    comparison = let P : Compare → Type 0 = IsCompareFor (class_of_kind left.field.kind) in
        subst P (sym gives.comparison) (compare_for keyword (class_of_kind left.field.kind) is_for)

    range : IsOffsetFor right.field.kind (class_of_kind left.field.kind) relation.offset
    range =
        let shift : GivesOffset (class_of_kind left.field.kind)
        (kind_by fields (value_of (field_word keyword) members))
        (value_of (codes "offset") members) (value_of (codes "offsetUnit") members) relation.offset =
        some_and (kind_by fields (value_of (codes "field") members))
        (λ kind. GivesOffset (class_of_kind kind) (kind_by fields (value_of (field_word keyword) members))
        (value_of (codes "offset") members) (value_of (codes "offsetUnit") members) relation.offset)
        left.field.kind left.kind_is gives.shift in
        let P : Option Kind → Type 0 = λ k. GivesOffset (class_of_kind left.field.kind) k
        (value_of (codes "offset") members) (value_of (codes "offsetUnit") members) relation.offset in
        offset_range (class_of_kind left.field.kind) right.field.kind (value_of (codes "offset") members)
        (value_of (codes "offsetUnit") members) relation.offset (subst P right.kind_is shift)

    pub relation_for : FieldWith fields relation.left
        (λ one. FieldWith fields relation.right (λ other. IsRelationFor one other relation))
    relation_for = (
      left.within,
      if_some (slice_get fields relation.left)
          (λ one. FieldWith fields relation.right (λ other. IsRelationFor one other relation)) left.field left.at (
            right.within,
            if_some (slice_get fields relation.right) (λ other. IsRelationFor left.field other relation) right.field
                right.at
                (record { different = different; one_class = one_class; comparison = comparison; range = range }),
          ),
    )
