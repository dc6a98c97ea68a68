-- Where a relation isn't given, a rule is broken.
use Rattle.std.proofs.Common.{◌≡◌, ℕ, inl, inr, true, false, List, [], ◌∷◌, Option, Some, None, is_some, codes, refl, sym, ◌∙◌, ap, subst}
use Rattle.std.specs.Option.{IsSomeAnd}
use Rattle.std.specs.Str.{bytes_eq}
use Rattle.std.proofs.lemmas.Bool.{or_right}
use Rattle.helix_json.specs.declared.value.Json.{Json}
use Rattle.helix_json.specs.declared.value.Json.TheViews as view
use Rattle.helix_json.specs.declared.value.Member.{Member}
use Rattle.helix_keywords.specs.declared.form.Form.{Form}
use Rattle.helix_keywords.specs.declared.form.Form.TheVariants as form
use Rattle.helix_keywords.specs.declared.keyword.FieldKeyword.{FieldKeyword}
use Rattle.helix_keywords.specs.Forms.{form_of, has_form}
use Rattle.helix_keywords.specs.FormLaws.{form_of_has, related_has_field, related_has_keyword}
use Rattle.helix_keywords.specs.Keywords.{field_word}
use Rattle.helix_places.specs.declared.place.Step.{Step}
use Rattle.helix_places.specs.declared.place.Step.TheVariants as step
use Rattle.helix_places.specs.Members.{value_of}
use Rattle.helix_places.specs.PlaceLaws.{and_some}
use Rattle.helix_places.specs.KeyLaws.{bytes_same}
use Rattle.helix_places.specs.ViewLaws.{members_of_object}
use Rattle.helix_profile.specs.declared.field.Field.{Field}
use Rattle.helix_values.specs.Class.{class_of_kind}
use Rattle.helix_values.specs.declared.kind.Kind.{Kind}
use Rattle.helix_references.specs.declared.rule.ReferenceRule.{ReferenceRule}
use Rattle.helix_references.specs.declared.rule.ReferenceRule.TheVariants as rule
use Rattle.helix_references.specs.Naming.{index_by, kind_by}
use Rattle.helix_references.specs.Offsets.{IsFaultyAt, IsFaultyOffset, IsFaultyUnit}
use Rattle.helix_references.specs.Rules.{Breaks, IsFaulty, IsFaultyIn, IsUnbroken, names_field}
use Rattle.helix_references.specs.Inner.Refusals.{IsNoOffset, IsRefused}

pub some_value : {A : Type 0} (o : Option A) → is_some o ≡ true → (x : A) × (o ≡ Some x)
some_value None some = absurd (let e : false ≡ true = some in cc)
some_value (Some x) some = (x, refl)

pub some_of : {A : Type 0} (o : Option A) (P : A → Type 0) → IsSomeAnd o P → (x : A) × (o ≡ Some x) × P x
some_of None P h = absurd h
some_of (Some x) P h = (x, refl, h)

module _ (fields : List Field) (members : List Member) where
  -- a faulty member is where a rule is broken
  pub broken_at : (which : ReferenceRule) (key : List ℕ) (w : Json) → value_of key members ≡ Some w
      → IsFaulty which fields members (form_of members) key w
      → Breaks which fields (view.Object members) (step.Member key ∷ [])
  broken_at which key w is faulty =
      let here : List Step = [] in
      let Q : List Member → Type 0 = λ l. (here ≡ here)
      × IsSomeAnd (value_of key l) (IsFaulty which fields l (form_of l) key) in
      subst Q (sym (members_of_object members)) (
        refl,
        and_some (value_of key members) (IsFaulty which fields members (form_of members) key) w is faulty,
      )

  module _ (keyword : FieldKeyword) (has : has_form (form.Related keyword) members ≡ true) where
    pub form_is : form_of members ≡ Some (form.Related keyword)
    form_is = form_of_has members (form.Related keyword) has

    pub field_value : (w : Json) × (value_of (codes "field") members ≡ Some w)
    field_value = some_value (value_of (codes "field") members) (related_has_field keyword members has)

    pub operand_value : (w : Json) × (value_of (field_word keyword) members ≡ Some w)
    operand_value = some_value (value_of (field_word keyword) members) (related_has_keyword keyword members has)

    no_reference : (key : List ℕ) (w : Json) → value_of key members ≡ Some w
        → names_field (Some (form.Related keyword)) key ≡ true → index_by fields (value_of key members) ≡ None
        → Breaks rule.Reference fields (view.Object members) (step.Member key ∷ [])
    unfolding IsFaulty
    no_reference key w is names none = broken_at rule.Reference key w is (
      ap (λ f. names_field f key) form_is ∙ names,
      ap (index_by fields) (sym is) ∙ none,
    )

    no_offset : (key : List ℕ) (w : Json) → value_of key members ≡ Some w
        → IsFaultyAt (kind_by fields (value_of (codes "field") members))
        (kind_by fields (value_of (field_word keyword) members)) members key w
        → Breaks rule.Offset fields (view.Object members) (step.Member key ∷ [])
    unfolding IsFaulty
    no_offset key w is faulty = broken_at rule.Offset key w is
        (let P : Option Form → Type 0 = λ f. IsFaultyIn fields members f key w in subst P (sym form_is) faulty)

    refused_offset : (kind : Kind) → kind_by fields (value_of (codes "field") members) ≡ Some kind
        → IsNoOffset (class_of_kind kind) (kind_by fields (value_of (field_word keyword) members))
        (value_of (codes "offset") members) (value_of (codes "offsetUnit") members)
        → IsUnbroken fields (view.Object members) → ⊥
    refused_offset kind kind_is (inl faulty) unbroken =
        let there = some_of (value_of (codes "offset") members) (IsFaultyOffset (class_of_kind kind)
        (kind_by fields (value_of (field_word keyword) members)) (value_of (codes "offsetUnit") members)) faulty in
        let P : Option Kind → Type 0 = λ k. IsFaultyAt k (kind_by fields (value_of (field_word keyword) members))
        members
        (codes "offset") there.0 in
        unbroken rule.Offset (step.Member (codes "offset") ∷ [])
        (no_offset (codes "offset") there.0 there.1 (subst P (sym kind_is) (inl (refl, there.2))))
    refused_offset kind kind_is (inr faulty) unbroken =
        let there = some_of (value_of (codes "offsetUnit") members) (IsFaultyUnit (class_of_kind kind)
        (kind_by fields (value_of (field_word keyword) members)) (value_of (codes "offset") members)) faulty in
        let P : Option Kind → Type 0 = λ k. IsFaultyAt k (kind_by fields (value_of (field_word keyword) members))
        members
        (codes "offsetUnit") there.0 in
        unbroken rule.Offset (step.Member (codes "offsetUnit") ∷ [])
        (no_offset (codes "offsetUnit") there.0 there.1 (subst P (sym kind_is) (inr (refl, there.2))))

    pub not_refused : IsUnbroken fields (view.Object members) → ¬ (IsRefused fields members keyword)
    not_refused unbroken (inl none) = unbroken rule.Reference (step.Member (codes "field") ∷ [])
        (no_reference (codes "field") field_value.0 field_value.1 refl none)
    not_refused unbroken (inr (inl none)) = unbroken rule.Reference (step.Member (field_word keyword) ∷ [])
        (no_reference (field_word keyword) operand_value.0 operand_value.1
        (or_right (bytes_eq (field_word keyword) (codes "field")) (bytes_eq (field_word keyword) (field_word keyword))
        (bytes_same (field_word keyword))) none)
    not_refused unbroken (inr (inr faulty)) =
        let there = some_of (kind_by fields (value_of (codes "field") members))
        (λ kind. IsNoOffset (class_of_kind kind) (kind_by fields (value_of (field_word keyword) members))
        (value_of (codes "offset") members) (value_of (codes "offsetUnit") members)) faulty in
        refused_offset there.0 there.1 there.2 unbroken
