-- The relations of the constraints that are given join no fields but those that lines of the text join.
use Rattle.std.proofs.Common.{◌≡◌, ◌≢◌, ℕ, ◌<◌, ◌≤◌, ◌==◌, not, ◌&&◌, nat_lt, if◌then◌else◌, List, [], ◌∷◌, ◌++◌, length, Option, Some, None, slice_get, codes, sym, ◌∙◌, ap, subst, arith}
use Rattle.std.proofs.lemmas.Bool.{and_from, lt-ltb, ne_eqb}
use Rattle.helix_constraints.specs.Rules.{form_in}
use Rattle.helix_constraints.specs.declared.role.Role.TheVariants as role
use Rattle.helix_fields.specs.Under.{items_of_some}
use Rattle.helix_json.specs.declared.value.Json.{Json, Row_of-Json, Row_of-Member}
use Rattle.helix_json.specs.declared.value.Json as json
use Rattle.helix_keywords.specs.FormLaws.{has_form_of}
use Rattle.helix_keywords.specs.Keywords.{field_word}
use Rattle.helix_keywords.specs.declared.form.Form.TheVariants as form
use Rattle.helix_keywords.specs.declared.keyword.FieldKeyword.{FieldKeyword}
use Rattle.helix_places.specs.Members.{items_of, listed_items, members_of, value_of}
use Rattle.helix_places.specs.declared.place.Step.{Step}
use Rattle.helix_profile.specs.Fields.{all_relations, relations_of}
use Rattle.helix_profile.specs.Forest.{AreJoined}
use Rattle.helix_profile.specs.Validity.{FieldWith, IsRelationFor}
use Rattle.helix_profile.specs.declared.constraint.Constraint.{Constraint, Related}
use Rattle.helix_profile.specs.declared.field.Field.{Field}
use Rattle.helix_profile.specs.declared.relation.Relation.{Relation}
use Rattle.helix_readings.specs.Whole.{GivesConstraints}
use Rattle.helix_readings.specs.declared.sets.SetMembers.{SetMembers}
use Rattle.helix_references.specs.Naming.{index_by}
use Rattle.helix_references.specs.RelationLaws.{NamedField, by_within, named_field}
use Rattle.helix_references.specs.Relations.{GivesRelation}
use Rattle.helix_references.specs.ValidityLaws.{relation_for}
use Rattle.helix_rules.specs.Lines.{item_lines, line, line_between, line_list, line_of, lines_in, lines_of, lines_under, list_lines, max_fields}
use Rattle.helix_validity.proofs.Built.{relations_all, relations_any, relations_else, relations_if, relations_not}
use Rattle.helix_validity.proofs.Own.{some_if, unbroken_object}
use Rattle.helix_validity.proofs.Sound.{IsSound}
use Rattle.helix_validity.proofs.Walking.{IsKept, OfEach, of_profile}
use Rattle.helix_validity.specs.Mentions.{AreFilled}
use Rattle.helix_validity.specs.Unbroken.{IsUnbrokenProfile}
use Rattle.helix_validity.proofs.Lines.{JoinNoMore, both_join, each_joins, lines_by, of_branch, of_operand, operands_of}

module _ (fields : List Field) where
  -- the constraint joins no fields but those that the value's lines join
  abbrev JoinsIn : Json → Constraint → Type 0
  JoinsIn v c = JoinNoMore (relations_of c) (lines_in fields v)

  items_join : {n : _} (row : Row_of-Json n) (cs : List Constraint) → OfEach JoinsIn (listed_items row) cs
      → JoinNoMore (all_relations cs) (item_lines fields row)
  items_join json.end_of-Json [] each = λ f g joined. joined
  items_join json.end_of-Json (c ∷ cs) each = absurd each
  items_join (json.more_of-Json item row) [] each = absurd each
  items_join (json.more_of-Json item row) (c ∷ cs) each = each_joins (relations_of c) (all_relations cs)
      (lines_in fields item) (item_lines fields row) each.0 (items_join row cs each.1)

  none_join : (cs : List Constraint) → OfEach JoinsIn [] cs → JoinNoMore (all_relations cs) []
  none_join [] each = λ f g joined. joined
  none_join (c ∷ cs) each = absurd each

  list_joins : (v : Json) (cs : List Constraint) → OfEach JoinsIn (items_of v) cs
      → JoinNoMore (all_relations cs) (list_lines fields v)
  list_joins json.Null cs each = none_join cs each
  list_joins (json.Bool b) cs each = none_join cs each
  list_joins (json.Number text) cs each = none_join cs each
  list_joins (json.Str text) cs each = none_join cs each
  list_joins (json.List' shape row) cs each = items_join row cs each
  list_joins (json.Object' shape row) cs each = none_join cs each

  under_joins : (o : Option Json) (cs : List Constraint) → OfEach JoinsIn (items_of_some o) cs
      → JoinNoMore (all_relations cs) (lines_under fields o)
  under_joins None cs each = none_join cs each
  under_joins (Some w) cs each = list_joins w cs each

  -- two fields that are declared have a line
  has_line : (left right : ℕ) → left < max_fields → right < max_fields → left ≢ right
      → line_between left right ≡ Some (line left right)
  has_line left right left_in right_in differ =
      ap (λ b. if b then Some (line left right) else None)
      (and_from (nat_lt left max_fields && nat_lt right max_fields) (not (left == right))
      (and_from (nat_lt left max_fields) (nat_lt right max_fields) (lt-ltb left max_fields left_in)
      (lt-ltb right max_fields right_in)) (ap not (ne_eqb left right differ)))

-- a relation that is given is between different fields
ends_differ : (fields : List Field) (v : Json) (keyword : FieldKeyword) (r : Relation)
    → GivesRelation fields (members_of v) keyword r
    → FieldWith fields r.left (λ one. FieldWith fields r.right (λ other. IsRelationFor one other r))
    → r.left ≢ r.right
ends_differ fields v keyword r gives for =
    let left : NamedField fields (value_of (codes "field") (members_of v)) r.left =
    named_field fields (value_of (codes "field") (members_of v)) r.left gives.left in
    let right : NamedField fields (value_of (field_word keyword) (members_of v)) r.right =
    named_field fields (value_of (field_word keyword) (members_of v)) r.right gives.right in
    let one : FieldWith fields r.right (λ other. IsRelationFor left.field other r) =
    some_if (slice_get fields r.left) (λ one. FieldWith fields r.right (λ other. IsRelationFor one other r)) left.field
    left.at for.1 in
    let both : IsRelationFor left.field right.field r =
    some_if (slice_get fields r.right) (λ other. IsRelationFor left.field other r) right.field right.at one.1 in
    both.different

module _ (fields : List Field) (sets : List SetMembers) (few : length fields ≤ 64) where
  related_joins : (prefix : List Step) (v : Json) (keyword : FieldKeyword) (r : Relation)
      → IsSound fields sets prefix role.One v → form_in v ≡ Some (form.Related keyword)
      → GivesRelation fields (members_of v) keyword r → JoinsIn fields v (Related r)
  related_joins prefix v keyword r sound is gives f g joined =
      let left : r.left < max_fields =
      omega (arith, few, by_within fields (value_of (codes "field") (members_of v)) r.left gives.left) in
      let right : r.right < max_fields =
      omega (arith, few, by_within fields (value_of (field_word keyword) (members_of v)) r.right gives.right) in
      let differ : r.left ≢ r.right = ends_differ fields v keyword r gives (relation_for fields (members_of v) keyword r
      (has_form_of (members_of v) (form.Related keyword) is) (unbroken_object fields sets prefix v sound) gives) in
      let own : lines_in fields v ≡ line r.left r.right ∷ [] =
      lines_by fields v (Some (form.Related keyword)) is
      ∙ ap line_list (ap (λ o. line_of o (index_by fields (value_of (field_word keyword) (members_of v)))) gives.left
      ∙ (ap (line_of (Some r.left)) gives.right ∙ has_line fields r.left r.right left right differ)) in
      subst (λ l. AreJoined l f g) (sym own) joined

  kept : IsKept fields sets (JoinsIn fields)
  kept = record {
    atom = λ prefix v keyword a sound is gives f g joined. absurd joined;
    related = related_joins;
    negation = λ v w c is there within f g joined.
        subst (λ l. AreJoined l f g) (sym (lines_by fields v (Some form.Not) is))
        (of_operand fields v (codes "not") w there f g
        (within f g (subst (λ l. AreJoined l f g) (relations_not c) joined)));
    all = λ v w cs is there list some each f g joined.
        subst (λ l. AreJoined l f g) (sym (lines_by fields v (Some form.AllOf) is))
        (of_branch fields v (codes "allOf") w there f g
        (list_joins fields w cs each f g (subst (λ l. AreJoined l f g) (relations_all cs) joined)));
    any = λ v w cs is there list some each f g joined.
        subst (λ l. AreJoined l f g) (sym (lines_by fields v (Some form.AnyOf) is))
        (of_branch fields v (codes "anyOf") w there f g
        (list_joins fields w cs each f g (subst (λ l. AreJoined l f g) (relations_any cs) joined)));
    condition = λ v a b c d is one two first second f g joined.
        subst (λ l. AreJoined l f g) (sym (lines_by fields v (Some form.If) is))
        (both_join (relations_of c) (relations_of d) (operands_of fields v)
        (λ m n h. of_operand fields v (codes "if") a one m n (first m n h))
        (λ m n h. of_operand fields v (codes "then") b two m n (second m n h)) f g
        (subst (λ l. AreJoined l f g) (relations_if c d) joined));
    other = λ v a b e c d x is one two three first second third f g joined.
        subst (λ l. AreJoined l f g) (sym (lines_by fields v (Some form.IfElse) is))
        (both_join (relations_of c) (relations_of d ++ relations_of x) (operands_of fields v)
        (λ m n h. of_operand fields v (codes "if") a one m n (first m n h))
        (both_join (relations_of d) (relations_of x) (operands_of fields v)
        (λ m n h. of_operand fields v (codes "then") b two m n (second m n h))
        (λ m n h. of_operand fields v (codes "else") e three m n (third m n h))) f g
        (subst (λ l. AreJoined l f g) (relations_else c d x) joined));
  }

  pub relations_join : (v : Json) (cs : List Constraint) → IsUnbrokenProfile fields v → AreFilled fields sets v
      → GivesConstraints fields sets v cs → JoinNoMore (all_relations cs) (lines_of fields v)
  relations_join v cs unbroken filled given =
      under_joins fields (value_of (codes "constraints") (members_of v)) cs
      (of_profile fields sets (JoinsIn fields) kept v unbroken filled cs given)
