-- Each constraint that is given is one for the fields.
use Rattle.std.proofs.Common.{◌≡◌, Bool, true, false, MatchBool, List, [], ◌∷◌, Some, slice_get, codes, refl, sym, ◌∙◌, ap, subst, ⊎_elim}
use Rattle.std.specs.List.{AllByRecursion}
use Rattle.std.specs.Option.{IsSomeAnd}
use Rattle.helix_constraints.specs.Rules.{form_in}
use Rattle.helix_constraints.specs.declared.role.Role.TheVariants as role
use Rattle.helix_fields.specs.Fields.{constraints_of}
use Rattle.helix_json.specs.declared.value.Json.{Json}
use Rattle.helix_keywords.specs.FormLaws.{has_form_of}
use Rattle.helix_keywords.specs.Keywords.{is_for, word_of}
use Rattle.helix_keywords.specs.declared.form.Form.TheVariants as form
use Rattle.helix_keywords.specs.declared.keyword.FieldKeyword.{FieldKeyword}
use Rattle.helix_keywords.specs.declared.keyword.Keyword.{Keyword}
use Rattle.helix_operands.specs.FitLaws.{test_fits}
use Rattle.helix_operands.specs.Tests.{GivesTest, Makes, names_set_file}
use Rattle.helix_places.specs.Members.{members_of, value_of}
use Rattle.helix_places.specs.PlaceLaws.{some_and}
use Rattle.helix_places.specs.declared.place.Step.{Step}
use Rattle.helix_profile.specs.Validity.{IsConstraintFor, IsTestFor}
use Rattle.helix_profile.specs.declared.constraint.Constraint.{Constraint, Atom, Related}
use Rattle.helix_profile.specs.declared.field.Field.{Field}
use Rattle.helix_profile.specs.declared.relation.Relation.{Relation}
use Rattle.helix_profile.specs.declared.test.Atom.{Atom as FieldTest}
use Rattle.helix_profile.specs.declared.test.Test.{Test}
use Rattle.helix_profile.specs.declared.test.Test.TheVariants as test
use Rattle.helix_readings.specs.Given.{GivesAtom, GivesTestAt, at_key}
use Rattle.helix_readings.specs.Sets.{HasMembers}
use Rattle.helix_readings.specs.Whole.{GivesConstraints}
use Rattle.helix_readings.specs.declared.sets.SetMembers.{SetMembers}
use Rattle.helix_references.specs.Naming.{kind_by}
use Rattle.helix_references.specs.RefusalLaws.{some_of}
use Rattle.helix_references.specs.RelationLaws.{NamedField}
use Rattle.helix_references.specs.Relations.{GivesRelation}
use Rattle.helix_references.specs.ValidityLaws.{if_some, relation_for}
use Rattle.helix_validity.proofs.Built.{fits_all, fits_any, fits_else, fits_if, fits_not}
use Rattle.helix_validity.proofs.Own.{file_members, for_field, named, unbroken_object}
use Rattle.helix_validity.proofs.Sound.{IsSound}
use Rattle.helix_validity.proofs.Walking.{IsKept, OfEach, of_profile}
use Rattle.helix_validity.specs.Mentions.{AreFilled, AreSetMembers}
use Rattle.helix_validity.specs.Unbroken.{IsUnbrokenProfile}
use Rattle.helix_values.specs.Class.{class_of_kind}
use Rattle.helix_values.specs.declared.cell.Cell.{Cell}
use Rattle.helix_values.specs.declared.kind.Kind.{Kind}

-- a place has one set at most
one_set : (sets : List SetMembers) (place : List Step) (xs ys : List Cell) → HasMembers sets place xs
    → HasMembers sets place ys → xs ≡ ys
one_set [] place xs ys first second = absurd first
one_set (set ∷ sets) place xs ys first second = ⊎_elim
    (λ here. ⊎_elim (λ there. here.1 ∙ sym there.1) (λ later. absurd (later.0 here.0)) second)
    (λ later. ⊎_elim (λ there. absurd (later.0 there.0)) (λ other. one_set sets place xs ys later.1 other.1) second)
    first

set_fits : (sets : List SetMembers) (kind : Kind) (place : List Step) (made : Test) → AreSetMembers sets kind place
    → Makes (HasMembers sets place) test.InSet made → IsTestFor kind made
set_fits sets kind place made are (xs, has, is) =
    let same : are.members ≡ xs = one_set sets place are.members xs are.has has in
    subst (IsTestFor kind) (sym (is ∙ ap test.InSet (sym same))) (are.some, are.within)

test_at : (sets : List SetMembers) (place : List Step) (kind : Kind) (keyword : Keyword) (w : Json) (made : Test)
    → is_for keyword (class_of_kind kind) ≡ true → (b : Bool) → (b ≡ true → AreSetMembers sets kind place)
    → MatchBool b (Makes (HasMembers sets place) test.InSet made) (GivesTest kind keyword w made)
    → IsTestFor kind made
test_at sets place kind keyword w made for true file gives = set_fits sets kind place made (file refl) gives
test_at sets place kind keyword w made for false file gives = test_fits kind keyword w made for gives

module _ (fields : List Field) (sets : List SetMembers) where
  atom_fits : (prefix : List Step) (v : Json) (keyword : Keyword) (a : FieldTest)
      → IsSound fields sets prefix role.One v → form_in v ≡ Some (form.Atom keyword)
      → GivesAtom fields sets prefix (members_of v) keyword a → IsConstraintFor fields (Atom a)
  atom_fits prefix v keyword a sound is gives =
      let its : NamedField fields (value_of (codes "field") (members_of v)) a.field =
      named fields sets prefix v sound keyword is a.field gives.field in
      let given : IsSomeAnd (value_of (word_of keyword) (members_of v))
      (λ w. GivesTestAt sets (at_key prefix (word_of keyword)) its.field.kind keyword w a.test) =
      some_and (kind_by fields (value_of (codes "field") (members_of v)))
      (λ kind. IsSomeAnd (value_of (word_of keyword) (members_of v))
      (λ w. GivesTestAt sets (at_key prefix (word_of keyword)) kind keyword w a.test)) its.field.kind its.kind_is
      gives.test in
      let there = some_of (value_of (word_of keyword) (members_of v))
      (λ w. GivesTestAt sets (at_key prefix (word_of keyword)) its.field.kind keyword w a.test) given in (
        its.within,
        if_some (slice_get fields a.field) (λ field. IsTestFor field.kind a.test) its.field its.at
            (test_at sets (at_key prefix (word_of keyword)) its.field.kind keyword there.0 a.test
            (for_field fields sets prefix v sound keyword is a.field gives.field) (names_set_file keyword there.0)
            (file_members fields sets prefix v sound keyword is a.field gives.field there.0 there.1) there.2),
      )

  related_fits : (prefix : List Step) (v : Json) (keyword : FieldKeyword) (r : Relation)
      → IsSound fields sets prefix role.One v → form_in v ≡ Some (form.Related keyword)
      → GivesRelation fields (members_of v) keyword r → IsConstraintFor fields (Related r)
  related_fits prefix v keyword r sound is gives = relation_for fields (members_of v) keyword r
      (has_form_of (members_of v) (form.Related keyword) is) (unbroken_object fields sets prefix v sound) gives

  all_fit : (items : List Json) (cs : List Constraint) → OfEach (λ v c. IsConstraintFor fields c) items cs
      → AllByRecursion (IsConstraintFor fields) cs
  all_fit [] [] each = tt
  all_fit [] (c ∷ cs) each = absurd each
  all_fit (item ∷ items) [] each = absurd each
  all_fit (item ∷ items) (c ∷ cs) each = (each.0, all_fit items cs each.1)

  kept : IsKept fields sets (λ v c. IsConstraintFor fields c)
  kept = record {
    atom = atom_fits;
    related = related_fits;
    negation = λ v w c is there fits. fits_not fields c fits;
    all = λ v w cs is there list some fit. fits_all fields cs some (all_fit _ cs fit);
    any = λ v w cs is there list some fit. fits_any fields cs some (all_fit _ cs fit);
    condition = λ v a b c d is one two first second. fits_if fields c d first second;
    other = λ v a b e c d x is one two three first second third. fits_else fields c d x first second third;
  }

  pub constraints_fit : (v : Json) (cs : List Constraint) → IsUnbrokenProfile fields v → AreFilled fields sets v
      → GivesConstraints fields sets v cs → AllByRecursion (IsConstraintFor fields) cs
  constraints_fit v cs unbroken filled given = all_fit (constraints_of v) cs
      (of_profile fields sets (λ w c. IsConstraintFor fields c) kept v unbroken filled cs given)
