-- A value gives at most one constraint. Lemmas for this crate and those above.
use Rattle.std.proofs.Common.{◌≡◌, ℕ, ◌+◌, Bool, true, false, MatchBool, List, [], ◌∷◌, Option, Some, None, codes, refl, sym, ◌∙◌, ap, ⊎_elim}
use Rattle.std.specs.Option.{IsSomeAnd}
use Rattle.std.specs.Str.{bytes_eq}
use Rattle.helix_json.specs.declared.value.Json.{Json, Row_of-Json, Row_of-Member}
use Rattle.helix_json.specs.declared.value.Json as json
use Rattle.helix_json.specs.declared.value.Member.{Member}
use Rattle.helix_keywords.specs.Forms.{form_of}
use Rattle.helix_keywords.specs.Keywords.{word_of}
use Rattle.helix_keywords.specs.declared.form.Form.{Form}
use Rattle.helix_keywords.specs.declared.form.Form.TheVariants as form
use Rattle.helix_keywords.specs.declared.keyword.Keyword.{Keyword}
use Rattle.helix_operands.specs.MadeLaws.{one_made}
use Rattle.helix_operands.specs.Tests.{GivesTest, Makes, names_set_file}
use Rattle.helix_operands.specs.UniqueLaws.{one_test}
use Rattle.helix_places.specs.Members.{listed_members, value_of}
use Rattle.helix_places.specs.declared.place.Step.{Step}
use Rattle.helix_profile.specs.declared.constraint.Constraint.{Constraint, Atom, Related}
use Rattle.helix_profile.specs.declared.constraint.Constraint.TheViews.{Not, AllOf, AnyOf, If}
use Rattle.helix_profile.specs.declared.field.Field.{Field}
use Rattle.helix_profile.specs.declared.test.Atom.{Atom as FieldTest}
use Rattle.helix_profile.specs.declared.test.Test.{Test}
use Rattle.helix_profile.specs.declared.test.Test.TheVariants as test
use Rattle.helix_references.specs.Naming.{kind_by}
use Rattle.helix_references.specs.UniqueLaws.{one_relation}
use Rattle.helix_values.specs.declared.kind.Kind.{Kind}
use Rattle.helix_readings.specs.Given.{AreGiven, GivesAtom, GivesByForm, GivesConstraint, GivesEach, GivesList, GivesOperand, GivesOperands, GivesTestAt, at_index, at_key}
use Rattle.helix_readings.specs.Sets.{HasMembers}
use Rattle.helix_readings.specs.declared.sets.SetMembers.{SetMembers}

abbrev IsOne : {X : Type 0} → (X → Type 0) → Type 0
IsOne {X} P = (x y : X) → P x → P y → x ≡ y

one_set : (sets : List SetMembers) (place : List Step) → IsOne (HasMembers sets place)
one_set [] place x y first second = absurd first
one_set (set ∷ sets) place x y first second = ⊎_elim
    (λ here. ⊎_elim (λ there. here.1 ∙ sym there.1) (λ later. absurd (later.0 here.0)) second)
    (λ later. ⊎_elim (λ there. absurd (later.0 there.0)) (λ other. one_set sets place x y later.1 other.1) second) first

either_one : {X : Type 0} (b : Bool) (P Q : X → Type 0) → IsOne P → IsOne Q → IsOne (λ x. MatchBool b (P x) (Q x))
either_one true P Q one other = one
either_one false P Q one other = other

one_test_at : (sets : List SetMembers) (place : List Step) (kind : Kind) (keyword : Keyword) (v : Json)
    → IsOne (GivesTestAt sets place kind keyword v)
one_test_at sets place kind keyword v = either_one (names_set_file keyword v)
    (Makes (HasMembers sets place) test.InSet) (GivesTest kind keyword v)
    (one_made (HasMembers sets place) test.InSet (one_set sets place)) (one_test kind keyword v)

-- of one thing that there is
both_hold : {A : Type 0} (R : Type 0) (o : Option A) (P Q : A → Type 0) → ((x : A) → P x → Q x → R) → IsSomeAnd o P
    → IsSomeAnd o Q → R
both_hold R None P Q f first second = absurd first
both_hold R (Some x) P Q f first second = f x first second

same_atoms : (a b : FieldTest) → a.field ≡ b.field → a.test ≡ b.test → a ≡ b
same_atoms a b fields tests =
    let left : ℕ → FieldTest = λ n. record { field = n; test = a.test } in
    let right : Test → FieldTest = λ t. record { field = b.field; test = t } in ap left fields ∙ ap right tests

module _ (fields : List Field) (sets : List SetMembers) where
  one_atom : (place : List Step) (members : List Member) (keyword : Keyword)
      → IsOne (GivesAtom fields sets place members keyword)
  one_atom place members keyword a b first second =
      let both : Some a.field ≡ Some b.field = sym first.field ∙ second.field in
      let named : a.field ≡ b.field = cc in
      same_atoms a b named (both_hold (a.test ≡ b.test)
      (kind_by fields (value_of (codes "field") members)) _ _
      (λ kind. both_hold (a.test ≡ b.test) (value_of (word_of keyword) members) _ _
      (λ v. one_test_at sets (at_key place (word_of keyword)) kind keyword v a.test b.test)) first.test second.test)

  -- what operands give decides what the object gives
  module _ (place : List Step) (members : List Member) (One : List ℕ → Constraint → Type 0)
      (Many : List ℕ → List Constraint → Type 0) (one : (key : List ℕ) → IsOne (One key))
      (many : (key : List ℕ) → IsOne (Many key))
    where
      one_by_form : (o : Option Form) → IsOne (GivesByForm fields sets place members One Many o)
      one_by_form None c d first second = absurd first
      one_by_form (Some (form.Atom keyword)) c d (a, gives, is) (b, other, same) =
          is ∙ (ap Atom (one_atom place members keyword a b gives other) ∙ sym same)
      one_by_form (Some (form.Related keyword)) c d (a, gives, is) (b, other, same) =
          is ∙ (ap Related (one_relation fields members keyword a b gives other) ∙ sym same)
      one_by_form (Some form.Not) c d (a, gives, is) (b, other, same) =
          is ∙ (ap Not (one (codes "not") a b gives other) ∙ sym same)
      one_by_form (Some form.AllOf) c d (a, give, is) (b, other, same) =
          is ∙ (ap AllOf (many (codes "allOf") a b give other) ∙ sym same)
      one_by_form (Some form.AnyOf) c d (a, give, is) (b, other, same) =
          is ∙ (ap AnyOf (many (codes "anyOf") a b give other) ∙ sym same)
      one_by_form (Some form.If) c d (a, gives, (e, second, is)) (b, other, (f, next, same)) =
          is ∙ (ap (λ x. If x e None) (one (codes "if") a b gives other)
          ∙ (ap (λ x. If b x None) (one (codes "then") e f second next) ∙ sym same))
      one_by_form (Some form.IfElse) c d (a, gives, (e, second, (x, last, is))) (b, other, (f, next, (y, end, same))) =
          is ∙ (ap (λ n. If n e (Some x)) (one (codes "if") a b gives other)
          ∙ (ap (λ n. If b n (Some x)) (one (codes "then") e f second next)
          ∙ (ap (λ n. If b f (Some n)) (one (codes "else") x y last end) ∙ sym same)))

  same_cons : (c d : Constraint) (cs ds : List Constraint) → c ≡ d → cs ≡ ds → c ∷ cs ≡ d ∷ ds
  same_cons c d cs ds first rest = ap (λ x. x ∷ cs) first ∙ ap (λ xs. d ∷ xs) rest

  mutual
    pub one_constraint : (place : List Step) (v : Json) → IsOne (GivesConstraint fields sets place v)
    one_constraint place json.Null c d first second = absurd first
    one_constraint place (json.Bool b) c d first second = absurd first
    one_constraint place (json.Number text) c d first second = absurd first
    one_constraint place (json.Str text) c d first second = absurd first
    one_constraint place (json.List' shape items) c d first second = absurd first
    one_constraint place (json.Object' shape members) c d first second = one_by_form place (listed_members members)
        (λ key part. GivesOperand fields sets place key members part)
        (λ key parts. GivesOperands fields sets place key members parts)
        (λ key a b. one_operand place key members a b) (λ key a b. one_list_operand place key members a b)
        (form_of (listed_members members)) c d first second

    one_operand : {n : _} (place : List Step) (key : List ℕ) (members : Row_of-Member n)
        → IsOne (GivesOperand fields sets place key members)
    one_operand place key json.end_of-Member c d first second = absurd first
    one_operand place key (json.more_of-Member other v members) c d first second = either_one (bytes_eq other key)
        (GivesConstraint fields sets (at_key place key) v) (GivesOperand fields sets place key members)
        (λ a b. one_constraint (at_key place key) v a b) (λ a b. one_operand place key members a b) c d first second

    one_list_operand : {n : _} (place : List Step) (key : List ℕ) (members : Row_of-Member n)
        → IsOne (GivesOperands fields sets place key members)
    one_list_operand place key json.end_of-Member c d first second = absurd first
    one_list_operand place key (json.more_of-Member other v members) c d first second =
        either_one (bytes_eq other key) (GivesList fields sets (at_key place key) v)
        (GivesOperands fields sets place key members) (λ a b. one_list (at_key place key) v a b)
        (λ a b. one_list_operand place key members a b) c d first second

    one_list : (place : List Step) (v : Json) → IsOne (GivesList fields sets place v)
    one_list place json.Null c d first second = absurd first
    one_list place (json.Bool b) c d first second = absurd first
    one_list place (json.Number text) c d first second = absurd first
    one_list place (json.Str text) c d first second = absurd first
    one_list place (json.List' shape items) c d first second = each_one place 0 items c d first.1 second.1
    one_list place (json.Object' shape members) c d first second = absurd first

    each_one : {n : _} (place : List Step) (index : ℕ) (items : Row_of-Json n)
        → IsOne (GivesEach fields sets place index items)
    each_one place index json.end_of-Json [] [] first second = refl
    each_one place index json.end_of-Json [] (d ∷ ds) first second = absurd second
    each_one place index json.end_of-Json (c ∷ cs) ds first second = absurd first
    each_one place index (json.more_of-Json item items) [] ds first second = absurd first
    each_one place index (json.more_of-Json item items) (c ∷ cs) [] first second = absurd second
    each_one place index (json.more_of-Json item items) (c ∷ cs) (d ∷ ds) first second = same_cons c d cs ds
        (one_constraint (at_index place index) item c d first.0 second.0)
        (each_one place (index + 1) items cs ds first.1 second.1)

  -- the same of a list of items
  pub one_given : (place : List Step) (index : ℕ) (items : List Json) → IsOne (AreGiven fields sets place index items)
  one_given place index [] [] [] first second = refl
  one_given place index [] [] (d ∷ ds) first second = absurd second
  one_given place index [] (c ∷ cs) ds first second = absurd first
  one_given place index (item ∷ items) [] ds first second = absurd first
  one_given place index (item ∷ items) (c ∷ cs) [] first second = absurd second
  one_given place index (item ∷ items) (c ∷ cs) (d ∷ ds) first second = same_cons c d cs ds
      (one_constraint (at_index place index) item c d first.0 second.0)
      (one_given place (index + 1) items cs ds first.1 second.1)
