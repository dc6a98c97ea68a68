-- The constraint that a JSON value gives, with the declared fields, the members of set files and the value's place.
use Rattle.std.specs.Prelude.{◌≡◌, ◌≢◌, ℕ, ◌+◌, MatchBool, List, [], ◌∷◌, ◌++◌, Option, Some, None, IsSomeAnd, bytes_eq, codes}
use Rattle.helix_json.specs.declared.value.Json.{Json, Row_of-Json, Row_of-Member}
use Rattle.helix_json.specs.declared.value.Json as json
use Rattle.helix_json.specs.declared.value.Member.{Member}
use Rattle.helix_keywords.specs.Forms.{form_of}
use Rattle.helix_keywords.specs.Keywords.{word_of}
use Rattle.helix_keywords.specs.declared.form.Form.{Form}
use Rattle.helix_keywords.specs.declared.form.Form.TheVariants as form
use Rattle.helix_keywords.specs.declared.keyword.FieldKeyword.{FieldKeyword}
use Rattle.helix_keywords.specs.declared.keyword.Keyword.{Keyword}
use Rattle.helix_operands.specs.Tests.{GivesTest, Makes, names_set_file}
use Rattle.helix_places.specs.Members.{listed_members, value_of}
use Rattle.helix_places.specs.declared.place.Step.{Step}
use Rattle.helix_places.specs.declared.place.Step.TheVariants as step
use Rattle.helix_profile.specs.declared.constraint.Constraint.{Constraint, Atom, Related}
use Rattle.helix_profile.specs.declared.constraint.Constraint.TheViews.{Not, AllOf, AnyOf, If}
use Rattle.helix_profile.specs.declared.field.Field.{Field}
use Rattle.helix_profile.specs.declared.relation.Relation.{Relation}
use Rattle.helix_profile.specs.declared.test.Atom.{Atom as FieldTest}
use Rattle.helix_profile.specs.declared.test.Test.{Test}
use Rattle.helix_profile.specs.declared.test.Test.TheVariants as test
use Rattle.helix_references.specs.Naming.{index_by, kind_by}
use Rattle.helix_references.specs.Relations.{GivesRelation}
use Rattle.helix_values.specs.declared.kind.Kind.{Kind}
use Rattle.helix_readings.specs.Sets.{HasMembers}
use Rattle.helix_readings.specs.declared.sets.SetMembers.{SetMembers}

-- The test that the operand of a keyword gives, at its place: the name of a set file gives the set of its members.
abbrev pub GivesTestAt : List SetMembers → List Step → Kind → Keyword → Json → Test → Type 0
GivesTestAt sets place kind keyword v made =
    MatchBool (names_set_file keyword v) (Makes (HasMembers sets place) test.InSet made) (GivesTest kind keyword v made)

-- the place of the member with a key
abbrev pub at_key : List Step → List ℕ → List Step
at_key place key = place ++ step.Member key ∷ []

-- the place of the item with an index
abbrev pub at_index : List Step → ℕ → List Step
at_index place index = place ++ step.Item index ∷ []

-- the members of an object at a place give the test of a field with a keyword
pub record GivesAtom (fields : List Field) (sets : List SetMembers) (place : List Step) (members : List Member)
    (keyword : Keyword) (atom : FieldTest) : Type 0
  where
    pub field : index_by fields (value_of (codes "field") members) ≡ Some atom.field
    pub test : IsSomeAnd (kind_by fields (value_of (codes "field") members))
        (λ kind. IsSomeAnd (value_of (word_of keyword) members)
        (λ v. GivesTestAt sets (at_key place (word_of keyword)) kind keyword v atom.test))

-- the atomic constraint of a test that is given
abbrev pub GivesAtomic : List Field → List SetMembers → List Step → List Member → Keyword → Constraint → Type 0
GivesAtomic fields sets place members keyword c =
    (atom : FieldTest) × GivesAtom fields sets place members keyword atom × (c ≡ Atom atom)

-- the constraint of a relation that is given
abbrev pub GivesRelated : List Field → List Member → FieldKeyword → Constraint → Type 0
GivesRelated fields members keyword c =
    (relation : Relation) × GivesRelation fields members keyword relation × (c ≡ Related relation)

-- Under a condition: `Operand` says what the value under a key gives as a constraint.
abbrev pub GivesThen : (List ℕ → Constraint → Type 0) → Constraint → Constraint → Type 0
GivesThen Operand condition c =
    (consequent : Constraint) × Operand (codes "then") consequent × (c ≡ If condition consequent None)

abbrev pub GivesElse : (List ℕ → Constraint → Type 0) → Constraint → Constraint → Constraint → Type 0
GivesElse Operand condition consequent c =
    (otherwise : Constraint) × Operand (codes "else") otherwise × (c ≡ If condition consequent (Some otherwise))

abbrev pub GivesThenElse : (List ℕ → Constraint → Type 0) → Constraint → Constraint → Type 0
GivesThenElse Operand condition c =
    (consequent : Constraint) × Operand (codes "then") consequent × GivesElse Operand condition consequent c

-- The members of an object at a place give the constraint, by their form. `Operands` says what the value under a key
-- gives as a list of constraints.
abbrev pub GivesByForm : List Field → List SetMembers → List Step → List Member → (List ℕ → Constraint → Type 0)
    → (List ℕ → List Constraint → Type 0) → Option Form → Constraint → Type 0
GivesByForm fields sets place members Operand Operands None c = ⊥
GivesByForm fields sets place members Operand Operands (Some (form.Atom keyword)) c =
    GivesAtomic fields sets place members keyword c
GivesByForm fields sets place members Operand Operands (Some (form.Related keyword)) c =
    GivesRelated fields members keyword c
GivesByForm fields sets place members Operand Operands (Some form.Not) c =
    (negated : Constraint) × Operand (codes "not") negated × (c ≡ Not negated)
GivesByForm fields sets place members Operand Operands (Some form.AllOf) c =
    (parts : List Constraint) × Operands (codes "allOf") parts × (c ≡ AllOf parts)
GivesByForm fields sets place members Operand Operands (Some form.AnyOf) c =
    (parts : List Constraint) × Operands (codes "anyOf") parts × (c ≡ AnyOf parts)
GivesByForm fields sets place members Operand Operands (Some form.If) c =
    (condition : Constraint) × Operand (codes "if") condition × GivesThen Operand condition c
GivesByForm fields sets place members Operand Operands (Some form.IfElse) c =
    (condition : Constraint) × Operand (codes "if") condition × GivesThenElse Operand condition c

abbrev mutual
  -- only an object gives a constraint
  pub GivesConstraint : List Field → List SetMembers → List Step → Json → Constraint → Type 0
  GivesConstraint fields sets place json.Null c = ⊥
  GivesConstraint fields sets place (json.Bool b) c = ⊥
  GivesConstraint fields sets place (json.Number text) c = ⊥
  GivesConstraint fields sets place (json.Str text) c = ⊥
  GivesConstraint fields sets place (json.List' shape items) c = ⊥
  GivesConstraint fields sets place (json.Object' shape members) c =
      GivesByForm fields sets place (listed_members members) (λ key part. GivesOperand fields sets place key members part)
      (λ key parts. GivesOperands fields sets place key members parts) (form_of (listed_members members)) c

  -- the value of the first member with the key gives the constraint
  pub GivesOperand : {n : _} → List Field → List SetMembers → List Step → List ℕ → Row_of-Member n → Constraint → Type 0
  GivesOperand fields sets place key json.end_of-Member c = ⊥
  GivesOperand fields sets place key (json.more_of-Member other v members) c = MatchBool (bytes_eq other key)
      (GivesConstraint fields sets (at_key place key) v c) (GivesOperand fields sets place key members c)

  -- the value of the first member with the key gives the constraints
  pub GivesOperands : {n : _} → List Field → List SetMembers → List Step → List ℕ → Row_of-Member n → List Constraint
      → Type 0
  GivesOperands fields sets place key json.end_of-Member parts = ⊥
  GivesOperands fields sets place key (json.more_of-Member other v members) parts = MatchBool (bytes_eq other key)
      (GivesList fields sets (at_key place key) v parts) (GivesOperands fields sets place key members parts)

  -- a list that isn't empty gives a constraint for each item
  pub GivesList : List Field → List SetMembers → List Step → Json → List Constraint → Type 0
  GivesList fields sets place json.Null parts = ⊥
  GivesList fields sets place (json.Bool b) parts = ⊥
  GivesList fields sets place (json.Number text) parts = ⊥
  GivesList fields sets place (json.Str text) parts = ⊥
  GivesList fields sets place (json.List' shape items) parts =
      (parts ≢ []) × GivesEach fields sets place 0 items parts
  GivesList fields sets place (json.Object' shape members) parts = ⊥

  -- each item, counted on from an index, gives a constraint
  pub GivesEach : {n : _} → List Field → List SetMembers → List Step → ℕ → Row_of-Json n → List Constraint → Type 0
  GivesEach fields sets place index json.end_of-Json [] = Unit {0}
  GivesEach fields sets place index json.end_of-Json (part ∷ parts) = ⊥
  GivesEach fields sets place index (json.more_of-Json item items) [] = ⊥
  GivesEach fields sets place index (json.more_of-Json item items) (part ∷ parts) =
      GivesConstraint fields sets (at_index place index) item part
      × GivesEach fields sets place (index + 1) items parts

-- the same of a list of items
abbrev pub AreGiven : List Field → List SetMembers → List Step → ℕ → List Json → List Constraint → Type 0
AreGiven fields sets place index [] [] = Unit {0}
AreGiven fields sets place index (item ∷ items) (part ∷ parts) =
    GivesConstraint fields sets (at_index place index) item part
    × AreGiven fields sets place (index + 1) items parts
AreGiven fields sets place index items parts = ⊥
