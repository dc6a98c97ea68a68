-- The test of a field that the members of an object give.
use Rattle.std.proofs.Common.{◌≡◌, ℕ, ◌<◌, Bool, true, MatchBool, List, length, Option, Some, None, get_or, codes, Result, IfOk, refl, sym, ◌∙◌, ap, subst}
use Rattle.std.specs.Option.{IsSomeAnd}
use Rattle.std.proofs.lemmas.Option.{slice_get_read}
use Rattle.helix_base.specs.declared.memory.Memory.{Memory}
use Rattle.helix_json.specs.declared.value.Json.{Json}
use Rattle.helix_json.specs.declared.value.Member.{Member}
use Rattle.helix_keywords.specs.Keywords.{word_of}
use Rattle.helix_keywords.specs.declared.keyword.Keyword.{Keyword}
use Rattle.helix_operands.specs.Tests.{GivesTest, Makes, names_set_file}
use Rattle.helix_operands.specs.Values.{Reads}
use Rattle.helix_places.specs.Members.{value_of}
use Rattle.helix_places.specs.PlaceLaws.{some_and, and_some}
use Rattle.helix_places.specs.declared.place.Step.{Step}
use Rattle.helix_profile.specs.declared.field.Field.{Field}
use Rattle.helix_profile.specs.declared.test.Atom.{Atom}
use Rattle.helix_profile.specs.declared.test.Test.{Test}
use Rattle.helix_profile.specs.declared.test.Test.TheVariants as test
use Rattle.helix_references.specs.Naming.{index_by, kind_by}
use Rattle.helix_references.specs.RelationLaws.{named_field}
use Rattle.helix_values.specs.declared.kind.Kind.{Kind}
use Rattle.helix_readings.specs.Given.{GivesAtom, GivesTestAt, at_key}
use Rattle.helix_readings.specs.Sets.{HasMembers}
use Rattle.helix_readings.specs.declared.sets.SetMembers.{SetMembers}

-- the name of a set file
pub file_test : (sets : List SetMembers) (inner place : List Step) (key : List ℕ) (kind : Kind) (keyword : Keyword)
    (v : Json) (b : Bool) (r : Result (Option Test) Memory) → inner ≡ at_key place key → key ≡ word_of keyword
    → b ≡ names_set_file keyword v → b ≡ true → IfOk r (Reads (Makes (HasMembers sets inner) test.InSet))
    → IfOk r (Reads (GivesTestAt sets (at_key place (word_of keyword)) kind keyword v))
file_test sets inner place key kind keyword v b r inner_is key_is named is reads =
    let P : Bool → List Step → Type 0 = λ n p. IfOk r (Reads (λ made.
    MatchBool n (Makes (HasMembers sets p) test.InSet made) (GivesTest kind keyword v made))) in
    subst (λ p. P (names_set_file keyword v) p) (inner_is ∙ ap (at_key place) key_is)
    (subst (λ n. P n inner) (sym is ∙ named) reads)

module _ (fields : List Field) (sets : List SetMembers) (place : List Step) (members : List Member)
    (keyword : Keyword)
  where
    abbrev Gives : Atom → Type 0
    Gives = GivesAtom fields sets place members keyword

    pub no_field : (o : Option ℕ) → o ≡ index_by fields (value_of (codes "field") members) → o ≡ None
        → (atom : Atom) → ¬ (Gives atom)
    no_field o is none atom gives = let both : None ≡ Some atom.field = sym none ∙ (is ∙ gives.field) in cc

    abbrev AtOperand : Test → Kind → Json → Type 0
    AtOperand made kind v = GivesTestAt sets (at_key place (word_of keyword)) kind keyword v made

    module _ (index : ℕ) (named : index_by fields (value_of (codes "field") members) ≡ Some index) where
      kind_there : (made : Test) → IsSomeAnd (kind_by fields (value_of (codes "field") members))
          (λ kind. IsSomeAnd (value_of (word_of keyword) members) (AtOperand made kind))
          → IsSomeAnd (value_of (word_of keyword) members)
          (AtOperand made (named_field fields (value_of (codes "field") members) index named).field.kind)
      kind_there made gives = some_and (kind_by fields (value_of (codes "field") members))
          (λ kind. IsSomeAnd (value_of (word_of keyword) members) (AtOperand made kind))
          (named_field fields (value_of (codes "field") members) index named).field.kind
          (named_field fields (value_of (codes "field") members) index named).kind_is gives

      pub no_operand : value_of (word_of keyword) members ≡ None → (atom : Atom) → ¬ (Gives atom)
      no_operand none atom gives =
          subst (λ o. IsSomeAnd o
          (AtOperand atom.test (named_field fields (value_of (codes "field") members) index named).field.kind))
          none (kind_there atom.test gives.test)

      module _ (field : Field) (within : index < length fields) (read : field ≡ get_or fields index field)
          (v : Json) (operand : value_of (word_of keyword) members ≡ Some v)
        where
          field_is : (named_field fields (value_of (codes "field") members) index named).field ≡ field
          field_is =
              let there = named_field fields (value_of (codes "field") members) index named in
              let both : Some there.field ≡ Some field =
              sym there.at ∙ slice_get_read fields (length fields) index field refl within read in cc

          pub no_test : ((made : Test) → ¬ (AtOperand made field.kind v)) → (atom : Atom) → ¬ (Gives atom)
          no_test none atom gives = none atom.test (some_and (value_of (word_of keyword) members)
              (AtOperand atom.test field.kind) v operand
              (subst (λ f. IsSomeAnd (value_of (word_of keyword) members) (AtOperand atom.test f.kind)) field_is
              (kind_there atom.test gives.test)))

          pub some_test : (made : Test) → AtOperand made field.kind v → Gives (record { field = index; test = made })
          some_test made gives = record {
            field = named;
            test = and_some (kind_by fields (value_of (codes "field") members))
                (λ kind. IsSomeAnd (value_of (word_of keyword) members) (AtOperand made kind)) field.kind
                ((named_field fields (value_of (codes "field") members) index named).kind_is
                ∙ ap (λ f. Some f.kind) field_is)
                (and_some (value_of (word_of keyword) members) (AtOperand made field.kind) v operand gives);
          }
