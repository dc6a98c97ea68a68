-- What a sound atomic constraint, and a sound relation, has itself.
use Rattle.std.proofs.Common.{◌≡◌, inl, ℕ, true, List, [], ◌∷◌, Option, Some, IfSome, slice_get, codes, refl, ◌∙◌, ap, subst}
use Rattle.std.specs.Option.{IsSomeAnd}
use Rattle.helix_constraints.specs.Rules.{form_in}
use Rattle.helix_constraints.specs.declared.role.Role.TheVariants as role
use Rattle.helix_json.specs.declared.value.Json.{Json}
use Rattle.helix_json.specs.declared.value.Json.TheViews as view
use Rattle.helix_json.specs.declared.value.Member.{Member}
use Rattle.helix_keywords.specs.FormLaws.{atom_has_keyword, has_form_of}
use Rattle.helix_keywords.specs.Forms.{form_of, has_form}
use Rattle.helix_keywords.specs.Keywords.{is_for, word_of}
use Rattle.helix_keywords.specs.declared.form.Form.TheVariants as form
use Rattle.helix_keywords.specs.declared.keyword.Keyword.{Keyword}
use Rattle.helix_operands.specs.Rules.{BreaksOperand, IsUnbroken as IsUnbrokenOperand}
use Rattle.helix_operands.specs.Tests.{names_set_file}
use Rattle.helix_places.specs.Members.{members_of, value_of}
use Rattle.helix_places.specs.PlaceLaws.{and_some}
use Rattle.helix_places.specs.Places.{Here, InMember}
use Rattle.helix_places.specs.ViewLaws.{members_of_object}
use Rattle.helix_places.specs.declared.place.Step.{Step}
use Rattle.helix_places.specs.declared.place.Step.TheVariants as step
use Rattle.helix_profile.specs.declared.field.Field.{Field}
use Rattle.helix_readings.specs.Given.{at_key}
use Rattle.helix_readings.specs.declared.sets.SetMembers.{SetMembers}
use Rattle.helix_references.specs.AtomLaws.{atom_for, has_field}
use Rattle.helix_references.specs.Naming.{index_by, kind_by}
use Rattle.helix_references.specs.RefusalLaws.{some_value}
use Rattle.helix_references.specs.RelationLaws.{NamedField, named_field}
use Rattle.helix_references.specs.Rules.{Breaks, IsFaulty, IsUnbroken}
use Rattle.helix_references.specs.declared.rule.ReferenceRule.{ReferenceRule}
use Rattle.helix_rules.specs.Atoms.{InOperand, atom_in, atom_of}
use Rattle.helix_rules.specs.declared.atom.Atom.{Atom}
use Rattle.helix_values.specs.Class.{class_of_kind}
use Rattle.helix_validity.proofs.Sound.{IsSound, itself}
use Rattle.helix_validity.specs.Mentions.{AreSetMembers}

-- of something that there is
pub some_if : {A : Type 0} (o : Option A) (P : A → Type 0) (x : A) → o ≡ Some x → IfSome o P → P x
some_if o P x is holds = let Q : Option _ → Type 0 = λ q. IfSome q P in subst Q is holds

-- what breaks a rule in an object of the same members
same_break : (fields : List Field) (v : Json) (broken : ReferenceRule) (place : List Step)
    → Breaks broken fields (view.Object (members_of v)) place → Breaks broken fields v place
same_break fields v broken [] h = absurd h
same_break fields v broken (step.Item index ∷ place) h = absurd h
same_break fields v broken (step.Member key ∷ place) h =
    let Q : List Member → Type 0 = λ l. (place ≡ [])
    × IsSomeAnd (value_of key l) (IsFaulty broken fields l (form_of l) key) in
    subst Q (members_of_object (members_of v)) h

module _ (fields : List Field) (sets : List SetMembers) (prefix : List Step) (v : Json)
    (sound : IsSound fields sets prefix role.One v)
  where
    pub unbroken_object : IsUnbroken fields (view.Object (members_of v))
    unbroken_object broken place h =
        sound.references broken place (itself (Breaks broken fields) v place (same_break fields v broken place h))

    module _ (keyword : Keyword) (is : form_in v ≡ Some (form.Atom keyword)) where
      has : has_form (form.Atom keyword) (members_of v) ≡ true
      has = has_form_of (members_of v) (form.Atom keyword) is

      -- its operand
      pub operand : (w : Json) × (value_of (word_of keyword) (members_of v) ≡ Some w)
      operand = some_value (value_of (word_of keyword) (members_of v)) (atom_has_keyword keyword (members_of v) has)

      -- its field
      pub index : (i : ℕ) × (index_by fields (value_of (codes "field") (members_of v)) ≡ Some i)
      index = some_value (index_by fields (value_of (codes "field") (members_of v)))
          (has_field fields (members_of v) keyword has unbroken_object)

      module _ (i : ℕ) (names : index_by fields (value_of (codes "field") (members_of v)) ≡ Some i) where
        pub named : NamedField fields (value_of (codes "field") (members_of v)) i
        named = named_field fields (value_of (codes "field") (members_of v)) i names

        pub for_field : is_for keyword (class_of_kind named.field.kind) ≡ true
        for_field = some_if (slice_get fields i) (λ field. is_for keyword (class_of_kind field.kind) ≡ true)
            named.field named.at (atom_for fields (members_of v) keyword has unbroken_object i names).1

        abbrev its_atom : Atom
        its_atom = record { kind = named.field.kind; keyword = keyword }

        atom_is : atom_in fields v ≡ Some its_atom
        atom_is = ap (λ f. atom_of f (kind_by fields (value_of (codes "field") (members_of v)))) is
            ∙ ap (atom_of (Some (form.Atom keyword))) named.kind_is

        module _ (w : Json) (value_is : value_of (word_of keyword) (members_of v) ≡ Some w) where
          -- it breaks no rule
          pub unbroken_operand : IsUnbrokenOperand named.field.kind keyword w
          unbroken_operand broken place h =
              let there : InOperand broken its_atom v (step.Member (word_of keyword) ∷ place) = (
                refl,
                and_some (value_of (word_of keyword) (members_of v))
                    (λ u. BreaksOperand broken named.field.kind keyword u place) w value_is h,
              ) in
              sound.operands broken (step.Member (word_of keyword) ∷ place)
              (inl (and_some (atom_in fields v)
              (λ atom. InOperand broken atom v (step.Member (word_of keyword) ∷ place)) its_atom atom_is there))

          -- a set file that it names has its members
          pub file_members : names_set_file keyword w ≡ true
              → AreSetMembers sets named.field.kind (at_key prefix (word_of keyword))
          file_members file = sound.filled named.field.kind (step.Member (word_of keyword) ∷ [])
              (inl (and_some (atom_in fields v)
              (λ atom. (atom.kind ≡ named.field.kind) × InMember (word_of atom.keyword)
              (Here (λ u. names_set_file atom.keyword u ≡ true)) v (step.Member (word_of keyword) ∷ [])) its_atom
              atom_is (
                refl,
                (
                  refl,
                  and_some (value_of (word_of keyword) (members_of v))
                      (λ u. Here (λ x. names_set_file keyword x ≡ true) u []) w value_is (refl, file),
                ),
              )))
