-- What a value gives, by its members or its items.
use Rattle.std.proofs.Common.{◌≡◌, ◌≢◌, ◌↔◌, ℕ, ◌+◌, Bool, true, false, MatchBool, if◌then◌else◌, List, [], ◌∷◌, Option, Some, None, codes, refl, sym, ◌∙◌, ap, subst}
use Rattle.std.specs.Option.{IsSomeAnd}
use Rattle.std.specs.Str.{bytes_eq}
use Rattle.helix_constraints.specs.Rules.{form_in}
use Rattle.helix_json.specs.declared.value.Json.{Json, Row_of-Json, Row_of-Member}
use Rattle.helix_json.specs.declared.value.Json as json
use Rattle.helix_json.specs.declared.value.Member.{Member}
use Rattle.helix_keywords.specs.Forms.{form_of, has_form, key_sets}
use Rattle.helix_keywords.specs.declared.form.Form.{Form}
use Rattle.helix_keywords.specs.declared.form.Form.TheVariants as form
use Rattle.helix_places.specs.Members.{is_list, items_of, listed_items, listed_members, members_of, value_of}
use Rattle.helix_places.specs.declared.place.Step.{Step}
use Rattle.helix_profile.specs.declared.constraint.Constraint.{Constraint}
use Rattle.helix_profile.specs.declared.field.Field.{Field}
use Rattle.helix_readings.specs.Given.{AreGiven, GivesByForm, GivesConstraint, GivesEach, GivesList, GivesOperand, GivesOperands, at_index, at_key}
use Rattle.helix_readings.specs.Inner.Operands.{MembersGive, OperandGives, OperandsGive}
use Rattle.helix_readings.specs.declared.sets.SetMembers.{SetMembers}

pub no_form : form_of [] ≡ None
unfolding form_of has_form key_sets
no_form = refl

abbrev both_ways : {A B : Type 0} → A ≡ B → A ↔ B
both_ways e = ((λ a. subst (λ T. T) e a), (λ b. subst (λ T. T) (sym e) b))

found_or : (P : Json → Type 0) (b : Bool) (v : Json) (rest : Option Json)
    → MatchBool b (P v) (IsSomeAnd rest P) ≡ IsSomeAnd (if b then Some v else rest) P
found_or P true v rest = refl
found_or P false v rest = refl

module _ (fields : List Field) (sets : List SetMembers) where
  operand_is : {n : _} (place : List Step) (key : List ℕ) (row : Row_of-Member n) (c : Constraint)
      → GivesOperand fields sets place key row c ≡ OperandGives fields sets place (listed_members row) key c
  operand_is place key json.end_of-Member c = refl
  operand_is place key (json.more_of-Member other v row) c =
      ap (λ T. MatchBool (bytes_eq other key) (GivesConstraint fields sets (at_key place key) v c) T)
      (operand_is place key row c)
      ∙ found_or (λ w. GivesConstraint fields sets (at_key place key) w c) (bytes_eq other key) v
      (value_of key (listed_members row))

  operands_are : {n : _} (place : List Step) (key : List ℕ) (row : Row_of-Member n) (cs : List Constraint)
      → GivesOperands fields sets place key row cs ≡ OperandsGive fields sets place (listed_members row) key cs
  operands_are place key json.end_of-Member cs = refl
  operands_are place key (json.more_of-Member other v row) cs =
      ap (λ T. MatchBool (bytes_eq other key) (GivesList fields sets (at_key place key) v cs) T)
      (operands_are place key row cs)
      ∙ found_or (λ w. GivesList fields sets (at_key place key) w cs) (bytes_eq other key) v
      (value_of key (listed_members row))

  each_is : {n : _} (place : List Step) (index : ℕ) (row : Row_of-Json n) (cs : List Constraint)
      → GivesEach fields sets place index row cs ≡ AreGiven fields sets place index (listed_items row) cs
  each_is place index json.end_of-Json [] = refl
  each_is place index json.end_of-Json (c ∷ cs) = refl
  each_is place index (json.more_of-Json item row) [] = refl
  each_is place index (json.more_of-Json item row) (c ∷ cs) =
      ap (λ T. GivesConstraint fields sets (at_index place index) item c × T) (each_is place (index + 1) row cs)

  -- two ways to say what operands give
  module _ (place : List Step) (members : List Member) (One Other : List ℕ → Constraint → Type 0)
      (Many Others : List ℕ → List Constraint → Type 0) (one : (key : List ℕ) (c : Constraint) → One key c → Other key c)
      (many : (key : List ℕ) (cs : List Constraint) → Many key cs → Others key cs)
    where
      by_form : (o : Option Form) (c : Constraint) → GivesByForm fields sets place members One Many o c
          → GivesByForm fields sets place members Other Others o c
      by_form None c gives = gives
      by_form (Some (form.Atom keyword)) c gives = gives
      by_form (Some (form.Related keyword)) c gives = gives
      by_form (Some form.Not) c (negated, gives, is) = (negated, one (codes "not") negated gives, is)
      by_form (Some form.AllOf) c (parts, give, is) = (parts, many (codes "allOf") parts give, is)
      by_form (Some form.AnyOf) c (parts, give, is) = (parts, many (codes "anyOf") parts give, is)
      by_form (Some form.If) c (condition, first, (consequent, second, is)) =
          (condition, one (codes "if") condition first, (consequent, one (codes "then") consequent second, is))
      by_form (Some form.IfElse) c (condition, first, (consequent, second, (otherwise, third, is))) = (
        condition,
        one (codes "if") condition first,
        (consequent, one (codes "then") consequent second, (otherwise, one (codes "else") otherwise third, is)),
      )

  nothing : (place : List Step) (c : Constraint) → ¬ (MembersGive fields sets place [] (form_of []) c)
  nothing place c gives = let Q : Option Form → Type 0 = λ o. MembersGive fields sets place [] o c in
      subst Q no_form gives

  -- a constraint
  pub gives_members : (place : List Step) (v : Json) (c : Constraint)
      → GivesConstraint fields sets place v c ↔ MembersGive fields sets place (members_of v) (form_in v) c
  gives_members place json.Null c = ((λ g. absurd g), nothing place c)
  gives_members place (json.Bool b) c = ((λ g. absurd g), nothing place c)
  gives_members place (json.Number text) c = ((λ g. absurd g), nothing place c)
  gives_members place (json.Str text) c = ((λ g. absurd g), nothing place c)
  gives_members place (json.List' shape items) c = ((λ g. absurd g), nothing place c)
  gives_members place (json.Object' shape row) c = (
    (λ g. by_form place (listed_members row) _ _ _ _ (λ key part. (both_ways (operand_is place key row part)).0)
        (λ key parts. (both_ways (operands_are place key row parts)).0) (form_of (listed_members row)) c g),
    (λ g. by_form place (listed_members row) _ _ _ _ (λ key part. (both_ways (operand_is place key row part)).1)
        (λ key parts. (both_ways (operands_are place key row parts)).1) (form_of (listed_members row)) c g),
  )

  -- the constraints of a list that isn't empty
  abbrev pub ListGives : List Step → Json → List Constraint → Type 0
  ListGives place v cs = (is_list v ≡ true) × (cs ≢ []) × AreGiven fields sets place 0 (items_of v) cs

  no_list : (b : Bool) (A : Type 0) → b ≡ false → b ≡ true → A
  no_list b A is_not is = absurd (let both : false ≡ true = sym is_not ∙ is in cc)

  pub gives_items : (place : List Step) (v : Json) (cs : List Constraint)
      → GivesList fields sets place v cs ↔ ListGives place v cs
  gives_items place json.Null cs = ((λ g. absurd g), (λ g. no_list false ⊥ refl g.0))
  gives_items place (json.Bool b) cs = ((λ g. absurd g), (λ g. no_list false ⊥ refl g.0))
  gives_items place (json.Number text) cs = ((λ g. absurd g), (λ g. no_list false ⊥ refl g.0))
  gives_items place (json.Str text) cs = ((λ g. absurd g), (λ g. no_list false ⊥ refl g.0))
  gives_items place (json.List' shape row) cs = (
    (λ g. (refl, g.0, (both_ways (each_is place 0 row cs)).0 g.1)),
    (λ g. (g.1, (both_ways (each_is place 0 row cs)).1 g.2)),
  )
  gives_items place (json.Object' shape row) cs = ((λ g. absurd g), (λ g. no_list false ⊥ refl g.0))
