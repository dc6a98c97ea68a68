-- What an object and a list give, as code sees them. Lemmas for this crate and those above.
use Rattle.std.proofs.Common.{◌≡◌, ◌≢◌, ◌↔◌, ℕ, ◌+◌, Bool, true, false, MatchBool, List, [], ◌∷◌, Option, Some, None, if◌then◌else◌, codes, refl, sym, ◌∙◌, ap, subst}
use Rattle.std.specs.Option.{IsSomeAnd}
use Rattle.std.specs.Str.{bytes_eq}
use Rattle.helix_json.specs.declared.value.Json.{Json}
use Rattle.helix_json.specs.declared.value.Json as json
use Rattle.helix_json.specs.declared.value.Json.TheViews as view
use Rattle.helix_json.specs.declared.value.Member.{Member}
use Rattle.helix_keywords.specs.Forms.{form_of, has_form, key_sets}
use Rattle.helix_keywords.specs.declared.form.Form.{Form}
use Rattle.helix_keywords.specs.declared.form.Form.TheVariants as form
use Rattle.helix_places.specs.Members.{is_list, listed_members, members_of, value_of}
use Rattle.helix_places.specs.ViewLaws.{members_of_object}
use Rattle.helix_places.specs.declared.place.Step.{Step}
use Rattle.helix_profile.specs.declared.constraint.Constraint.{Constraint}
use Rattle.helix_profile.specs.declared.field.Field.{Field}
use Rattle.helix_readings.specs.Given.{AreGiven, GivesByForm, GivesConstraint, GivesEach, GivesList, GivesOperand, GivesOperands, at_index, at_key}
use Rattle.helix_readings.specs.Inner.Operands.{MembersGive, OperandGives, OperandsGive}
use Rattle.helix_readings.specs.declared.sets.SetMembers.{SetMembers}

module _ (fields : List Field) (sets : List SetMembers) where
  -- the items of a list
  abbrev ListGives : List Step → ℕ → Json → List Constraint → Type 0
  ListGives place index (json.List' shape items) parts = GivesEach fields sets place index items parts
  ListGives place index other parts = ⊥

  each_given : (place : List Step) (index : ℕ) (items : List Json) (parts : List Constraint)
      → ListGives place index (view.List items) parts ≡ AreGiven fields sets place index items parts
  unfolding Rattle.helix_json.specs.declared.value.Json.TheBlock.hidden-the_row-Json-0 denote.Hole.Carrier.hidden
  each_given place index [] [] = refl
  each_given place index [] (part ∷ parts) = refl
  each_given place index (item ∷ items) [] = refl
  each_given place index (item ∷ items) (part ∷ parts) =
      ap (λ T. GivesConstraint fields sets (at_index place index) item part × T)
      (each_given place (index + 1) items parts)

  list_parts : (place : List Step) (items : List Json) (parts : List Constraint)
      → GivesList fields sets place (view.List items) parts ≡ ((parts ≢ []) × ListGives place 0 (view.List items) parts)
  list_parts place items parts = refl

  pub list_gives : (place : List Step) (items : List Json) (parts : List Constraint)
      → GivesList fields sets place (view.List items) parts
      ≡ ((parts ≢ []) × AreGiven fields sets place 0 items parts)
  list_gives place items parts =
      list_parts place items parts ∙ ap (λ T. (parts ≢ []) × T) (each_given place 0 items parts)

  pub no_list_gives : (place : List Step) (v : Json) (parts : List Constraint) → is_list v ≡ false
      → ¬ (GivesList fields sets place v parts)
  no_list_gives place (json.List' shape items) parts none gives = absurd (cc)
  no_list_gives place json.Null parts none gives = gives
  no_list_gives place (json.Bool b) parts none gives = gives
  no_list_gives place (json.Number text) parts none gives = gives
  no_list_gives place (json.Str text) parts none gives = gives
  no_list_gives place (json.Object' shape members) parts none gives = gives

  -- the members of an object
  abbrev ObjectGives : List Step → List ℕ → Json → Constraint → Type 0
  ObjectGives place key (json.Object' shape members) c = GivesOperand fields sets place key members c
  ObjectGives place key other c = ⊥

  abbrev ObjectGivesList : List Step → List ℕ → Json → List Constraint → Type 0
  ObjectGivesList place key (json.Object' shape members) parts = GivesOperands fields sets place key members parts
  ObjectGivesList place key other parts = ⊥

  found_or : (P : Json → Type 0) (b : Bool) (v : Json) (rest : Option Json)
      → MatchBool b (P v) (IsSomeAnd rest P) ≡ IsSomeAnd (if b then Some v else rest) P
  found_or P true v rest = refl
  found_or P false v rest = refl

  operand_gives : (place : List Step) (key : List ℕ) (members : List Member) (c : Constraint)
      → ObjectGives place key (view.Object members) c ≡ OperandGives fields sets place members key c
  unfolding Rattle.helix_json.specs.declared.value.Json.TheBlock.hidden-the_row-Member-1 denote.Hole.Carrier.hidden
  operand_gives place key [] c = refl
  operand_gives place key (m ∷ members) c =
      ap (λ T. MatchBool (bytes_eq m.key key) (GivesConstraint fields sets (at_key place key) m.value c) T)
      (operand_gives place key members c)
      ∙ found_or (λ v. GivesConstraint fields sets (at_key place key) v c) (bytes_eq m.key key) m.value
      (value_of key members)

  operands_give : (place : List Step) (key : List ℕ) (members : List Member) (parts : List Constraint)
      → ObjectGivesList place key (view.Object members) parts ≡ OperandsGive fields sets place members key parts
  unfolding Rattle.helix_json.specs.declared.value.Json.TheBlock.hidden-the_row-Member-1 denote.Hole.Carrier.hidden
  operands_give place key [] parts = refl
  operands_give place key (m ∷ members) parts =
      ap (λ T. MatchBool (bytes_eq m.key key) (GivesList fields sets (at_key place key) m.value parts) T)
      (operands_give place key members parts)
      ∙ found_or (λ v. GivesList fields sets (at_key place key) v parts) (bytes_eq m.key key) m.value
      (value_of key members)

  -- two ways to say what operands give
  module _ (place : List Step) (members : List Member) (One Other : List ℕ → Constraint → Type 0)
      (Many Others : List ℕ → List Constraint → Type 0) (one : (key : List ℕ) (c : Constraint) → One key c → Other key c)
      (many : (key : List ℕ) (parts : List Constraint) → Many key parts → Others key parts)
    where
      by_form : (o : Option Form) (c : Constraint) → GivesByForm fields sets place members One Many o c
          → GivesByForm fields sets place members Other Others o c
      by_form None c gives = gives
      by_form (Some (form.Atom keyword)) c gives = gives
      by_form (Some (form.Related keyword)) c gives = gives
      by_form (Some form.Not) c (negated, gives, is) = (negated, one (codes "not") negated gives, is)
      by_form (Some form.AllOf) c (parts, give, is) = (parts, many (codes "allOf") parts give, is)
      by_form (Some form.AnyOf) c (parts, give, is) = (parts, many (codes "anyOf") parts give, is)
      by_form (Some form.If) c (condition, first, (consequent, second, is)) =
          (condition, one (codes "if") condition first, (consequent, one (codes "then") consequent second, is))
      by_form (Some form.IfElse) c (condition, first, (consequent, second, (otherwise, third, is))) = (
        condition,
        one (codes "if") condition first,
        (consequent, one (codes "then") consequent second, (otherwise, one (codes "else") otherwise third, is)),
      )

  object_by_form : (place : List Step) (members : List Member) (c : Constraint)
      → GivesConstraint fields sets place (view.Object members) c
      ≡ GivesByForm fields sets place (members_of (view.Object members))
      (λ key part. ObjectGives place key (view.Object members) part)
      (λ key parts. ObjectGivesList place key (view.Object members) parts)
      (form_of (members_of (view.Object members))) c
  object_by_form place members c = refl

  abbrev Named : List Step → List Member → List Member → Constraint → Type 0
  Named place members listed c = GivesByForm fields sets place listed
      (λ key part. ObjectGives place key (view.Object members) part)
      (λ key parts. ObjectGivesList place key (view.Object members) parts) (form_of listed) c

  named : (place : List Step) (members : List Member) (c : Constraint)
      → GivesConstraint fields sets place (view.Object members) c ≡ Named place members members c
  named place members c =
      object_by_form place members c ∙ ap (λ l. Named place members l c) (members_of_object members)

  pub object_gives : (place : List Step) (members : List Member) (c : Constraint)
      → GivesConstraint fields sets place (view.Object members) c
      ↔ MembersGive fields sets place members (form_of members) c
  object_gives place members c = (
    (λ gives. by_form place members _ _ _ _ (λ key part. subst (λ T. T) (operand_gives place key members part))
        (λ key parts. subst (λ T. T) (operands_give place key members parts)) (form_of members) c
        (subst (λ T. T) (named place members c) gives)),
    (λ gives. subst (λ T. T) (sym (named place members c)) (by_form place members _ _ _ _
        (λ key part. subst (λ T. T) (sym (operand_gives place key members part)))
        (λ key parts. subst (λ T. T) (sym (operands_give place key members parts))) (form_of members) c gives)),
  )

  no_form : form_of [] ≡ None
  unfolding form_of has_form key_sets
  no_form = refl

  pub nothing_gives : (place : List Step) (v : Json) (c : Constraint) → members_of v ≡ []
      → ¬ (GivesConstraint fields sets place v c)
  nothing_gives place json.Null c none gives = gives
  nothing_gives place (json.Bool b) c none gives = gives
  nothing_gives place (json.Number text) c none gives = gives
  nothing_gives place (json.Str text) c none gives = gives
  nothing_gives place (json.List' shape items) c none gives = gives
  nothing_gives place (json.Object' shape members) c none gives =
      subst (λ o. GivesByForm fields sets place (listed_members members)
      (λ key part. GivesOperand fields sets place key members part)
      (λ key parts. GivesOperands fields sets place key members parts) o c) (ap form_of none ∙ no_form) gives
