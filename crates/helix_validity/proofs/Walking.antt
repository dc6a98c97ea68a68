-- What holds of each constraint that a sound value gives, by the value's form.
use Rattle.std.proofs.Common.{◌≡◌, ◌≢◌, ℕ, suc, ◌+◌, true, if◌then◌else◌, List, [], ◌∷◌, Option, Some, None, slice_get, codes, refl, sym, ap, subst, arith}
use Rattle.helix_constraints.specs.Rules.{form_in}
use Rattle.helix_constraints.specs.Visited.{role_by_form, role_of_parts}
use Rattle.helix_constraints.specs.declared.role.Role.TheVariants as role
use Rattle.helix_fields.specs.Fields.{constraints_of}
use Rattle.helix_fields.specs.Under.{items_of_some}
use Rattle.helix_json.specs.declared.value.Json.{Json}
use Rattle.helix_keywords.specs.declared.form.Form.{Form}
use Rattle.helix_keywords.specs.declared.form.Form.TheVariants as form
use Rattle.helix_keywords.specs.declared.keyword.FieldKeyword.{FieldKeyword}
use Rattle.helix_keywords.specs.declared.keyword.Keyword.{Keyword}
use Rattle.helix_places.specs.Members.{is_list, items_of, members_of, value_of}
use Rattle.helix_places.specs.declared.place.Step.{Step}
use Rattle.helix_places.specs.declared.place.Step.TheVariants as step
use Rattle.helix_profile.specs.declared.constraint.Constraint.{Constraint, Atom, Related}
use Rattle.helix_profile.specs.declared.constraint.Constraint.TheViews.{Not, AllOf, AnyOf, If}
use Rattle.helix_profile.specs.declared.field.Field.{Field}
use Rattle.helix_profile.specs.declared.relation.Relation.{Relation}
use Rattle.helix_profile.specs.declared.test.Atom.{Atom as FieldTest}
use Rattle.helix_readings.specs.Given.{AreGiven, GivesAtom, GivesConstraint, GivesList, at_index, at_key}
use Rattle.helix_readings.specs.Inner.Operands.{MembersGive, OperandGives, OperandsGive}
use Rattle.helix_readings.specs.Whole.{GivesConstraints}
use Rattle.helix_readings.specs.declared.sets.SetMembers.{SetMembers}
use Rattle.helix_references.specs.RefusalLaws.{some_of}
use Rattle.helix_references.specs.Relations.{GivesRelation}
use Rattle.helix_validity.proofs.Gives.{gives_items, gives_members}
use Rattle.helix_validity.proofs.Parts.{OfParts, by_parts}
use Rattle.helix_validity.proofs.Sound.{IsSound, sound_item, sound_part}
use Rattle.helix_validity.specs.Mentions.{AreFilled}
use Rattle.helix_validity.specs.Unbroken.{IsUnbrokenProfile}

-- of each item and what it gives
abbrev pub OfEach : (Json → Constraint → Type 0) → List Json → List Constraint → Type 0
OfEach P [] [] = Unit {0}
OfEach P (item ∷ items) (c ∷ cs) = P item c × OfEach P items cs
OfEach P items cs = ⊥

-- it holds of a constraint where it holds of those within it
pub record IsKept (fields : List Field) (sets : List SetMembers) (P : Json → Constraint → Type 0) : Type 0 where
  pub atom : (prefix : List Step) (v : Json) (keyword : Keyword) (a : FieldTest)
      → IsSound fields sets prefix role.One v → form_in v ≡ Some (form.Atom keyword)
      → GivesAtom fields sets prefix (members_of v) keyword a → P v (Atom a)
  pub related : (prefix : List Step) (v : Json) (keyword : FieldKeyword) (r : Relation)
      → IsSound fields sets prefix role.One v → form_in v ≡ Some (form.Related keyword)
      → GivesRelation fields (members_of v) keyword r → P v (Related r)
  pub negation : (v w : Json) (c : Constraint) → form_in v ≡ Some form.Not
      → value_of (codes "not") (members_of v) ≡ Some w → P w c → P v (Not c)
  pub all : (v w : Json) (cs : List Constraint) → form_in v ≡ Some form.AllOf
      → value_of (codes "allOf") (members_of v) ≡ Some w → is_list w ≡ true → cs ≢ [] → OfEach P (items_of w) cs
      → P v (AllOf cs)
  pub any : (v w : Json) (cs : List Constraint) → form_in v ≡ Some form.AnyOf
      → value_of (codes "anyOf") (members_of v) ≡ Some w → is_list w ≡ true → cs ≢ [] → OfEach P (items_of w) cs
      → P v (AnyOf cs)
  pub condition : (v a b : Json) (c d : Constraint) → form_in v ≡ Some form.If
      → value_of (codes "if") (members_of v) ≡ Some a → value_of (codes "then") (members_of v) ≡ Some b → P a c → P b d
      → P v (If c d None)
  pub other : (v a b e : Json) (c d x : Constraint) → form_in v ≡ Some form.IfElse
      → value_of (codes "if") (members_of v) ≡ Some a → value_of (codes "then") (members_of v) ≡ Some b
      → value_of (codes "else") (members_of v) ≡ Some e → P a c → P b d → P e x → P v (If c d (Some x))

module _ (fields : List Field) (sets : List SetMembers) (P : Json → Constraint → Type 0) where
  -- items one after the other
  each_given : (place : List Step) (index : ℕ) (items : List Json) (cs : List Constraint)
      → ((i n : ℕ) (item : Json) → slice_get items i ≡ Some item → n ≡ index + i → (c : Constraint)
      → GivesConstraint fields sets (at_index place n) item c → P item c)
      → AreGiven fields sets place index items cs → OfEach P items cs
  each_given place index [] [] each given = tt
  each_given place index [] (c ∷ cs) each given = absurd given
  each_given place index (item ∷ items) [] each given = absurd given
  each_given place index (item ∷ items) (c ∷ cs) each given = (
    each 0 index item refl (omega arith) c given.0,
    each_given place (index + 1) items cs (λ i n other at is. each (suc i) n other at (omega arith)) given.1,
  )

  abbrev OfOne : List Step → Json → Type 0
  OfOne prefix v = IsSound fields sets prefix role.One v → (c : Constraint) → GivesConstraint fields sets prefix v c
      → P v c

  abbrev OfMany : List Step → Json → Type 0
  OfMany prefix v = IsSound fields sets prefix role.Many v → (cs : List Constraint)
      → GivesList fields sets prefix v cs → (is_list v ≡ true) × (cs ≢ []) × OfEach P (items_of v) cs

  abbrev OfGiven : Json → Type 0
  OfGiven v = (prefix : List Step) → OfOne prefix v × OfMany prefix v

  -- where it holds of the parts of a value
  module _ (kept : IsKept fields sets P) (v : Json) (parts : OfParts OfGiven v) (prefix : List Step) where
    module _ (sound : IsSound fields sets prefix role.One v) where
      operand : (key : List ℕ) (c : Constraint) → role_of_parts role.One v ≡ Some role.One
          → OperandGives fields sets prefix (members_of v) key c
          → (w : Json) × (value_of key (members_of v) ≡ Some w) × P w c
      operand key c role_is gives =
          let there = some_of (value_of key (members_of v))
          (λ w. GivesConstraint fields sets (at_key prefix key) w c) gives in (
            there.0,
            there.1,
            (parts (step.Member key) there.0 there.1 (at_key prefix key)).0
                (sound_part fields sets prefix role.One role.One v there.0 (step.Member key) role_is there.1 sound) c
                there.2,
          )

      branches : (key : List ℕ) (cs : List Constraint) → role_of_parts role.One v ≡ Some role.Many
          → OperandsGive fields sets prefix (members_of v) key cs
          → (w : Json) × (value_of key (members_of v) ≡ Some w)
          × ((is_list w ≡ true) × (cs ≢ []) × OfEach P (items_of w) cs)
      branches key cs role_is give =
          let there = some_of (value_of key (members_of v)) (λ w. GivesList fields sets (at_key prefix key) w cs) give in (
            there.0,
            there.1,
            (parts (step.Member key) there.0 there.1 (at_key prefix key)).1
                (sound_part fields sets prefix role.One role.Many v there.0 (step.Member key) role_is there.1 sound) cs
                there.2,
          )

      by_form : (o : Option Form) → form_in v ≡ o → (c : Constraint)
          → MembersGive fields sets prefix (members_of v) o c → P v c
      by_form None is c gives = absurd gives
      by_form (Some (form.Atom keyword)) is c (a, gives, made) =
          subst (P v) (sym made) (kept.atom prefix v keyword a sound is gives)
      by_form (Some (form.Related keyword)) is c (r, gives, made) =
          subst (P v) (sym made) (kept.related prefix v keyword r sound is gives)
      by_form (Some form.Not) is c (d, gives, made) =
          let there = operand (codes "not") d (ap role_by_form is) gives in
          subst (P v) (sym made) (kept.negation v there.0 d is there.1 there.2)
      by_form (Some form.AllOf) is c (ds, give, made) =
          let there = branches (codes "allOf") ds (ap role_by_form is) give in
          subst (P v) (sym made) (kept.all v there.0 ds is there.1 there.2.0 there.2.1 there.2.2)
      by_form (Some form.AnyOf) is c (ds, give, made) =
          let there = branches (codes "anyOf") ds (ap role_by_form is) give in
          subst (P v) (sym made) (kept.any v there.0 ds is there.1 there.2.0 there.2.1 there.2.2)
      by_form (Some form.If) is c (d, first, (e, second, made)) =
          let one = operand (codes "if") d (ap role_by_form is) first in
          let two = operand (codes "then") e (ap role_by_form is) second in
          subst (P v) (sym made) (kept.condition v one.0 two.0 d e is one.1 two.1 one.2 two.2)
      by_form (Some form.IfElse) is c (d, first, (e, second, (x, third, made))) =
          let one = operand (codes "if") d (ap role_by_form is) first in
          let two = operand (codes "then") e (ap role_by_form is) second in
          let three = operand (codes "else") x (ap role_by_form is) third in
          subst (P v) (sym made)
          (kept.other v one.0 two.0 three.0 d e x is one.1 two.1 three.1 one.2 two.2 three.2)

    of_one : OfOne prefix v
    of_one sound c gives = by_form sound (form_in v) refl c ((gives_members fields sets prefix v c).0 gives)

    of_item : IsSound fields sets prefix role.Many v → is_list v ≡ true → (i n : ℕ) (item : Json)
        → slice_get (items_of v) i ≡ Some item → n ≡ 0 + i → (c : Constraint)
        → GivesConstraint fields sets (at_index prefix n) item c → P item c
    of_item sound list i n item at is c gives =
        let same : n ≡ i = omega arith in
        (parts (step.Item i) item at (at_index prefix i)).0
        (sound_part fields sets prefix role.Many role.One v item (step.Item i)
        (ap (λ b. if b then Some role.One else None) list) at sound) c
        (subst (λ k. GivesConstraint fields sets (at_index prefix k) item c) same gives)

    of_many : OfMany prefix v
    of_many sound cs give =
        let items = (gives_items fields sets prefix v cs).0 give in (
          items.0,
          items.1,
          each_given prefix 0 (items_of v) cs (of_item sound items.0) items.2,
        )

  module _ (kept : IsKept fields sets P) where
    of_given : (v : Json) → OfGiven v
    of_given = by_parts OfGiven (λ v parts prefix. (of_one kept v parts prefix, of_many kept v parts prefix))

    module _ (v : Json) (unbroken : IsUnbrokenProfile fields v) (filled : AreFilled fields sets v) where
      under : (o : Option Json) → value_of (codes "constraints") (members_of v) ≡ o → (cs : List Constraint)
          → AreGiven fields sets (step.Member (codes "constraints") ∷ []) 0 (items_of_some o) cs
          → OfEach P (items_of_some o) cs
      under None is [] given = tt
      under None is (c ∷ cs) given = absurd given
      under (Some w) is cs given = each_given (step.Member (codes "constraints") ∷ []) 0 (items_of w) cs
          (λ i n item at same c gives.
          let index : n ≡ i = omega arith in
          (of_given item (step.Member (codes "constraints") ∷ step.Item i ∷ [])).0
          (sound_item fields sets v unbroken filled w item i is at) c
          (subst (λ k. GivesConstraint fields sets (step.Member (codes "constraints") ∷ step.Item k ∷ []) item c) index
          gives)) given

      -- what each constraint of the profile gives
      pub of_profile : (cs : List Constraint) → GivesConstraints fields sets v cs → OfEach P (constraints_of v) cs
      of_profile cs given = under (value_of (codes "constraints") (members_of v)) refl cs given
