-- What a value gives from what its members or its items give, call by call.
use Rattle.std.proofs.Common.{◌≡◌, ◌↔◌, ℕ, zero, suc, ◌+◌, ◌<◌, ◌≤◌, Bool, true, false, if◌then◌else◌, List, [], ◌∷◌, length, drop, Option, Some, None, get_or, Result, IfOk, refl, sym, ◌∙◌, ap, subst, arith}
use Rattle.std.specs.Option.{IsSomeAnd}
use Rattle.std.specs.Str.{bytes_eq}
use Rattle.helix_base.specs.declared.memory.Memory.{Memory}
use Rattle.helix_fields.specs.SearchLaws.{if_ok}
use Rattle.helix_json.specs.declared.value.Json.{Json}
use Rattle.helix_json.specs.declared.value.Json.TheViews as view
use Rattle.helix_json.specs.declared.value.Member.{Member}
use Rattle.helix_keywords.specs.Forms.{form_of}
use Rattle.helix_keywords.specs.declared.form.Form.{Form}
use Rattle.helix_operands.specs.Values.{Reads}
use Rattle.helix_places.proofs.Words.{value_step}
use Rattle.helix_places.specs.Members.{members_of, value_of}
use Rattle.helix_places.specs.PlaceLaws.{some_and, and_some}
use Rattle.helix_places.specs.declared.place.Step.{Step}
use Rattle.helix_profile.specs.declared.constraint.Constraint.{Constraint}
use Rattle.helix_profile.specs.declared.field.Field.{Field}
use Rattle.helix_readings.specs.Given.{GivesConstraint, GivesList, at_key}
use Rattle.helix_readings.specs.GivenLaws.{nothing_gives, object_gives}
use Rattle.helix_readings.specs.Inner.Operands.{MembersGive, OperandGives, OperandsGive}
use Rattle.helix_readings.specs.declared.sets.SetMembers.{SetMembers}

pub reads_same : {X : Type 0} (P Q : X → Type 0) (found : Option X) → ((x : X) → P x ↔ Q x) → Reads P found
    → Reads Q found
reads_same P Q None same none = λ x gives. none x ((same x).1 gives)
reads_same P Q (Some x) same gives = (same x).0 gives

nothing_left : (members : List Member) (i : ℕ) → length members ≤ i → drop i members ≡ []
nothing_left [] zero all = refl
nothing_left [] (suc i) all = refl
nothing_left (m ∷ members) zero all = absurd (omega arith)
nothing_left (m ∷ members) (suc i) all = nothing_left members i (omega arith)

-- the first member with a key
module _ (key : List ℕ) (members : List Member) (i : ℕ) where
  pub value_end : length members ≤ i → value_of key (drop i members) ≡ value_of key members
      → value_of key members ≡ None
  value_end all same = sym same ∙ ap (value_of key) (nothing_left members i all)

  module _ (m : Member) (b : Bool) (within : i < length members) (read : m ≡ get_or members i m)
      (same : value_of key (drop i members) ≡ value_of key members) (is : b ≡ bytes_eq m.key key)
    where
      chosen : value_of key (drop i members) ≡ (if b then Some m.value else value_of key (drop (i + 1) members))
      chosen = value_step key members i m within
          ∙ (ap (λ n. if bytes_eq n.key key then Some n.value else value_of key (drop (i + 1) members)) (sym read)
          ∙ ap (λ c. if c then Some m.value else value_of key (drop (i + 1) members)) (sym is))

      pub value_found : b ≡ true → value_of key members ≡ Some m.value
      value_found yes_is = sym same
          ∙ (chosen ∙ ap (λ c. if c then Some m.value else value_of key (drop (i + 1) members)) yes_is)

      pub value_next : b ≡ false → value_of key (drop (i + 1) members) ≡ value_of key members
      value_next not_is =
          sym (chosen ∙ ap (λ c. if c then Some m.value else value_of key (drop (i + 1) members)) not_is) ∙ same

module _ (fields : List Field) (sets : List SetMembers) (place : List Step) where
  -- a constraint
  pub object_reads : (v : Json) (members : List Member) (r : Result (Option Constraint) Memory)
      → v ≡ view.Object members → IfOk r (Reads (MembersGive fields sets place members (form_of members)))
      → IfOk r (Reads (GivesConstraint fields sets place v))
  object_reads v members r is reads =
      let P : Json → Type 0 = λ w. IfOk r (Reads (GivesConstraint fields sets place w)) in
      subst P (sym is) (if_ok r _ _ (λ found. reads_same (MembersGive fields sets place members (form_of members))
      (GivesConstraint fields sets place (view.Object members)) found
      (λ c. ((object_gives fields sets place members c).1, (object_gives fields sets place members c).0))) reads)

  pub nothing_reads : (v : Json) → members_of v ≡ [] → (c : Constraint) → ¬ (GivesConstraint fields sets place v c)
  nothing_reads v none c = nothing_gives fields sets place v c none

  -- by its form
  module _ (members : List Member) (o : Option Form) (is : o ≡ form_of members) where
    pub found_by_form : (f : Option Form) (found : Option Constraint) → o ≡ f
        → Reads (MembersGive fields sets place members f) found
        → Reads (MembersGive fields sets place members (form_of members)) found
    found_by_form f found form_is reads =
        subst (λ g. Reads (MembersGive fields sets place members g) found) (sym form_is ∙ is) reads

    pub form_reads : (f : Option Form) (r : Result (Option Constraint) Memory) → o ≡ f
        → IfOk r (Reads (MembersGive fields sets place members f))
        → IfOk r (Reads (MembersGive fields sets place members (form_of members)))
    form_reads f r form_is reads =
        subst (λ g. IfOk r (Reads (MembersGive fields sets place members g))) (sym form_is ∙ is) reads

  -- the value under a key
  under_key : {X : Type 0} (Gives : List Step → Json → X → Type 0) (key : List ℕ) (members : List Member)
      (inner : List Step) (v : Json) (r : Result (Option X) Memory) → value_of key members ≡ Some v
      → inner ≡ at_key place key → IfOk r (Reads (Gives inner v))
      → IfOk r (Reads (λ x. IsSomeAnd (value_of key members) (λ w. Gives (at_key place key) w x)))
  under_key {X} Gives key members inner v r there inner_is reads =
      let P : List Step → Type 0 = λ p. IfOk r (Reads (Gives p v)) in
      if_ok r _ _ (λ found. reads_same (Gives (at_key place key) v)
      (λ x. IsSomeAnd (value_of key members) (λ w. Gives (at_key place key) w x)) found
      (λ x. (
        and_some (value_of key members) (λ w. Gives (at_key place key) w x) v there,
        some_and (value_of key members) (λ w. Gives (at_key place key) w x) v there,
      ))) (subst P inner_is reads)

  pub operand_reads : (key : List ℕ) (members : List Member) (inner : List Step) (v : Json)
      (r : Result (Option Constraint) Memory) → value_of key members ≡ Some v → inner ≡ at_key place key
      → IfOk r (Reads (GivesConstraint fields sets inner v))
      → IfOk r (Reads (OperandGives fields sets place members key))
  operand_reads = under_key (GivesConstraint fields sets)

  pub operands_read : (key : List ℕ) (members : List Member) (inner : List Step) (v : Json)
      (r : Result (Option (List Constraint)) Memory) → value_of key members ≡ Some v → inner ≡ at_key place key
      → IfOk r (Reads (GivesList fields sets inner v)) → IfOk r (Reads (OperandsGive fields sets place members key))
  operands_read = under_key (GivesList fields sets)

  pub no_operand : (key : List ℕ) (members : List Member) → value_of key members ≡ None → (c : Constraint)
      → ¬ (OperandGives fields sets place members key c)
  no_operand key members none c gives =
      subst (λ o. IsSomeAnd o (λ v. GivesConstraint fields sets (at_key place key) v c)) none gives

  pub no_operands : (key : List ℕ) (members : List Member) → value_of key members ≡ None
      → (parts : List Constraint) → ¬ (OperandsGive fields sets place members key parts)
  no_operands key members none parts gives =
      subst (λ o. IsSomeAnd o (λ v. GivesList fields sets (at_key place key) v parts)) none gives
