-- What a constraint under a condition is read from.
use Rattle.std.proofs.Common.{◌≡◌, ℕ, List, Option, Some, None, codes, Result, IfOk, refl, subst}
use Rattle.helix_base.specs.declared.memory.Memory.{Memory}
use Rattle.helix_fields.specs.SearchLaws.{if_ok}
use Rattle.helix_json.specs.declared.value.Member.{Member}
use Rattle.helix_keywords.specs.declared.form.Form.TheVariants as form
use Rattle.helix_operands.specs.Values.{Reads}
use Rattle.helix_places.specs.declared.place.Step.{Step}
use Rattle.helix_profile.specs.declared.constraint.Constraint.{Constraint}
use Rattle.helix_profile.specs.declared.constraint.Constraint.TheViews.{If}
use Rattle.helix_profile.specs.declared.field.Field.{Field}
use Rattle.helix_readings.specs.Given.{GivesElse, GivesThen, GivesThenElse}
use Rattle.helix_readings.specs.Inner.Operands.{MembersGive, OperandGives}
use Rattle.helix_readings.specs.declared.sets.SetMembers.{SetMembers}

module _ (fields : List Field) (sets : List SetMembers) (place : List Step) (members : List Member) where
  abbrev One : List ℕ → Constraint → Type 0
  One key c = OperandGives fields sets place members key c

  some_reads : (key : List ℕ) (found : Option Constraint) (c : Constraint) → Reads (One key) found → found ≡ Some c
      → One key c
  some_reads key found c reads some = subst (λ o. Reads (One key) o) some reads

  module _ (condition : Constraint) where
    with_then : One (codes "if") condition → (got : Option Constraint) → Reads (GivesThen One condition) got
        → Reads (MembersGive fields sets place members (Some form.If)) got
    with_then first None none = λ c h. none (If condition h.2.0 None) (h.2.0, h.2.1, refl)
    with_then first (Some c) gives = (condition, first, gives)

    with_then_else : One (codes "if") condition → (got : Option Constraint)
        → Reads (GivesThenElse One condition) got
        → Reads (MembersGive fields sets place members (Some form.IfElse)) got
    with_then_else first None none = λ c h.
        none (If condition h.2.0 (Some h.2.2.0)) (h.2.0, h.2.1, (h.2.2.0, h.2.2.1, refl))
    with_then_else first (Some c) gives = (condition, first, gives)

    with_else : (consequent : Constraint) → One (codes "then") consequent → (got : Option Constraint)
        → Reads (GivesElse One condition consequent) got → Reads (GivesThenElse One condition) got
    with_else consequent second None none = λ c h.
        none (If condition consequent (Some h.2.0)) (h.2.0, h.2.1, refl)
    with_else consequent second (Some c) gives = (consequent, second, gives)

    pub if_reads : (found : Option Constraint) (r : Result (Option Constraint) Memory)
        → Reads (One (codes "if")) found → found ≡ Some condition → IfOk r (Reads (GivesThen One condition))
        → IfOk r (Reads (MembersGive fields sets place members (Some form.If)))
    if_reads found r reads some =
        if_ok r _ _ (with_then (some_reads (codes "if") found condition reads some))

    pub if_else_reads : (found : Option Constraint) (r : Result (Option Constraint) Memory)
        → Reads (One (codes "if")) found → found ≡ Some condition → IfOk r (Reads (GivesThenElse One condition))
        → IfOk r (Reads (MembersGive fields sets place members (Some form.IfElse)))
    if_else_reads found r reads some =
        if_ok r _ _ (with_then_else (some_reads (codes "if") found condition reads some))

    pub else_reads : (consequent : Constraint) (found : Option Constraint) (r : Result (Option Constraint) Memory)
        → Reads (One (codes "then")) found → found ≡ Some consequent
        → IfOk r (Reads (GivesElse One condition consequent)) → IfOk r (Reads (GivesThenElse One condition))
    else_reads consequent found r reads some =
        if_ok r _ _ (with_else consequent (some_reads (codes "then") found consequent reads some))
