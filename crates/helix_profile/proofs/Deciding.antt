-- What the plain program answers of a constraint, from what it answers of its parts.
use Rattle.std.proofs.Common.{◌≡◌, List, ◌⊎◌, inl, inr, ◌↔◌, Option, Bool, true, false, not, ◌&&◌, ◌||◌, IsTrue, refl, sym, subst, ⊎_elim}
use Rattle.helix_values.specs.declared.cell.Cell.{Cell}
use Rattle.helix_profile.specs.Satisfaction.{Satisfies}
use Rattle.helix_profile.specs.declared.constraint.Constraint.{Constraint}
use Rattle.helix_profile.specs.declared.constraint.Constraint.TheViews.{Not, If}
use Rattle.helix_profile.specs.SatisfactionLaws.{false_is_false, swap, Satisfies-Not, OtherwiseSatisfied, IfSatisfied, Satisfies-If}

-- The calls of the plain program, each with what it answers.

pub not_decides : (b : Bool) (constraint part got : Constraint) (row : List Cell) (sign : Bool) → constraint ≡ Not part
    → got ≡ part → (IsTrue b ↔ Satisfies got row (not sign)) → IsTrue b ↔ Satisfies constraint row sign
not_decides b constraint part got row sign is same decides =
    let here : IsTrue b ↔ Satisfies part row (not sign) = subst (λ c. IsTrue b
    ↔ Satisfies c row (not sign)) same decides in
    subst (λ c. IsTrue b ↔ Satisfies c row sign) (sym is) (swap here (Satisfies-Not part row sign))

-- a list of parts under one of the four signs
pub parts_decide : (b : Bool) (constraint : Constraint) (Made : List Constraint → Constraint) (Parts : List Constraint
    → Type 0) (parts slice : List Constraint) (row : List Cell) (sign known : Bool)
    → ((ps : List Constraint) → Parts ps ≡ Satisfies (Made ps) row known) → constraint ≡ Made parts → slice ≡ parts
    → sign ≡ known → (IsTrue b ↔ Parts slice) → IsTrue b ↔ Satisfies constraint row sign
parts_decide b constraint Made Parts parts slice row sign known law is same sign_is decides =
    let here : IsTrue b ↔ Parts parts = subst (λ ps. IsTrue b ↔ Parts ps) same decides in
    let there : IsTrue b ↔ Satisfies (Made parts) row known = subst (λ T. IsTrue b ↔ T) (law parts) here in
    let signed : IsTrue b ↔ Satisfies (Made parts) row sign = subst (λ s. IsTrue b
    ↔ Satisfies (Made parts) row s) (sym sign_is) there in
    subst (λ c. IsTrue b ↔ Satisfies c row sign) (sym is) signed

-- two pairs of answers
either : (a b c d : Bool) (A B C D : Type 0) → (IsTrue a ↔ A) → (IsTrue b ↔ B) → (IsTrue c ↔ C) → (IsTrue d ↔ D)
    → IsTrue ((a && b) || (c && d)) ↔ ((A × B) ⊎ (C × D))
either true true c d A B C D is_a is_b is_c is_d = ((λ t. inl (is_a.0 refl, is_b.0 refl)), (λ s. refl))
either true false true d A B C D is_a is_b is_c is_d =
    ((λ t. inr (is_c.0 refl, is_d.0 t)), ⊎_elim (λ s. absurd (false_is_false (is_b.1 s.1))) (λ s. is_d.1 s.1))
either true false false d A B C D is_a is_b is_c is_d =
    ((λ t. absurd (false_is_false t)), ⊎_elim (λ s. is_b.1 s.1) (λ s. is_c.1 s.0))
either false b true d A B C D is_a is_b is_c is_d =
    ((λ t. inr (is_c.0 refl, is_d.0 t)), ⊎_elim (λ s. absurd (false_is_false (is_a.1 s.0))) (λ s. is_d.1 s.1))
either false b false d A B C D is_a is_b is_c is_d =
    ((λ t. absurd (false_is_false t)), ⊎_elim (λ s. is_a.1 s.0) (λ s. is_c.1 s.0))

module _ (answer met unmet consequent_met otherwise_met : Bool) (constraint condition consequent : Constraint)
    (otherwise : Option Constraint) (row : List Cell) (sign : Bool)
    (is : constraint ≡ If condition consequent otherwise) (answer_is : answer
    ≡ ((met && consequent_met) || (unmet && otherwise_met)))
    (is_met : IsTrue met ↔ Satisfies condition row true) (is_unmet : IsTrue unmet ↔ Satisfies condition row false)
    (is_consequent : IsTrue consequent_met ↔ Satisfies consequent row sign) (is_otherwise : IsTrue otherwise_met
    ↔ OtherwiseSatisfied otherwise row sign) where
  pub if_decides : IsTrue answer ↔ Satisfies constraint row sign
  if_decides =
      let parts : IsTrue ((met && consequent_met) || (unmet && otherwise_met))
      ↔ IfSatisfied condition consequent otherwise row sign =
      either met consequent_met unmet otherwise_met _ _ _ _ is_met is_consequent is_unmet is_otherwise in
      let whole : IsTrue ((met && consequent_met) || (unmet && otherwise_met))
      ↔ Satisfies (If condition consequent otherwise) row sign =
      swap parts (Satisfies-If condition consequent otherwise row sign) in
      subst (λ c. IsTrue answer ↔ Satisfies c row sign) (sym is) (subst (λ b. IsTrue b
      ↔ Satisfies (If condition consequent otherwise) row sign) (sym answer_is) whole)

pub itself : (sign : Bool) → IsTrue sign ↔ IsTrue sign
itself sign = ((λ t. t), (λ t. t))

-- the same of a borrowed part
pub of_part : (b : Bool) (got part : Constraint) (row : List Cell) (sign : Bool) → got ≡ part
    → (IsTrue b ↔ Satisfies got row sign) → IsTrue b ↔ Satisfies part row sign
of_part b got part row sign same decides = subst (λ c. IsTrue b ↔ Satisfies c row sign) same decides
