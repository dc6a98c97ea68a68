-- What satisfies a constraint, by its form, as code sees it: lemmas for this crate and those above.
use Rattle.std.proofs.Common.{◌≡◌, List, [], ◌∷◌, ◌⊎◌, inl, inr, ◌↔◌, Option, None, Some, Bool, true, false, not, IsTrue, refl, sym, ap, subst, ⊎_elim}
use Rattle.helix_values.specs.declared.cell.Cell.{Cell}
use Rattle.helix_profile.specs.Satisfaction.{Satisfies, AllSatisfied, AnySatisfied}
use Rattle.helix_profile.specs.declared.constraint.Constraint.{Constraint}
use Rattle.helix_profile.specs.declared.constraint.Constraint.TheViews.{Not, AllOf, AnyOf, If}

pub false_is_false : IsTrue false → ⊥
false_is_false e = cc e

abbrev pub swap : {A B C : Type 0} → (A ↔ B) → (B ↔ C) → A ↔ C
swap one two = ((λ a. two.0 (one.0 a)), (λ c. one.1 (two.1 c)))

-- a `not` is its part with the other sign
pub Satisfies-Not : (part : Constraint) (row : List Cell) (sign : Bool)
    → Satisfies part row (not sign) ↔ Satisfies (Not part) row sign
unfolding Rattle.helix_profile.specs.declared.constraint.Constraint.TheBlock.hidden-the_row-Constraint-0
    denote.Hole.Carrier.hidden
Satisfies-Not part row true = ((λ s. (s, tt)), (λ s. s.0))
Satisfies-Not part row false = ((λ s. (s, tt)), (λ s. s.0))

-- the parts of an `allOf` and of an `anyOf` are those of a list
pub AllOf-plus : (parts : List Constraint) (row : List Cell)
    → AllSatisfied parts row true ≡ Satisfies (AllOf parts) row true
unfolding Rattle.helix_profile.specs.declared.constraint.Constraint.TheBlock.hidden-the_row-Constraint-1
    denote.Hole.Carrier.hidden
AllOf-plus [] row = refl
AllOf-plus (part ∷ parts) row = ap (λ T. Satisfies part row true × T) (AllOf-plus parts row)

pub AllOf-minus : (parts : List Constraint) (row : List Cell)
    → AnySatisfied parts row false ≡ Satisfies (AllOf parts) row false
unfolding Rattle.helix_profile.specs.declared.constraint.Constraint.TheBlock.hidden-the_row-Constraint-1
    denote.Hole.Carrier.hidden
AllOf-minus [] row = refl
AllOf-minus (part ∷ parts) row = ap (λ T. Satisfies part row false ⊎ T) (AllOf-minus parts row)

pub AnyOf-plus : (parts : List Constraint) (row : List Cell)
    → AnySatisfied parts row true ≡ Satisfies (AnyOf parts) row true
unfolding Rattle.helix_profile.specs.declared.constraint.Constraint.TheBlock.hidden-the_row-Constraint-1
    denote.Hole.Carrier.hidden
AnyOf-plus [] row = refl
AnyOf-plus (part ∷ parts) row = ap (λ T. Satisfies part row true ⊎ T) (AnyOf-plus parts row)

pub AnyOf-minus : (parts : List Constraint) (row : List Cell)
    → AllSatisfied parts row false ≡ Satisfies (AnyOf parts) row false
unfolding Rattle.helix_profile.specs.declared.constraint.Constraint.TheBlock.hidden-the_row-Constraint-1
    denote.Hole.Carrier.hidden
AnyOf-minus [] row = refl
AnyOf-minus (part ∷ parts) row = ap (λ T. Satisfies part row false × T) (AnyOf-minus parts row)

-- what is asked where the condition is negated
abbrev pub OtherwiseSatisfied : Option Constraint → List Cell → Bool → Type 0
OtherwiseSatisfied None row sign = IsTrue sign
OtherwiseSatisfied (Some other) row sign = Satisfies other row sign

abbrev pub IfSatisfied : Constraint → Constraint → Option Constraint → List Cell → Bool → Type 0
IfSatisfied condition consequent otherwise row sign =
    (Satisfies condition row true × Satisfies consequent row sign)
    ⊎ (Satisfies condition row false × OtherwiseSatisfied otherwise row sign)

pub Satisfies-If : (condition consequent : Constraint) (otherwise : Option Constraint) (row : List Cell) (sign : Bool)
    → IfSatisfied condition consequent otherwise row sign ↔ Satisfies (If condition consequent otherwise) row sign
unfolding Rattle.helix_profile.specs.declared.constraint.Constraint.TheBlock.hidden-the_row-Constraint-0
    denote.Hole.Carrier.hidden
Satisfies-If condition consequent None row true = (
  ⊎_elim (λ both. inl ((both.0, tt), (both.1, tt))) (λ both. inr ((both.0, tt), tt)),
  ⊎_elim (λ both. inl (both.0.0, both.1.0)) (λ both. inr (both.0.0, refl)),
)
Satisfies-If condition consequent None row false = (
  ⊎_elim (λ both. inl ((both.0, tt), (both.1, tt))) (λ both. absurd (false_is_false both.1)),
  ⊎_elim (λ both. inl (both.0.0, both.1.0)) (λ both. absurd both.1),
)
Satisfies-If condition consequent (Some other) row sign = (
  ⊎_elim (λ both. inl ((both.0, tt), (both.1, tt))) (λ both. inr ((both.0, tt), (both.1, tt))),
  ⊎_elim (λ both. inl (both.0.0, both.1.0)) (λ both. inr (both.0.0, both.1.0)),
)

-- the same, a form and a sign at a time
abbrev same : {A B : Type 0} → A ≡ B → B ↔ A
same e = ((λ b. subst (λ T. T) (sym e) b), (λ a. subst (λ T. T) e a))

pub all_of_true : (parts : List Constraint) (row : List Cell)
    → Satisfies (AllOf parts) row true ↔ AllSatisfied parts row true
all_of_true parts row = same (AllOf-plus parts row)

pub all_of_false : (parts : List Constraint) (row : List Cell)
    → Satisfies (AllOf parts) row false ↔ AnySatisfied parts row false
all_of_false parts row = same (AllOf-minus parts row)

pub any_of_true : (parts : List Constraint) (row : List Cell)
    → Satisfies (AnyOf parts) row true ↔ AnySatisfied parts row true
any_of_true parts row = same (AnyOf-plus parts row)

pub any_of_false : (parts : List Constraint) (row : List Cell)
    → Satisfies (AnyOf parts) row false ↔ AllSatisfied parts row false
any_of_false parts row = same (AnyOf-minus parts row)

pub if_true : (condition consequent : Constraint) (row : List Cell)
    → Satisfies (If condition consequent None) row true
    ↔ ((Satisfies condition row true × Satisfies consequent row true) ⊎ Satisfies condition row false)
if_true condition consequent row = (
  (λ s. ⊎_elim (λ both. inl both) (λ both. inr both.0) ((Satisfies-If condition consequent None row true).1 s)),
  (λ s. (Satisfies-If condition consequent None row true).0 (⊎_elim (λ both. inl both) (λ unmet. inr (unmet, refl)) s)),
)

pub if_false : (condition consequent : Constraint) (row : List Cell)
    → Satisfies (If condition consequent None) row false
    ↔ (Satisfies condition row true × Satisfies consequent row false)
if_false condition consequent row = (
  (λ s. ⊎_elim (λ both. both) (λ both. absurd (false_is_false both.1))
      ((Satisfies-If condition consequent None row false).1 s)),
  (λ both. (Satisfies-If condition consequent None row false).0 (inl both)),
)

pub if_else : (condition consequent other : Constraint) (row : List Cell) (sign : Bool)
    → Satisfies (If condition consequent (Some other)) row sign
    ↔ ((Satisfies condition row true × Satisfies consequent row sign)
    ⊎ (Satisfies condition row false × Satisfies other row sign))
if_else condition consequent other row sign = (
  (Satisfies-If condition consequent (Some other) row sign).1,
  (Satisfies-If condition consequent (Some other) row sign).0,
)
