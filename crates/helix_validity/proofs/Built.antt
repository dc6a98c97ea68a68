-- Constraints built of others: whether they are for the fields, and their relations.
use Rattle.std.proofs.Common.{◌≡◌, ◌≢◌, List, [], ◌∷◌, ◌++◌, Some, None, refl, ◌∙◌, ap, append-nil}
use Rattle.std.specs.List.{AllByRecursion}
use Rattle.helix_profile.specs.Fields.{all_relations, relations_of}
use Rattle.helix_profile.specs.Validity.{IsConstraintFor}
use Rattle.helix_profile.specs.declared.constraint.Constraint.{Constraint, AllOf', AnyOf', Row_of-Constraint}
use Rattle.helix_profile.specs.declared.constraint.Constraint.TheViews.{Not, AllOf, AnyOf, If}
use Rattle.helix_profile.specs.declared.field.Field.{Field}
use Rattle.helix_profile.specs.declared.relation.Relation.{Relation}

module _ (fields : List Field) where
  pub fits_not : (c : Constraint) → IsConstraintFor fields c → IsConstraintFor fields (Not c)
  unfolding Rattle.helix_profile.specs.declared.constraint.Constraint.TheBlock.hidden-the_row-Constraint-0
      denote.Hole.Carrier.hidden
  fits_not c fits = (fits, tt)

  abbrev AllFit : List Constraint → Type 0
  AllFit cs = AllByRecursion (IsConstraintFor fields) cs

  all_parts : (c : Constraint) (cs : List Constraint) → AllFit (c ∷ cs)
      → IsConstraintFor fields (AllOf (c ∷ cs))
  unfolding Rattle.helix_profile.specs.declared.constraint.Constraint.TheBlock.hidden-the_row-Constraint-1
      denote.Hole.Carrier.hidden
  all_parts c [] fit = (tt, (fit.0, tt))
  all_parts c (d ∷ cs) fit = (tt, (fit.0, (all_parts d cs fit.1).1))

  pub fits_all : (cs : List Constraint) → cs ≢ [] → AllFit cs → IsConstraintFor fields (AllOf cs)
  fits_all [] some fit = absurd (some refl)
  fits_all (c ∷ cs) some fit = all_parts c cs fit

  any_parts : (c : Constraint) (cs : List Constraint) → AllFit (c ∷ cs)
      → IsConstraintFor fields (AnyOf (c ∷ cs))
  unfolding Rattle.helix_profile.specs.declared.constraint.Constraint.TheBlock.hidden-the_row-Constraint-1
      denote.Hole.Carrier.hidden
  any_parts c [] fit = (tt, (fit.0, tt))
  any_parts c (d ∷ cs) fit = (tt, (fit.0, (any_parts d cs fit.1).1))

  pub fits_any : (cs : List Constraint) → cs ≢ [] → AllFit cs → IsConstraintFor fields (AnyOf cs)
  fits_any [] some fit = absurd (some refl)
  fits_any (c ∷ cs) some fit = any_parts c cs fit

  pub fits_if : (c d : Constraint) → IsConstraintFor fields c → IsConstraintFor fields d
      → IsConstraintFor fields (If c d None)
  unfolding Rattle.helix_profile.specs.declared.constraint.Constraint.TheBlock.hidden-the_row-Constraint-0
      denote.Hole.Carrier.hidden
  fits_if c d condition consequent = ((condition, tt), (consequent, tt), tt)

  pub fits_else : (c d e : Constraint) → IsConstraintFor fields c → IsConstraintFor fields d
      → IsConstraintFor fields e → IsConstraintFor fields (If c d (Some e))
  unfolding Rattle.helix_profile.specs.declared.constraint.Constraint.TheBlock.hidden-the_row-Constraint-0
      denote.Hole.Carrier.hidden
  fits_else c d e condition consequent otherwise = ((condition, tt), (consequent, tt), (otherwise, tt))

pub relations_not : (c : Constraint) → relations_of (Not c) ≡ relations_of c
unfolding Rattle.helix_profile.specs.declared.constraint.Constraint.TheBlock.hidden-the_row-Constraint-0
    denote.Hole.Carrier.hidden
relations_not c = append-nil (relations_of c)

pub relations_all : (cs : List Constraint) → relations_of (AllOf cs) ≡ all_relations cs
unfolding Rattle.helix_profile.specs.declared.constraint.Constraint.TheBlock.hidden-the_row-Constraint-1
    denote.Hole.Carrier.hidden
relations_all [] = refl
relations_all (c ∷ cs) = ap (λ l. relations_of c ++ l) (relations_all cs)

pub relations_any : (cs : List Constraint) → relations_of (AnyOf cs) ≡ all_relations cs
unfolding Rattle.helix_profile.specs.declared.constraint.Constraint.TheBlock.hidden-the_row-Constraint-1
    denote.Hole.Carrier.hidden
relations_any [] = refl
relations_any (c ∷ cs) = ap (λ l. relations_of c ++ l) (relations_any cs)

two_rows : (a b c d : List Relation) → a ≡ c → b ≡ d → a ++ b ≡ c ++ d
two_rows a b c d first second = ap (λ l. l ++ b) first ∙ ap (λ l. c ++ l) second

pub relations_if : (c d : Constraint) → relations_of (If c d None) ≡ relations_of c ++ relations_of d
unfolding Rattle.helix_profile.specs.declared.constraint.Constraint.TheBlock.hidden-the_row-Constraint-0
    denote.Hole.Carrier.hidden
relations_if c d = two_rows (relations_of c ++ []) ((relations_of d ++ []) ++ []) (relations_of c) (relations_of d)
    (append-nil (relations_of c)) (append-nil (relations_of d ++ []) ∙ append-nil (relations_of d))

pub relations_else : (c d e : Constraint)
    → relations_of (If c d (Some e)) ≡ relations_of c ++ (relations_of d ++ relations_of e)
unfolding Rattle.helix_profile.specs.declared.constraint.Constraint.TheBlock.hidden-the_row-Constraint-0
    denote.Hole.Carrier.hidden
relations_else c d e = two_rows (relations_of c ++ []) ((relations_of d ++ []) ++ (relations_of e ++ []))
    (relations_of c) (relations_of d ++ relations_of e) (append-nil (relations_of c))
    (two_rows (relations_of d ++ []) (relations_of e ++ []) (relations_of d) (relations_of e)
    (append-nil (relations_of d)) (append-nil (relations_of e)))
