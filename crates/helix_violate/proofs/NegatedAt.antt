-- A valid profile stays valid where a constraint is replaced by its negation.
use Rattle.std.proofs.Common.{◌≡◌, ℕ, zero, suc, ◌-◌, Some, List, [], ◌∷◌, ◌++◌, ◌≤◌, length, get_or, slice_set, refl, sym, ap, ◌∙◌, subst, append-nil, arith}
use Rattle.std.proofs.lemmas.Option.{slice_get-get_or}
use Rattle.std.specs.List.{AllByRecursion, slice_get}
use Rattle.helix_profile.specs.Change.{replaced}
use Rattle.helix_profile.specs.Content.{Content}
use Rattle.helix_profile.specs.Fields.{relations_of, all_relations}
use Rattle.helix_profile.specs.Forest.{IsForest}
use Rattle.helix_profile.specs.Validity.{IsConstraintFor, IsValidProfile}
use Rattle.helix_profile.specs.Violation.{violating}
use Rattle.helix_profile.proofs.Violating.{violating_is}
use Rattle.helix_profile.specs.declared.constraint.Constraint.{Constraint}
use Rattle.helix_profile.specs.declared.constraint.Constraint.TheViews.{Not}
use Rattle.helix_profile.specs.declared.field.Field.{Field}

-- a negation has the relations of its part
relations-Not : (c : Constraint) → relations_of (Not c) ≡ relations_of c
unfolding Rattle.helix_profile.specs.declared.constraint.Constraint.TheBlock.hidden-the_row-Constraint-0
    denote.Hole.Carrier.hidden
relations-Not c = append-nil (relations_of c)

fits-Not : (fields : List Field) (c : Constraint) → IsConstraintFor fields c → IsConstraintFor fields (Not c)
unfolding Rattle.helix_profile.specs.declared.constraint.Constraint.TheBlock.hidden-the_row-Constraint-0
    denote.Hole.Carrier.hidden
fits-Not fields c fits = (fits, tt)

same_relations : (cs : List Constraint) (i : ℕ) (c : Constraint) → slice_get cs i ≡ Some c
    → all_relations (slice_set cs i (Not c)) ≡ all_relations cs
same_relations [] i c is = refl
same_relations (d ∷ cs) zero c is = let same : d ≡ c = cc in
    ap (λ l. l ++ all_relations cs) (relations-Not c ∙ ap relations_of (sym same))
same_relations (d ∷ cs) (suc i) c is = ap (λ l. relations_of d ++ l) (same_relations cs i c is)

still_fit : (fields : List Field) (cs : List Constraint) (i : ℕ) (c : Constraint) → slice_get cs i ≡ Some c
    → AllByRecursion (IsConstraintFor fields) cs → AllByRecursion (IsConstraintFor fields) (slice_set cs i (Not c))
still_fit fields [] i c is fit = fit
still_fit fields (d ∷ cs) zero c is fit = let same : d ≡ c = cc in
    (fits-Not fields c (subst (IsConstraintFor fields) same fit.0), fit.1)
still_fit fields (d ∷ cs) (suc i) c is fit = (fit.0, still_fit fields cs i c is fit.1)

same_length : (cs : List Constraint) (i : ℕ) (c : Constraint) → length (slice_set cs i c) ≡ length cs
same_length [] i c = refl
same_length (d ∷ cs) zero c = refl
same_length (d ∷ cs) (suc i) c = ap suc (same_length cs i c)

pub negated_is_valid : (profile : Content) (k : ℕ) (c : Constraint) → slice_get profile.constraints (k - 1) ≡ Some c
    → IsValidProfile profile → IsValidProfile (replaced profile k (Not c))
negated_is_valid profile k c is valid = record {
  some_field = valid.some_field;
  few_fields = valid.few_fields;
  names = valid.names;
  different_names = valid.different_names;
  few_constraints = omega (arith, same_length profile.constraints (k - 1) (Not c), valid.few_constraints);
  constraints_fit = still_fit profile.fields profile.constraints (k - 1) c is valid.constraints_fit;
  no_cycle = subst IsForest (sym (same_relations profile.constraints (k - 1) c is)) valid.no_cycle;
}

-- the same of the calls of the program: an item of the list that the profile hands out
module _ (profile : Content) (k : ℕ) (slice : List Constraint) (with item : Constraint)
    (is : slice ≡ profile.constraints) (from_1 : 1 ≤ k) (to_last : k ≤ length profile.constraints)
    (read : item ≡ get_or slice (k - 1) item) (negation : with ≡ Not item) where
  found : slice_get profile.constraints (k - 1) ≡ Some item
  found = slice_get-get_or profile.constraints (k - 1) item (omega arith)
      ∙ ap Some (sym (read ∙ ap (λ l. get_or l (k - 1) item) is))

  pub stays_valid : IsValidProfile profile → IsValidProfile (replaced profile k with)
  stays_valid valid = subst (λ c. IsValidProfile (replaced profile k c)) (sym negation)
      (negated_is_valid profile k item found valid)

  pub is_violated : (new : Content) → new ≡ replaced profile k with → new ≡ violating profile k
  is_violated new replaced_is = replaced_is ∙ (ap (λ c. replaced profile k c) negation
      ∙ sym (violating_is profile k item from_1 found))
