-- A violated profile has the negation in place of one constraint.
use Rattle.std.proofs.Common.{◌≡◌, ℕ, zero, suc, ◌-◌, ◌≤◌, Some, List, [], ◌∷◌, slice_set, ◌∙◌, ap, arith}
use Rattle.std.specs.List.{slice_get}
use Rattle.helix_profile.specs.Change.{replaced}
use Rattle.helix_profile.specs.Content.{Content}
use Rattle.helix_profile.specs.Violation.{negated_at, violating}
use Rattle.helix_profile.specs.declared.constraint.Constraint.{Constraint}
use Rattle.helix_profile.specs.declared.constraint.Constraint.TheViews.{Not}

negated : (constraints : List Constraint) (i : ℕ) (c : Constraint) → slice_get constraints i ≡ Some c
    → negated_at constraints (suc i) ≡ slice_set constraints i (Not c)
negated [] i c is = cc
negated (d ∷ constraints) zero c is = let same : d ≡ c = cc in ap (λ x. Not x ∷ constraints) same
negated (d ∷ constraints) (suc i) c is = ap (λ l. d ∷ l) (negated constraints i c is)

pub violating_is : (profile : Content) (k : ℕ) (c : Constraint) → 1 ≤ k → slice_get profile.constraints (k - 1) ≡ Some c
    → violating profile k ≡ replaced profile k (Not c)
violating_is profile k c some is =
    let next : k ≡ suc (k - 1) = omega arith in
    ap (λ cs. record { fields = profile.fields; constraints = cs })
    (ap (negated_at profile.constraints) next ∙ negated profile.constraints (k - 1) c is)
