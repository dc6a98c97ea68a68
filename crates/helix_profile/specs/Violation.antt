-- The profile with one constraint violated.
use Rattle.std.specs.Prelude.{ℕ, zero, suc, List, [], ◌∷◌}
use Rattle.helix_profile.specs.Content.{Content}
use Rattle.helix_profile.specs.declared.constraint.Constraint.{Constraint}
use Rattle.helix_profile.specs.declared.constraint.Constraint.TheViews.{Not}

-- the constraint of a number, counted from 1, is replaced by `not` of it; no other number changes anything
abbrev pub negated_at : List Constraint → ℕ → List Constraint
negated_at [] number = []
negated_at (constraint ∷ constraints) zero = constraint ∷ constraints
negated_at (constraint ∷ constraints) (suc zero) = Not constraint ∷ constraints
negated_at (constraint ∷ constraints) (suc (suc number)) = constraint ∷ negated_at constraints (suc number)

abbrev pub violating : Content → ℕ → Content
violating profile number = record { fields = profile.fields; constraints = negated_at profile.constraints number }
