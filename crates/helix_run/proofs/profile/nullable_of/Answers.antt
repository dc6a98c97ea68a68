use Rattle.std.proofs.Common.{◌≡◌, Bool, refl, true, false, Option, Some, None}
use Rattle.helix_run.proofs.profile.nullable_of.Goals as goal

pub returns-then-follows-clause-says : goal.returns-then-follows-clause-says
returns-then-follows-clause-says c = record { written = None; says = refl; closes = c.if-follows.ensures.0 refl }

pub returns-then-follows-2-clause-says : goal.returns-then-follows-2-clause-says
returns-then-follows-2-clause-says c =
    record { written = Some true; says = refl; closes = c.if-follows-2.ensures.0 refl }

pub returns-then-follows-3-clause-says : goal.returns-then-follows-3-clause-says
returns-then-follows-3-clause-says c =
    record { written = Some false; says = refl; closes = c.if-follows-3.ensures.0 refl }

-- what holds of each way to write it
each_written : (P : Option Bool → Type 0) → P None → P (Some true) → P (Some false) → (written : Option Bool)
    → P written
each_written P nothing true_says false_says None = nothing
each_written P nothing true_says false_says (Some true) = true_says
each_written P nothing true_says false_says (Some false) = false_says

refuted : (F : Type 0) → (F → false ≡ true) → F → ⊥
refuted F h f = let e : false ≡ true = h f in absurd (cc)

pub returns-else-follows-3-clause-none : goal.returns-else-follows-3-clause-none
returns-else-follows-3-clause-none c =
    each_written _ (refuted _ c.if-follows.ensures.1) (refuted _ c.if-follows-2.ensures.1)
    (refuted _ c.if-follows-3.ensures.1)
