-- Steps of a walk: their counts, and the ledger that they are noted in.
use Rattle.std.specs.Prelude.{ℕ}
use Rattle.helix_base.specs.Count.{raised}
use Rattle.helix_base.specs.declared.steps.Unit.{Unit as Step}
use Rattle.helix_base.specs.declared.steps.Unit.TheVariants.{Domain, Move}

-- a count for each unit
pub record Counted : Type 0 where
  pub domain : ℕ
  pub moves : ℕ

-- nothing is counted yet
abbrev pub no_steps : Counted
no_steps = record { domain = 0; moves = 0 }

-- the count of a unit
abbrev pub count_of : Counted → Step → ℕ
count_of counts Domain = counts.domain
count_of counts Move = counts.moves

-- the count of the unit is raised, and the other one stays
abbrev pub ticked : Counted → Step → Counted
ticked counts Domain = record { domain = raised counts.domain; moves = counts.moves }
ticked counts Move = record { domain = counts.domain; moves = raised counts.moves }

-- the counts, and the ledger
pub record Tally (L : Type 0) : Type 0 where
  pub counts : Counted
  pub ledger : L
