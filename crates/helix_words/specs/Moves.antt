-- Moves of automata, as steps that are counted and noted.
use Rattle.std.specs.Prelude.{◌≡◌, ℕ, zero, suc, ◌≤◌}
use Rattle.helix_base.specs.Steps.{Tally, ticked}
use Rattle.helix_base.specs.declared.steps.Unit.{Unit as Step}
use Rattle.helix_base.specs.declared.steps.Unit.TheVariants.{Move}

-- one move: it is counted, and noted in the ledger once
pub record IsMove {L : Type 0} (IsNoted : L → Step → L → Type 0) (old new : Tally L) : Type 0 where
  pub counted : new.counts ≡ ticked old.counts Move
  pub noted : IsNoted old.ledger Move new.ledger

-- n moves, one after the other
abbrev pub AreMoves : {L : Type 0} → (L → Step → L → Type 0) → ℕ → Tally L → Tally L → Type 0
AreMoves IsNoted zero old new = new ≡ old
AreMoves {L} IsNoted (suc n) old new = (middle : Tally L) × AreMoves IsNoted n old middle × IsMove IsNoted middle new

-- at most as many moves as a bound, and nothing else
pub record MovedAtMost {L : Type 0} (IsNoted : L → Step → L → Type 0) (bound : ℕ) (old new : Tally L) : Type 0 where
  pub moves : ℕ
  pub few : moves ≤ bound
  pub moved : AreMoves IsNoted moves old new
