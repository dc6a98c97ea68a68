-- What a question counts.
use Rattle.std.specs.Prelude.{◌≡◌, ℕ, ◌+◌, ◌*◌}
use Rattle.helix_base.specs.Steps.{Tally, ticked}
use Rattle.helix_base.specs.declared.steps.Unit.{Unit as Step}
use Rattle.helix_base.specs.declared.steps.Unit.TheVariants.{Domain}
use Rattle.helix_values.specs.Class.{Class, strings}
use Rattle.helix_values.specs.Counts.{characters}
use Rattle.helix_words.specs.Moves.{MovedAtMost}

-- one question, which is counted and noted once, and then at most so many moves
pub record AsksOnce {L : Type 0} (IsNoted : L → Step → L → Type 0) (most : ℕ) (old new : Tally L) : Type 0 where
  pub asked : Tally L
  pub counted : asked.counts ≡ ticked old.counts Domain
  pub noted : IsNoted old.ledger Domain asked.ledger
  pub moves : MovedAtMost IsNoted most asked new

-- the most moves of a question to values of a class: only texts are read by an automaton, which has at most as many
-- arcs from a state as there are characters
abbrev pub most_moves : Class → ℕ
most_moves strings = 1001 + 2002 * (1 + characters)
most_moves other = 0
