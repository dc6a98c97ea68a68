-- What a search says of the steps that it counts.
use Rattle.std.specs.Prelude.{◌≤◌}
use Rattle.helix_base.specs.Steps.{Tally}

-- no count has fallen
pub record CountsGrow {L : Type 0} (old new : Tally L) : Type 0 where
  pub domain : old.counts.domain ≤ new.counts.domain
  pub moves : old.counts.moves ≤ new.counts.moves
