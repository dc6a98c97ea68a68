use Rattle.helix_outside.proofs.Lookups.{bytes_at_index, bytes_at_end}
use Rattle.helix_outside.proofs.entries.index_or_end.Goals as goal

pub returns-in-Some : goal.returns-in-Some
returns-in-Some c = bytes_at_index _ _ _ c.in-Some.ensures.found

pub returns-in-None : goal.returns-in-None
returns-in-None c = bytes_at_end _ _ c.in-None.ensures.missing
