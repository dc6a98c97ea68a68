use Rattle.helix_values.specs.View.{cell_of}
use Rattle.helix_domains.proofs.Readiness.{has_characters}
use Rattle.helix_domains.proofs.allowed.is_allowed.Goals as goal

pub passes_all-requires-clause-characters : goal.passes_all-requires-clause-characters
passes_all-requires-clause-characters c = has_characters c.args.kind (cell_of c.args.value)
    (c.in_universe.ensures.0 c.if-not-in_universe.false)
