use Rattle.std.proofs.Common.{◌≡◌}
use Rattle.helix_domains.proofs.tests.ask.added.Given as goal

abbrev pub invariant-loop-signed : goal.invariant-loop-signed
invariant-loop-signed l = l.domain.field.kind ≡ l.kind
