use Rattle.std.specs.Bool.{OnTrue}
use Rattle.helix_domains.specs.Near.{IsNear}
use Rattle.helix_domains.proofs.tests.ask.goes_through.Given as goal

abbrev pub invariant-loop-i : goal.invariant-loop-i
invariant-loop-i l = OnTrue l.found (IsNear l.domain l.near l.slot)
