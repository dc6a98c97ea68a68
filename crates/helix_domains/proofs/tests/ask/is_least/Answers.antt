use Rattle.std.proofs.Common.{sym, subst}
use Rattle.helix_values.specs.Class.{class_of_kind}
use Rattle.helix_values.specs.Counts.{IsMarkBound}
use Rattle.helix_values.specs.View.{cell_of}
use Rattle.helix_domains.proofs.OfKinds.{in_class}
use Rattle.helix_domains.proofs.tests.ask.is_least.Goals as goal

pub at_or_after-found-requires : goal.at_or_after-found-requires
at_or_after-found-requires c =
    subst (λ k. IsMarkBound (class_of_kind k) (cell_of c.args.cell)) (sym c.requires)
    (in_class c.args.kind (cell_of c.args.cell) (c.in_universe.ensures.0 c.if-not-in_universe.false))
