use Rattle.std.proofs.Common.{take, sym, ◌∙◌, ap}
use Rattle.std.proofs.lemmas.List.{take-set}
use Rattle.helix_output.specs.LineLaws.{agrees_from}
use Rattle.helix_output.proofs.tests.trade.change.Goals as goal

pub csv_next-requires-clause-agrees : goal.csv_next-requires-clause-agrees
csv_next-requires-clause-agrees g c =
    agrees_from c.args.i _ c.args.row.now _ c.requires
    (sym (ap (take c.args.i) c.set.ensures ∙ take-set c.args.row.now c.args.i _))
