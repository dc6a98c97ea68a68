use Rattle.std.proofs.Common.{false, true, [], ◌∷◌, refl, arith}
use Rattle.helix_values.specs.declared.cell.Cell.TheVariants as cell
use Rattle.helix_domains.proofs.Listing.{truths_have}
use Rattle.helix_domains.proofs.sets.truths.Goals as goal

pub listed-requires-clause-all : goal.listed-requires-clause-all
listed-requires-clause-all c = truths_have c.args.atoms.now (cell.Bool false ∷ cell.Bool true ∷ [])
    (0, omega arith, refl)
    (1, omega arith, refl)

pub listed-requires-clause-chosen : goal.listed-requires-clause-chosen
listed-requires-clause-chosen c = λ v has k d none. cc
