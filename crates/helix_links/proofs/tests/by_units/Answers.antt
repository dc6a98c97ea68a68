use Rattle.std.proofs.Common.{arith}
use Rattle.std.proofs.lemmas.Int.{ints, clamps}
use Rattle.helix_values.specs.declared.kind.Kind.TheVariants.{Decimal}
use Rattle.helix_links.proofs.tests.by_units.Goals as goal

pub returns : goal.returns
returns c = record {
  comparison = tt;
  offset = (Decimal, omega (arith, ints, clamps, c.from.ensures, c.ranges.units.fits));
}
