use Rattle.std.proofs.Common.{refl}
use Rattle.helix_values.specs.declared.kind.Kind.TheVariants.{Boolean}
use Rattle.helix_links.proofs.tests.equality.Goals as goal

pub returns-clause-texts : goal.returns-clause-texts
returns-clause-texts c = record { comparison = refl; offset = (Boolean, refl) }

pub returns-clause-truth_values : goal.returns-clause-truth_values
returns-clause-truth_values c = record { comparison = refl; offset = (Boolean, refl) }
