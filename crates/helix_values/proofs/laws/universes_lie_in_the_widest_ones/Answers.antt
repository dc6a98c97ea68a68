use Rattle.helix_values.proofs.OwnLevels.{on_own_level}
use Rattle.helix_values.specs.UniverseLaws.{in_widest}
use Rattle.helix_values.proofs.laws.universes_lie_in_the_widest_ones.Goals as goal

pub returns-clause-widest : goal.returns-clause-widest
returns-clause-widest c = in_widest

pub returns-clause-own_level : goal.returns-clause-own_level
returns-clause-own_level c = on_own_level
