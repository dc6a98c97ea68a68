use Rattle.helix_values.specs.UniverseLaws.{basic_in_latin, latin_in_unicode}
use Rattle.helix_values.proofs.laws.alphabets_hold_the_smaller_ones.Goals as goal

pub returns-clause-latin : goal.returns-clause-latin
returns-clause-latin c = basic_in_latin

pub returns-clause-unicode : goal.returns-clause-unicode
returns-clause-unicode c = latin_in_unicode
