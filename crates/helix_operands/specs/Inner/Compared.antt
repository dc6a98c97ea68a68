-- The tests that compare with a value.
use Rattle.helix_profile.specs.declared.relation.Compare.{Compare}
use Rattle.helix_profile.specs.declared.relation.Compare.TheVariants as compare
use Rattle.helix_profile.specs.declared.test.Test.{Test}
use Rattle.helix_profile.specs.declared.test.Test.TheVariants as test
use Rattle.helix_values.specs.declared.cell.Cell.{Cell}

-- the test that a value compares so
abbrev pub compared : Compare → Cell → Test
compared compare.Equal value = test.EqualTo value
compared compare.Above value = test.Above value
compared compare.AtLeast value = test.AtLeast value
compared compare.Below value = test.Below value
compared compare.AtMost value = test.AtMost value
