-- Signed tests that can't both hold of one value, as far as that is seen without a search.
use Rattle.std.specs.Prelude.{ℤ, ◌==◌, Bool, true, false, not, ◌&&◌, ◌||◌, if◌then◌else◌, Option, None, Some}
use Rattle.std.specs.Int.Signed.{lt_z, le_z}
use Rattle.helix_profile.specs.declared.test.Atom.{Atom}
use Rattle.helix_profile.specs.declared.test.Test.{Test}
use Rattle.helix_profile.specs.declared.test.Test.TheVariants as test
use Rattle.helix_tree.specs.TestDecisionLaws.{dec_holds}
use Rattle.helix_tree.specs.declared.literal.Literal.{Literal}
use Rattle.helix_tree.specs.declared.literal.Literal.TheVariants.{Plain}
use Rattle.helix_options.specs.declared.clash.Bound.{Bound}
use Rattle.helix_values.specs.declared.cell.Cell.{Cell}
use Rattle.helix_values.specs.declared.cell.Cell.TheVariants as cell

-- a decision as a truth value
abbrev pub decided : {A : Type 0} → Dec A → Bool
decided (yes a) = true
decided (no none) = false

abbrev pub both_or_none : Bool → Bool → Bool
both_or_none a b = if a then b else not b

-- The test is decided at once of a value: no pattern is matched, and no set searched.
abbrev pub is_quick : Test → Bool
is_quick (test.InSet members) = false
is_quick (test.Matching regex) = false
is_quick (test.Containing regex) = false
is_quick other = true

-- the first test says that the value is its operand, of which the second one isn't as its sign says
unfoldable pub fixes_against : Test → Bool → Test → Bool → Bool
fixes_against (test.EqualTo operand) true other sign =
    is_quick other && not (both_or_none sign (decided (dec_holds other operand)))
fixes_against first own other sign = false

-- a bound of numbers or of moments
abbrev pub bound_at : Bool → Bool → Cell → Option Bound
bound_at upper excluded (cell.Number units) = Some (record { upper = upper; excluded = excluded; moments = false; at = units })
bound_at upper excluded (cell.Moment millis) = Some (record { upper = upper; excluded = excluded; moments = true; at = millis })
bound_at upper excluded other = None

-- the bound that a signed test is; the opposite of a bound is one from the other side
unfoldable pub bound_of : Test → Bool → Option Bound
bound_of (test.Above at) sign = bound_at (not sign) sign at
bound_of (test.AtLeast at) sign = bound_at (not sign) (not sign) at
bound_of (test.Below at) sign = bound_at sign sign at
bound_of (test.AtMost at) sign = bound_at sign (not sign) at
bound_of other sign = None

-- nothing is above the one and below the other, or where both are kept, from the one to the other
abbrev pub none_between : Bool → ℤ → ℤ → Bool
none_between true low high = le_z high low
none_between false low high = lt_z high low

abbrev pub apart : Option Bound → Option Bound → Bool
apart (Some low) (Some high) = not low.upper && high.upper && both_or_none low.moments high.moments
    && none_between (low.excluded || high.excluded) low.at high.at
apart low high = false

-- the first test is a bound from below and the second one from above, and nothing is between them; one of them isn't
-- the opposite of a test, so the value is one that is compared
unfoldable pub bounds_against : Test → Bool → Test → Bool → Bool
bounds_against first own other sign = (own || sign) && apart (bound_of first own) (bound_of other sign)

-- two signed tests of one value
abbrev pub clash : Test → Bool → Test → Bool → Bool
clash first own other sign = fixes_against first own other sign || fixes_against other sign first own
    || bounds_against first own other sign || bounds_against other sign first own

-- a signed test of a field, and a literal
abbrev pub clashes_with : Atom → Bool → Literal → Bool
clashes_with atom sign (Plain other own strict) = (other.field == atom.field) && clash atom.test sign other.test own
clashes_with atom sign other = false
