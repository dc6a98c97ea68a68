-- What an equality and a negated one allow.
use Rattle.std.specs.Prelude.{◌≡◌, ◌≢◌, Bool, true, if◌then◌else◌}
use Rattle.helix_values.specs.declared.cell.Cell.{Cell}
use Rattle.helix_values.specs.Class.{Class, booleans, strings}
use Rattle.helix_values.specs.Order.{CellLess}
use Rattle.helix_links.specs.declared.equality_link.EqualityLink.{EqualityLink}

-- the class of texts, or of truth values
abbrev pub class_where : Bool → Class
class_where texts = if texts then strings else booleans

abbrev pub class_of_equality : EqualityLink → Class
class_of_equality link = class_where link.texts

-- the two values are equal where that is told, and different where that is
abbrev pub AreAsTold : Bool → Bool → Cell → Cell → Type 0
AreAsTold equal different parent child = (equal ≡ true → child ≡ parent) × (different ≡ true → child ≢ parent)

-- with an equality the child isn't below the parent,
abbrev pub IsAtLeast : EqualityLink → Cell → Cell → Type 0
IsAtLeast link parent child = link.equal ≡ true → ¬ CellLess child parent

-- nor above it,
abbrev pub IsAtMost : EqualityLink → Cell → Cell → Type 0
IsAtMost link parent child = link.equal ≡ true → ¬ CellLess parent child

-- and with a negated one it is another value
abbrev pub IsOther : EqualityLink → Cell → Cell → Type 0
IsOther link parent child = link.different ≡ true → child ≢ parent
