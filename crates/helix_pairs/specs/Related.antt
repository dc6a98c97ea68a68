-- What a relation says of the values of two fields, of which one is called the parent and the other the child.
use Rattle.std.specs.Prelude.{◌≡◌, ◌≢◌, ℤ, ◌<ℤ◌, ◌≤ℤ◌}
use Rattle.helix_pairs.specs.declared.comparison.Comparison.{Comparison}
use Rattle.helix_pairs.specs.declared.comparison.Comparison.TheVariants.{Equal, Different, Above, AtLeast, Below, AtMost}
use Rattle.helix_pairs.specs.declared.comparison.End.{End}
use Rattle.helix_pairs.specs.declared.comparison.End.TheVariants.{Left, Right}

-- how two whole numbers compare
abbrev pub Relates : Comparison → ℤ → ℤ → Type 0
Relates Equal x y = x ≡ y
Relates Different x y = x ≢ y
Relates Above x y = y <ℤ x
Relates AtLeast x y = y ≤ℤ x
Relates Below x y = x <ℤ y
Relates AtMost x y = x ≤ℤ y

-- the child is the left end or the right one, and the value of the right end is shifted
abbrev pub AreRelated : Comparison → End → (ℤ → ℤ) → ℤ → ℤ → Type 0
AreRelated comparison Left shifted parent child = Relates comparison child (shifted parent)
AreRelated comparison Right shifted parent child = Relates comparison parent (shifted child)
