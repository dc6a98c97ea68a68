-- What a literal and a tree of literals say of a row.
use Rattle.std.specs.Prelude.{◌≡◌, Bool, true, false, MatchBool, List, [], ◌∷◌, ◌⊎◌}
use Rattle.helix_values.specs.declared.cell.Cell.{Cell}
use Rattle.helix_profile.specs.Holds as value
use Rattle.helix_profile.specs.Satisfaction.{cell_at, is_null, Signed}
use Rattle.helix_tree.specs.declared.literal.Literal.{Literal}
use Rattle.helix_tree.specs.declared.literal.Literal.TheVariants as literal
use Rattle.helix_tree.specs.declared.tree.Tree.{Tree, Lit, All', Any', Row_of-Tree, end_of-Tree, more_of-Tree}

-- at null a weak literal holds, and a strict one doesn't
abbrev pub AtNull : Bool → Type 0
AtNull strict = MatchBool strict ⊥ (Unit {0})

-- a fact of the value of a cell, where it has one
abbrev pub HoldsAt : Bool → Cell → Type 0 → Type 0
HoldsAt strict cell Fact = MatchBool (is_null cell) (AtNull strict) Fact

-- The first flag is the sign: with minus, the test or the relation doesn't hold. The second one says strict.
abbrev pub LiteralHolds : Literal → List Cell → Type 0
LiteralHolds (literal.Null field) row = is_null (cell_at row field) ≡ true
LiteralHolds (literal.NotNull field) row = is_null (cell_at row field) ≡ false
LiteralHolds (literal.Plain atom sign strict) row =
    HoldsAt strict (cell_at row atom.field) (Signed sign (value.Holds atom.test (cell_at row atom.field)))
LiteralHolds (literal.Joined relation sign strict) row =
    HoldsAt strict (cell_at row relation.left) (HoldsAt strict (cell_at row relation.right)
    (Signed sign (value.Related relation (cell_at row relation.left) (cell_at row relation.right))))

abbrev mutual
  -- `All` is every part, and `Any` is some part
  pub TreeHolds : Tree → List Cell → Type 0
  TreeHolds (Lit literal) row = LiteralHolds literal row
  TreeHolds (All' shape parts) row = EachPartHolds parts row
  TreeHolds (Any' shape parts) row = SomePartHolds parts row

  pub EachPartHolds : {m : _} → Row_of-Tree m → List Cell → Type 0
  EachPartHolds end_of-Tree row = Unit {0}
  EachPartHolds (more_of-Tree part parts) row = TreeHolds part row × EachPartHolds parts row

  pub SomePartHolds : {m : _} → Row_of-Tree m → List Cell → Type 0
  SomePartHolds end_of-Tree row = ⊥
  SomePartHolds (more_of-Tree part parts) row = TreeHolds part row ⊎ SomePartHolds parts row

-- each tree of a list holds
abbrev pub AllHold : List Tree → List Cell → Type 0
AllHold [] row = Unit {0}
AllHold (tree ∷ trees) row = TreeHolds tree row × AllHold trees row

-- some tree of a list holds
abbrev pub AnyHold : List Tree → List Cell → Type 0
AnyHold [] row = ⊥
AnyHold (tree ∷ trees) row = TreeHolds tree row ⊎ AnyHold trees row
