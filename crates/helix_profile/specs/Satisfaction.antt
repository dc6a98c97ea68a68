-- When a row satisfies a constraint, with a sign: true is plus, and false is minus, the constraint's negation.
-- Minus isn't the complement of plus: at null a plain test and a relation are satisfied with both signs.
use Rattle.std.specs.Prelude.{◌≡◌, ℕ, Bool, true, false, MatchBool, List, [], ◌∷◌, ◌⊎◌, slice_index_or}
use Rattle.helix_values.specs.declared.cell.Cell.{Cell}
use Rattle.helix_values.specs.declared.cell.Cell.TheVariants as cell
use Rattle.helix_profile.specs.declared.constraint.Constraint.{Constraint, Atom, Related, Not', AllOf', AnyOf', If', Row_of-Constraint, end_of-Constraint, more_of-Constraint, Held-Constraint-If-2, None', Some'}
use Rattle.helix_profile.specs.declared.relation.Relation.{Relation}
use Rattle.helix_profile.specs.declared.test.Test.{Test}
use Rattle.helix_profile.specs.declared.test.Test.TheVariants as test
use Rattle.helix_profile.specs.Holds as value

-- the cell of a field, which is numbered from 0
abbrev pub cell_at : List Cell → ℕ → Cell
cell_at row field = slice_index_or row field cell.Null

-- the cell is null
abbrev pub is_null : Cell → Bool
is_null cell.Null = true
is_null value = false

-- a fact, or with minus that it doesn't hold
abbrev pub Signed : Bool → Type 0 → Type 0
Signed sign Fact = MatchBool sign Fact (¬ Fact)

-- the null rule: at null any fact of the value counts as satisfied
abbrev pub UnlessNull : Cell → Type 0 → Type 0
UnlessNull cell Fact = MatchBool (is_null cell) (Unit {0}) Fact

-- A test of a cell. That of null looks at null itself, any other one is plain.
abbrev pub TestSatisfied : Test → Cell → Bool → Type 0
TestSatisfied (test.IsNull true) cell true = is_null cell ≡ true
TestSatisfied (test.IsNull true) cell false = is_null cell ≡ false
TestSatisfied (test.IsNull false) cell true = is_null cell ≡ false
TestSatisfied (test.IsNull false) cell false = is_null cell ≡ true
TestSatisfied plain cell sign = UnlessNull cell (Signed sign (value.Holds plain cell))

-- a relation of two cells
abbrev pub RelationSatisfied : Relation → Cell → Cell → Bool → Type 0
RelationSatisfied relation x y sign = UnlessNull x (UnlessNull y (Signed sign (value.Related relation x y)))

abbrev mutual
  -- The parts of a `Not` and of an `If` are rows of one constraint each.
  pub Satisfies : Constraint → List Cell → Bool → Type 0
  Satisfies (Atom atom) row sign = TestSatisfied atom.test (cell_at row atom.field) sign
  Satisfies (Related relation) row sign =
      RelationSatisfied relation (cell_at row relation.left) (cell_at row relation.right) sign
  Satisfies (Not' pointer negated) row true = EachSatisfied negated row false
  Satisfies (Not' pointer negated) row false = EachSatisfied negated row true
  Satisfies (AllOf' shape parts) row true = EachSatisfied parts row true
  Satisfies (AllOf' shape parts) row false = SomeSatisfied parts row false
  Satisfies (AnyOf' shape parts) row true = SomeSatisfied parts row true
  Satisfies (AnyOf' shape parts) row false = EachSatisfied parts row false
  Satisfies (If' pointer condition other_pointer consequent otherwise) row sign =
      (EachSatisfied condition row true × EachSatisfied consequent row sign)
      ⊎ (EachSatisfied condition row false × ElseSatisfied otherwise row sign)

  -- all parts are satisfied, each with the sign
  pub EachSatisfied : {m : _} → Row_of-Constraint m → List Cell → Bool → Type 0
  EachSatisfied end_of-Constraint row sign = Unit {0}
  EachSatisfied (more_of-Constraint part parts) row sign = Satisfies part row sign × EachSatisfied parts row sign

  -- some part is satisfied, with the sign
  pub SomeSatisfied : {m : _} → Row_of-Constraint m → List Cell → Bool → Type 0
  SomeSatisfied end_of-Constraint row sign = ⊥
  SomeSatisfied (more_of-Constraint part parts) row sign = Satisfies part row sign ⊎ SomeSatisfied parts row sign

  -- without an `else` nothing is asked where the condition is negated, and so nothing is there to negate
  pub ElseSatisfied : Held-Constraint-If-2 → List Cell → Bool → Type 0
  ElseSatisfied None' row true = Unit {0}
  ElseSatisfied None' row false = ⊥
  ElseSatisfied (Some' pointer other) row sign = EachSatisfied other row sign

-- all constraints of a list are satisfied, each with the sign
abbrev pub AllSatisfied : List Constraint → List Cell → Bool → Type 0
AllSatisfied [] row sign = Unit {0}
AllSatisfied (constraint ∷ constraints) row sign = Satisfies constraint row sign × AllSatisfied constraints row sign

-- some constraint of a list is satisfied, with the sign
abbrev pub AnySatisfied : List Constraint → List Cell → Bool → Type 0
AnySatisfied [] row sign = ⊥
AnySatisfied (constraint ∷ constraints) row sign = Satisfies constraint row sign ⊎ AnySatisfied constraints row sign
