-- When a path holds, and what is promised of the paths of a part.
use Rattle.std.specs.Prelude.{◌≤◌, true, List, [], ◌∷◌, ◌⊎◌, length, slice_get}
use Rattle.std.specs.List.{AllByRecursion, filter_map}
use Rattle.helix_profile.specs.Content.{Content}
use Rattle.helix_profile.specs.Fields.{all_relations}
use Rattle.helix_profile.specs.Good.{AreCellsOf}
use Rattle.helix_profile.specs.Satisfaction.{AllSatisfied}
use Rattle.helix_profile.specs.Width.{product_of_widths}
use Rattle.helix_profile.specs.declared.constraint.Constraint.{Constraint}
use Rattle.helix_partition.specs.declared.partition.Partition.{Partition}
use Rattle.helix_tree.specs.Tree.{LiteralHolds}
use Rattle.helix_tree.specs.declared.literal.Literal.{Literal}
use Rattle.helix_values.specs.declared.cell.Cell.{Cell}
use Rattle.helix_options.specs.Literals.{IsLiteralOf}

-- all literals of a path hold
abbrev pub PathHolds : List Cell → List Literal → Type 0
PathHolds row path = AllByRecursion (λ literal. LiteralHolds literal row) path

-- exactly one path of a list holds
abbrev pub ExactlyOneHolds : List Cell → List (List Literal) → Type 0
ExactlyOneHolds row [] = ⊥
ExactlyOneHolds row (path ∷ paths) =
    (PathHolds row path × AllByRecursion (λ other. ¬ PathHolds row other) paths)
    ⊎ ((¬ PathHolds row path) × ExactlyOneHolds row paths)

-- no path of a list holds
abbrev pub NoneHolds : List Cell → List (List Literal) → Type 0
NoneHolds row paths = AllByRecursion (λ path. ¬ PathHolds row path) paths

-- the constraints of a part
abbrev pub constraints_of : Content → Partition → List Constraint
constraints_of profile part = filter_map (slice_get profile.constraints) part.constraints

-- The row satisfies the constraints of the part where exactly one path holds, and doesn't where none does. Only rows of
-- cells of the profile's fields are meant.
pub record IsExactFor (profile : Content) (part : Partition) (paths : List (List Literal)) : Type 0 where
  pub satisfied : (row : List Cell) → AreCellsOf profile.fields row
      → AllSatisfied (constraints_of profile part) row true → ExactlyOneHolds row paths
  pub others : (row : List Cell) → AreCellsOf profile.fields row
      → ¬ AllSatisfied (constraints_of profile part) row true → NoneHolds row paths

-- there are at most as many paths as the product of the widths of the part's constraints
abbrev pub IsFewFor : Content → Partition → List (List Literal) → Type 0
IsFewFor profile part paths = length paths ≤ product_of_widths (λ _. true) (constraints_of profile part)

-- all literals are valid ones about fields of the part, and their relations are strict ones of the profile
abbrev pub AreValidFor : Content → Partition → List (List Literal) → Type 0
AreValidFor profile part paths =
    AllByRecursion
    (λ path. AllByRecursion (IsLiteralOf profile.fields part.fields (all_relations profile.constraints)) path) paths
