-- The trees of fields, while relations are read.
use Rattle.std.specs.Prelude.{◌≡◌, ◌≢◌, ℕ, ◌<◌, ◌≤◌, Bool, true, false, ◌==◌, if◌then◌else◌, List, [], ◌∷◌, ◌++◌, length, slice_index}
use Rattle.helix_profile.specs.declared.relation.Relation.{Relation}
use Rattle.helix_profile.specs.Forest.{AreJoined, IsForest}
use Rattle.helix_forest.specs.Closing.{AreLinked}
use Rattle.helix_forest.specs.declared.forest.Trees.{Trees}

-- the label of each field is the field
pub record AreOwn (labels : List ℕ) (fields : ℕ) : Type 0 where
  pub count : length labels ≡ fields
  pub own : (k : ℕ) → k < fields → slice_index labels k ≡ k

-- another label in place of one
abbrev pub other_label : ℕ → ℕ → ℕ → ℕ
other_label from to label = if label == from then to else label

-- the first `count` labels are replaced, and the others are as they were
pub record ReplacesUpTo (from to : ℕ) (old new : List ℕ) (count : ℕ) : Type 0 where
  pub same_length : length new ≡ length old
  pub done : (k : ℕ) → k < count → slice_index new k ≡ other_label from to (slice_index old k)
  pub left : (k : ℕ) → count ≤ k → slice_index new k ≡ slice_index old k

-- all labels are replaced
abbrev pub IsRelabelled : ℕ → ℕ → List ℕ → List ℕ → Type 0
IsRelabelled from to old new = ReplacesUpTo from to old new (length old)

-- The relations are a forest of labelled fields, the lines join the same pairs, and two fields have one label exactly
-- where they are linked.
pub record AreTreesOf (relations : List Relation) (labels : List ℕ) (lines : List Relation) : Type 0 where
  pub forest : IsForest relations
  pub within : (f g : ℕ) → AreJoined relations f g → (f < length labels) × (g < length labels)
  pub in_lines : (f g : ℕ) → AreJoined relations f g → AreJoined lines f g
  pub of_lines : (f g : ℕ) → AreJoined lines f g → AreJoined relations f g
  pub labelled : (f g : ℕ) → AreJoined relations f g → slice_index labels f ≡ slice_index labels g
  pub linked : (f g : ℕ) → f < length labels → g < length labels → slice_index labels f ≡ slice_index labels g → f ≢ g
      → AreLinked relations f g

-- The relation was added, or its ends are linked and no pair of those before it.
abbrev pub TellsOfNext : Trees → Trees → Relation → Bool → Type 0
TellsOfNext old new relation true = (relations : List Relation) → AreTreesOf relations old.labels.items old.lines
    → AreTreesOf (relations ++ relation ∷ []) new.labels.items new.lines
TellsOfNext old new relation false = (relations : List Relation) → AreTreesOf relations old.labels.items old.lines
    → (¬ AreJoined relations relation.left relation.right) × AreLinked relations relation.left relation.right
