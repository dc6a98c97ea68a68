-- Which relation closes a cycle: two fields are joined anew that earlier relations join already.
use Rattle.std.specs.Prelude.{◌≡◌, ◌≢◌, ℕ, ◌<◌, Some, List, take}
use Rattle.std.specs.List.{slice_get}
use Rattle.helix_profile.specs.declared.relation.Relation.{Relation}
use Rattle.helix_profile.specs.Forest.{AreJoined, IsPathTo, IsForest}
use Rattle.helix_forest.specs.declared.fault.ForestFault.{ForestFault}
use Rattle.helix_forest.specs.declared.fault.ForestFault.TheVariants.{Cycle, Memory}

-- the two ends are different fields of so many
pub record HasEndsBelow (fields : ℕ) (relation : Relation) : Type 0 where
  pub left : relation.left < fields
  pub right : relation.right < fields
  pub different : relation.left ≢ relation.right

-- relations lead from one field to the other, maybe by others in between
abbrev pub AreLinked : List Relation → ℕ → ℕ → Type 0
AreLinked relations from to = (between : List ℕ) × IsPathTo relations to from between

-- The two ends of the relation of this index, counted from 0, are no pair of an earlier relation, and earlier ones lead
-- from one to the other.
pub record ClosesCycle (relations : List Relation) (index : ℕ) : Type 0 where
  pub relation : Relation
  pub is : slice_get relations index ≡ Some relation
  pub new_pair : ¬ AreJoined (take index relations) relation.left relation.right
  pub linked : AreLinked (take index relations) relation.left relation.right

-- the first relation that closes a cycle, of relations that are no forest
pub record IsFirstToClose (relations : List Relation) (index : ℕ) : Type 0 where
  pub closes : ClosesCycle relations index
  pub first : (earlier : ℕ) → earlier < index → ¬ ClosesCycle relations earlier
  pub no_forest : ¬ IsForest relations

-- the index that a fault tells is that of the first relation that closes a cycle
abbrev pub TellsCycle : List Relation → ForestFault → Type 0
TellsCycle relations (Cycle index) = IsFirstToClose relations index
TellsCycle relations Memory = Unit {0}
