-- A region: fields of a profile, each with the cells that it can have, and relations between them; and its rows.
use Rattle.std.specs.Prelude.{◌≡◌, ℕ, Bool, true, false, IsTrue, List, [], ◌∷◌, ◌⊎◌, map, take, slice_index}
use Rattle.std.specs.List.{AllByRecursion}
use Rattle.std.specs.List.Sorted.{IsStrictlyIncreasing}
use Rattle.helix_values.specs.declared.cell.Cell.{Cell}
use Rattle.helix_profile.specs.Forest.{IsForest}
use Rattle.helix_profile.specs.Good.{IsCellOf}
use Rattle.helix_profile.specs.Holds.{Related}
use Rattle.helix_profile.specs.Satisfaction.{cell_at, is_null, Signed, UnlessNull}
use Rattle.helix_profile.specs.Validity.{IsRelationFor}
use Rattle.helix_profile.specs.declared.field.Field.{Field}
use Rattle.helix_profile.specs.declared.relation.Relation.{Relation}
use Rattle.helix_domains.specs.Domain.{PassesAtom}
use Rattle.helix_domains.specs.declared.atom.SignedAtom.{SignedAtom}
use Rattle.helix_relations.specs.declared.signed.SignedRelation.{SignedRelation}

-- A field of a region: its number in the profile, counted from 0, whether null is forbidden, whether only null is
-- allowed, and the signed atoms that its values pass.
pub record RegionField : Type 0 where
  pub number : ℕ
  pub field : Field
  pub no_null : Bool
  pub only_null : Bool
  pub atoms : List SignedAtom

-- fields in the order of their numbers, signed relations between them, and how many questions were asked
pub record RegionContent : Type 0 where
  pub fields : List RegionField
  pub relations : List SignedRelation
  pub asked : ℕ

-- the numbers of the fields
abbrev pub numbers_of : List RegionField → List ℕ
numbers_of fields = map (λ field. field.number) fields

-- the relations without their signs
abbrev pub relations_of : List SignedRelation → List Relation
relations_of relations = map (λ signed. signed.relation) relations

-- A cell that a field of a region can have: one of the field, not null or only null where that is asked. At null the
-- atoms count as passed.
pub record IsRegionCell (field : RegionField) (v : Cell) : Type 0 where
  pub of_field : IsCellOf field.field v
  pub no_null : IsTrue field.no_null → is_null v ≡ false
  pub only_null : IsTrue field.only_null → is_null v ≡ true
  pub passes : AllByRecursion (λ signed. UnlessNull v (PassesAtom signed v)) field.atoms

-- neither cell is null, and the relation holds of the two, or with a false sign doesn't
pub record StandsRelation (signed : SignedRelation) (x y : Cell) : Type 0 where
  pub left : is_null x ≡ false
  pub right : is_null y ≡ false
  pub stands : Signed signed.sign (Related signed.relation x y)

-- a row of a region, with cells by the fields' numbers: each field has one of its cells, and each relation stands
pub record IsRegionRow (region : RegionContent) (row : List Cell) : Type 0 where
  pub cells : AllByRecursion (λ field. IsRegionCell field (cell_at row field.number)) region.fields
  pub relations : AllByRecursion
      (λ signed. StandsRelation signed (cell_at row signed.relation.left) (cell_at row signed.relation.right))
      region.relations

-- two rows have the same cells at these numbers
abbrev pub AgreeAt : List ℕ → List Cell → List Cell → Type 0
AgreeAt numbers row other = AllByRecursion (λ number. cell_at row number ≡ cell_at other number) numbers

-- a row of the region has the cells of the prefix at the first `level` fields
pub record BeginsWith (region : RegionContent) (prefix : List Cell) (level : ℕ) (row : List Cell) : Type 0 where
  pub is_row : IsRegionRow region row
  pub agrees : AgreeAt (take level (numbers_of region.fields)) row prefix

-- some row of the region has the cells of the prefix at the first `level` fields, and the cell at the next one
pub record ExtendsTo (region : RegionContent) (prefix : List Cell) (level : ℕ) (v : Cell) : Type 0 where
  pub row : List Cell
  pub begins : BeginsWith region prefix level row
  pub is : cell_at row (slice_index (numbers_of region.fields) level) ≡ v

-- there is a field of this number, and the fact holds of it
abbrev pub FieldNumbered : List RegionField → ℕ → (RegionField → Type 0) → Type 0
FieldNumbered [] number Fact = ⊥
FieldNumbered (field ∷ fields) number Fact = ((field.number ≡ number) × Fact field) ⊎ FieldNumbered fields number Fact

-- null is forbidden at the field, and the relation is one for the left field and this one
abbrev pub IsRightEnd : Relation → RegionField → RegionField → Type 0
IsRightEnd relation left right = IsTrue right.no_null × IsRelationFor left.field right.field relation

-- null is forbidden at the field, and the right end of the relation is one of the fields
abbrev pub IsLeftEnd : List RegionField → Relation → RegionField → Type 0
IsLeftEnd fields relation left =
    IsTrue left.no_null × FieldNumbered fields relation.right (IsRightEnd relation left)

-- the relation is one for two of the fields, at both of which null is forbidden
abbrev pub JoinsFields : List RegionField → Relation → Type 0
JoinsFields fields relation = FieldNumbered fields relation.left (IsLeftEnd fields relation)

-- what a region always is: its fields ascend, and its relations join its fields to a forest
pub record IsRegion (region : RegionContent) : Type 0 where
  pub ascending : IsStrictlyIncreasing (numbers_of region.fields)
  pub ends : AllByRecursion (λ signed. JoinsFields region.fields signed.relation) region.relations
  pub forest : IsForest (relations_of region.relations)
