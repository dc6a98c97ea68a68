-- How the literals of a path narrow a region.
use Rattle.std.specs.Prelude.{◌≡◌, ◌↔◌, ℕ, Bool, if◌then◌else◌, List, [], ◌∷◌, ◌++◌, Some, Contains, slice_get}
use Rattle.std.specs.List.{AllByRecursion}
use Rattle.helix_domains.specs.Domain.{IsAtomFor}
use Rattle.helix_domains.specs.declared.atom.SignedAtom.{SignedAtom}
use Rattle.helix_profile.specs.Content.{Content}
use Rattle.helix_profile.specs.Fields.{all_relations}
use Rattle.helix_profile.specs.Forest.{IsForest}
use Rattle.helix_profile.specs.Good.{AreCellsOf}
use Rattle.helix_profile.specs.Validity.{IsRelationFor}
use Rattle.helix_profile.specs.declared.relation.Relation.{Relation}
use Rattle.helix_relations.specs.Change.{HasField, changed, without_null, with_null_alone, with_atom, with_relation}
use Rattle.helix_relations.specs.Region.{RegionContent, numbers_of, relations_of, FieldNumbered, IsRegion, IsRegionRow}
use Rattle.helix_relations.specs.declared.signed.SignedRelation.{SignedRelation}
use Rattle.helix_tree.specs.declared.literal.Literal.{Literal}
use Rattle.helix_tree.specs.declared.literal.Literal.TheVariants.{Null, NotNull, Plain, Joined}
use Rattle.helix_values.specs.declared.cell.Cell.{Cell}
use Rattle.helix_options.specs.Paths.{PathHolds}

-- the values of the atom's field pass it, and where strict, null is forbidden
abbrev pub with_atom_at : RegionContent → SignedAtom → Bool → RegionContent
with_atom_at region signed strict =
    if strict then changed (changed region signed.atom.field (with_atom signed)) signed.atom.field without_null
    else changed region signed.atom.field (with_atom signed)

-- the relation stands, and null is forbidden at both its ends
abbrev pub with_relation_at : RegionContent → SignedRelation → RegionContent
with_relation_at region signed = with_relation
    (changed (changed region signed.relation.left without_null) signed.relation.right without_null) signed

-- the region with the rows in which the literal holds
abbrev pub narrowed : RegionContent → Literal → RegionContent
narrowed region (Null field) = changed region field with_null_alone
narrowed region (NotNull field) = changed region field without_null
narrowed region (Plain atom sign strict) = with_atom_at region (record { atom = atom; sign = sign }) strict
narrowed region (Joined relation sign strict) = with_relation_at region (record { relation = relation; sign = sign })

-- a relation for two of the fields, with which the relations are still a forest
pub record Relates (region : RegionContent) (relation : Relation) : Type 0 where
  pub ends : FieldNumbered region.fields relation.left (λ left. FieldNumbered region.fields relation.right
      (λ right. IsRelationFor left.field right.field relation))
  pub forest : IsForest (relations_of region.relations ++ relation ∷ [])

-- the literal is one for fields of the region
abbrev pub IsLiteralFor : RegionContent → Literal → Type 0
IsLiteralFor region (Null field) = HasField region field
IsLiteralFor region (NotNull field) = HasField region field
IsLiteralFor region (Plain atom sign strict) =
    FieldNumbered region.fields atom.field
    (λ field. IsAtomFor field.field.kind (record { atom = atom; sign = sign }))
IsLiteralFor region (Joined relation sign strict) = Relates region relation

-- a region over fields of a profile, with some of its relations
pub record IsOver (profile : Content) (fields : List ℕ) (region : RegionContent) : Type 0 where
  pub is_region : IsRegion region
  pub numbers : numbers_of region.fields ≡ fields
  pub known : AllByRecursion (λ field. slice_get profile.fields field.number ≡ Some field.field) region.fields
  pub listed : AllByRecursion (λ signed. Contains (all_relations profile.constraints) signed.relation)
      region.relations

-- The rows of the region are those in which the path holds. Only rows of cells of the profile's fields are meant.
pub record IsRegionOf (profile : Content) (fields : List ℕ) (path : List Literal) (region : RegionContent) :
    Type 0 where
  pub over : IsOver profile fields region
  pub rows : (row : List Cell) → AreCellsOf profile.fields row → IsRegionRow region row ↔ PathHolds row path
