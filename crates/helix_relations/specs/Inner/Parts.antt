-- The fields of a region as they are kept.
use Rattle.std.specs.Prelude.{◌≡◌, ◌≢◌, ℕ, ◌<◌, List, [], map, length, slice_index}
use Rattle.helix_links.specs.declared.pair_link.PairLink.{PairLink}
use Rattle.helix_search.specs.declared.node.Node.{Node}
use Rattle.helix_relations.specs.Region.{RegionField, RegionContent, numbers_of}
use Rattle.helix_relations.specs.declared.signed.SignedRelation.{SignedRelation}
use Rattle.helix_relations.specs.declared.part.Part.{Part}

-- a field with its neighbours
abbrev pub PartNode : Type 0
PartNode = Node Part PairLink

-- the field that a node is
abbrev pub field_of : PartNode → RegionField
field_of node = record {
  number = node.place;
  field = node.values.domain.field;
  no_null = node.values.no_null;
  only_null = node.values.only_null;
  atoms = node.values.domain.atoms;
}

abbrev pub fields_of : List PartNode → List RegionField
fields_of parts = map field_of parts

-- the part at this index has the number
pub record IsIndexOf (parts : List PartNode) (number index : ℕ) : Type 0 where
  pub below : index < length parts
  pub is : slice_index (numbers_of (fields_of parts)) index ≡ number

-- none of the first parts has the number
abbrev pub IsNotBefore : List PartNode → ℕ → ℕ → Type 0
IsNotBefore parts number count = (k : ℕ) → k < count → slice_index (numbers_of (fields_of parts)) k ≢ number

-- the fields of a region as they are kept, its relations and its count
abbrev pub content_of : List PartNode → List SignedRelation → ℕ → RegionContent
content_of parts relations asked = record { fields = fields_of parts; relations = relations; asked = asked }

-- the node knows the kind of its field and whether it is nullable, and has no neighbours
pub record IsAlone (node : PartNode) : Type 0 where
  pub kind : node.values.kind ≡ node.values.domain.field.kind
  pub nullable : node.values.nullable ≡ node.values.domain.field.nullable
  pub none : node.neighbours ≡ []

-- the node knows whether its field is nullable
abbrev pub KnowsNull : PartNode → Type 0
KnowsNull node = node.values.nullable ≡ node.values.domain.field.nullable
