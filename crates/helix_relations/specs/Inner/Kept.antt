-- What is kept of a region beside its content.
use Rattle.std.specs.Prelude.{◌≡◌, ◌≢◌, ◌≤◌, ◌↔◌, ℕ, Bool, true, false, ◌==◌, ◌&&◌, Option, None, Some, List, [], ◌∷◌, ◌++◌, map, length, slice_get, Contains}
use Rattle.std.specs.List.{All, AllPairs, AllByRecursion}
use Rattle.helix_values.specs.declared.cell.Cell.{Cell}
use Rattle.helix_values.specs.Class.{Class, class_of_kind}
use Rattle.helix_profile.specs.declared.relation.Relation.{Relation}
use Rattle.helix_pairs.specs.declared.comparison.End.{End}
use Rattle.helix_pairs.specs.declared.comparison.End.TheVariants.{Left, Right}
use Rattle.helix_search.specs.declared.node.Neighbour.{Neighbour}
use Rattle.helix_search.specs.declared.level.Level.{Level}
use Rattle.helix_search.specs.Bounds.{IsValue}
use Rattle.helix_search.specs.Nodes.{Stands}
use Rattle.helix_links.specs.declared.pair_link.PairLink.{PairLink}
use Rattle.helix_links.specs.declared.sided.SidedRelation.{SidedRelation}
use Rattle.helix_links.specs.Links.{class_of_link, MeetsLower, MeetsUpper, IsAllowed}
use Rattle.helix_links.specs.Relations.{IsRelationOf}
use Rattle.helix_relations.specs.declared.signed.SignedRelation.{SignedRelation}
use Rattle.helix_relations.specs.Region.{relations_of, IsRegion}
use Rattle.helix_relations.specs.RegionGraph.{StandTogether, are_joined}
use Rattle.helix_relations.specs.Inner.Parts.{PartNode, content_of}

-- the number of a field and the class of its values
pub record Joint : Type 0 where
  pub number : ℕ
  pub class : Class

abbrev pub joint_of : PartNode → Joint
joint_of node = record { number = node.place; class = class_of_kind node.values.kind }

abbrev pub joints_of : List PartNode → List Joint
joints_of nodes = map joint_of nodes

-- the relation goes from the one field to the other
abbrev pub goes : Relation → ℕ → ℕ → Bool
goes relation m n = (relation.left == m) && (relation.right == n)

-- a relation as the field m sees the field n, if it joins them
abbrev pub seen_one : Bool → Bool → SignedRelation → List SidedRelation
seen_one true back signed = record { relation = signed.relation; sign = signed.sign; child = Right } ∷ []
seen_one false true signed = record { relation = signed.relation; sign = signed.sign; child = Left } ∷ []
seen_one false false signed = []

-- which end the field n is
abbrev pub end_seen : Bool → Bool → Option End
end_seen true back = Some Right
end_seen false true = Some Left
end_seen false false = None

-- all relations between two fields, as the field m sees the field n
abbrev pub seen_from : List SignedRelation → ℕ → ℕ → List SidedRelation
seen_from [] m n = []
seen_from (signed ∷ relations) m n =
    seen_one (goes signed.relation m n) (goes signed.relation n m) signed ++ seen_from relations m n

-- if the relation joins the two fields, it is one of different fields of this class
abbrev pub IsOfClass : Class → ℕ → ℕ → SignedRelation → Type 0
IsOfClass class m n signed = are_joined (signed.relation ∷ []) m n ≡ true
    → (signed.relation.left ≢ signed.relation.right) × IsRelationOf class signed.relation

-- a link holds of two values of the class exactly where all relations between the two fields do
pub record IsLinkOf (relations : List SignedRelation) (class : Class) (m n : ℕ) (link : PairLink) : Type 0 where
  pub of_class : class_of_link link ≡ class
  pub met : (v w : Cell) → IsValue class v → IsValue class w
      → Stands MeetsLower MeetsUpper IsAllowed link v w ↔ StandTogether relations m n v w

-- a neighbour of a field is a field that is joined with it, with the links of the two
pub record IsLinkTo (joints : List Joint) (relations : List SignedRelation) (here : Joint) (n : Neighbour PairLink) :
    Type 0 where
  pub other : Joint
  pub is_node : slice_get joints n.node ≡ Some other
  pub joined : are_joined (relations_of relations) here.number other.number ≡ true
  pub down : IsLinkOf relations here.class here.number other.number n.down
  pub up : IsLinkOf relations here.class other.number here.number n.up

-- a field has each field that is joined with it as a neighbour, once
pub record AreLinked (joints : List Joint) (relations : List SignedRelation) (here : Joint)
    (neighbours : List (Neighbour PairLink)) : Type 0 where
  pub each : All (IsLinkTo joints relations here) neighbours
  pub once : AllPairs (λ one other. one.node ≢ other.node) neighbours
  pub complete : (c : ℕ) (other : Joint) → slice_get joints c ≡ Some other
      → are_joined (relations_of relations) here.number other.number ≡ true
      → Contains (map (λ n. n.node) neighbours) c

-- the relations of each field are those of its class
abbrev pub AreLinkable : List Joint → List SignedRelation → Type 0
AreLinkable joints relations = (u c : ℕ) (here other : Joint) → slice_get joints u ≡ Some here
    → slice_get joints c ≡ Some other → AllByRecursion (IsOfClass here.class here.number other.number) relations

-- these are the neighbours of the field at an index
abbrev pub AreLinkedAt : List Joint → List SignedRelation → ℕ → List (Neighbour PairLink) → Type 0
AreLinkedAt joints relations u neighbours =
    (here : Joint) → slice_get joints u ≡ Some here → AreLinked joints relations here neighbours

-- a node knows the kind of its field and whether it is nullable, and has its neighbours
pub record IsKeptNode (joints : List Joint) (relations : List SignedRelation) (node : PartNode) : Type 0 where
  pub kind : node.values.kind ≡ node.values.domain.field.kind
  pub nullable : node.values.nullable ≡ node.values.domain.field.nullable
  pub linked : AreLinked joints relations (joint_of node) node.neighbours

-- the content is a region, each node has its neighbours, and where there are relations there is room for each node
pub record IsKept (nodes : List PartNode) (relations : List SignedRelation) (levels : List Level) (asked : ℕ) :
    Type 0 where
  pub region : IsRegion (content_of nodes relations asked)
  pub kept : AllByRecursion (IsKeptNode (joints_of nodes) relations) nodes
  pub room : relations ≢ [] → length nodes ≤ length levels
