-- The graph of a region: its nodes are its fields in their order, counted from 0.
use Rattle.std.specs.Prelude.{◌≡◌, ℕ, zero, suc, Bool, false, ◌==◌, ◌&&◌, ◌||◌, if◌then◌else◌, nat_lt, List, [], ◌∷◌, Option, None, Some, length, map, slice_get, slice_index}
use Rattle.std.specs.List.{AllByRecursion}
use Rattle.helix_values.specs.declared.cell.Cell.{Cell}
use Rattle.helix_profile.specs.Satisfaction.{cell_at}
use Rattle.helix_profile.specs.declared.relation.Relation.{Relation}
use Rattle.helix_relations.specs.declared.signed.SignedRelation.{SignedRelation}
use Rattle.helix_search.specs.Extending.{Graph}
use Rattle.helix_relations.specs.Region.{RegionField, RegionContent, numbers_of, relations_of, IsRegionCell, StandsRelation}

-- a cell of a field, if there is one
abbrev pub IsCellIn : Option RegionField → Cell → Type 0
IsCellIn None v = ⊥
IsCellIn (Some field) v = IsRegionCell field v

-- all relations between the fields with the two numbers stand, written either way round
abbrev pub StandTogether : List SignedRelation → ℕ → ℕ → Cell → Cell → Type 0
StandTogether relations m n v w =
    AllByRecursion
    (λ signed. (signed.relation.left ≡ m → signed.relation.right ≡ n → StandsRelation signed v w)
    × (signed.relation.left ≡ n → signed.relation.right ≡ m → StandsRelation signed w v)) relations

-- whether some relation joins two fields
abbrev pub are_joined : List Relation → ℕ → ℕ → Bool
are_joined [] m n = false
are_joined (relation ∷ relations) m n =
    ((relation.left == m) && (relation.right == n))
    || (((relation.left == n) && (relation.right == m)) || are_joined relations m n)

-- the numbers below a bound that pass a test
abbrev pub passing_below : (ℕ → Bool) → ℕ → List ℕ
passing_below test zero = []
passing_below test (suc n) = if test n then n ∷ passing_below test n else passing_below test n

-- the number of the field that is a node
abbrev pub number_of : RegionContent → ℕ → ℕ
number_of region u = slice_index (numbers_of region.fields) u

abbrev pub graph_of : RegionContent → Graph
graph_of region = record {
  Has = λ u v. IsCellIn (slice_get region.fields u) v;
  Joined = λ u c v w. StandTogether region.relations (number_of region u) (number_of region c) v w;
  neighbours = λ u.
      passing_below (λ c. are_joined (relations_of region.relations) (number_of region u) (number_of region c))
      (length region.fields);
}

-- the first `level` fields have the cells of a row
abbrev pub fixed_by : RegionContent → List Cell → ℕ → ℕ → Option Cell
fixed_by region prefix level u = if nat_lt u level then Some (cell_at prefix (number_of region u)) else None

-- the place of a number in a list, counted from 0
abbrev pub place_in : List ℕ → ℕ → ℕ
place_in [] number = 0
place_in (first ∷ rest) number = if first == number then 0 else suc (place_in rest number)

-- the relation between the places of the numbers of its ends
abbrev pub placed_relation : List ℕ → Relation → Relation
placed_relation numbers relation =
    record relation { left = place_in numbers relation.left; right = place_in numbers relation.right }

-- the relations with the nodes as their ends
abbrev pub node_relations : RegionContent → List Relation
node_relations region = map (placed_relation (numbers_of region.fields)) (relations_of region.relations)
