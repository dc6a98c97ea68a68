-- The fixed cells of a search through the fields of a region, and what it finds. Lemmas.
use Rattle.std.proofs.Common.{◌≡◌, ◌↔◌, ℕ, ◌<◌, ◌≤◌, Bool, true, false, if◌then◌else◌, None, Some, List, All, Contains, length, map, slice_get, slice_index_or, get_or, sym, ap, ◌∙◌, subst, arith}
use Rattle.std.proofs.lemmas.Bool.{lt-ltb}
use Rattle.std.proofs.lemmas.List.{length-map, get_or-map}
use Rattle.std.proofs.lemmas.Option.{slice_get_within}
use Rattle.helix_values.specs.declared.cell.Cell.{Cell}
use Rattle.helix_values.specs.declared.cell.Cell.TheVariants as cell
use Rattle.helix_values.specs.declared.mark.Mark.{Mark}
use Rattle.helix_search.specs.declared.level.Level.{Level}
use Rattle.helix_search.specs.declared.node.Neighbour.{Neighbour}
use Rattle.helix_search.specs.Bounds.{IsValue}
use Rattle.helix_search.specs.Levels.{IsFound}
use Rattle.helix_search.specs.Nodes.{HasIn, IsNeighbour, cell_in, neighbours_in}
use Rattle.helix_search.specs.Trees as tree
use Rattle.helix_search.specs.Trees.{IsMarkAt}
use Rattle.helix_links.specs.declared.pair_link.PairLink.{PairLink}
use Rattle.helix_links.specs.Links.{class_of_link}
use Rattle.helix_relations.specs.declared.signed.SignedRelation.{SignedRelation}
use Rattle.helix_relations.specs.Asking.{OfField, IsMarkFor}
use Rattle.helix_relations.specs.Region.{RegionContent}
use Rattle.helix_relations.specs.RegionGraph.{fixed_by}
use Rattle.helix_relations.specs.SearchGraph.{IsRelated, IsSearchGraph}
use Rattle.helix_relations.specs.SearchLaws.{related_back}
use Rattle.helix_relations.specs.Inner.Parts.{PartNode, field_of, fields_of, content_of}
use Rattle.helix_relations.specs.Inner.Values.{class_of_part, IsPartValue, of_class}
use Rattle.helix_relations.specs.Inner.Kept.{IsKept}
use Rattle.helix_relations.specs.Inner.Searched.{AreCellsFixed}
use Rattle.helix_relations.specs.Inner.RelatingLaws.{some_node}
use Rattle.helix_relations.specs.Inner.SearchingLaws.{LinkStands, search_of, node_get, field_get, are_nodes, is_search_graph}
use Rattle.helix_relations.specs.Inner.FixedLaws.{fixed_alike}

-- a mark for a field is one for its node
pub mark_at : (ns : List PartNode) (u : ℕ) → u < length ns → (mark : Mark) → OfField (fields_of ns) u (IsMarkFor mark)
    → IsMarkAt class_of_part mark (slice_get ns u)
mark_at ns u u_in mark of = subst (IsMarkAt class_of_part mark) (sym (node_get ns u (some_node ns u u_in) u_in))
    (of (field_of (get_or ns u (some_node ns u u_in))) (field_get ns u (some_node ns u u_in) u_in))

-- what is found among some cells is found among the same ones
pub found_alike : (One Other : Cell → Type 0) → ((v : Cell) → One v ↔ Other v) → (mark : Mark) (found : Bool) (v : Cell)
    → IsFound One mark found v → IsFound Other mark found v
found_alike One Other same mark true v is = record {
  has = (same v).0 is.has;
  admitted = is.admitted;
  least = λ other has. is.least other ((same other).1 has);
}
found_alike One Other same mark false v none = λ other has. none other ((same other).1 has)

pub neighbour_listed : (neighbours : List (Neighbour PairLink)) (k : ℕ) (d : Neighbour PairLink) → k < length neighbours
    → Contains (map (λ n. n.node) neighbours) (get_or neighbours k d).node
neighbour_listed neighbours k d k_in = (
  k,
  (let same = length-map neighbours (λ n. n.node) in omega (arith, same, k_in)),
  get_or-map (λ n. n.node) neighbours k d (get_or neighbours k d).node k_in,
)

module _ (ns : List PartNode) (rels : List SignedRelation) (levels : List Level) (asked : ℕ)
    (kept : IsKept ns rels levels asked) (row : List Cell) (fixed : ℕ) (within : fixed ≤ length ns)
    (has : AreCellsFixed (content_of ns rels asked) row fixed) where
  abbrev region : RegionContent
  region = content_of ns rels asked

  as_many : length region.fields ≡ length ns
  as_many = length-map ns field_of

  like : IsSearchGraph region (search_of ns)
  like = is_search_graph ns rels levels asked kept

  -- a neighbour is related
  neighbour_related : (u : ℕ) (node : PartNode) → slice_get ns u ≡ Some node → (c : ℕ)
      → Contains (map (λ n. n.node) node.neighbours) c → IsRelated region c
  neighbour_related u node at c contains =
      let u_in : u < length region.fields = let below = slice_get_within ns u node at in
      let same = as_many in omega (arith, same, below) in
      related_back region kept.region (search_of ns) like (fixed_by region row fixed) has u c u_in
      ((like.neighbours u c u_in).0
      (subst (λ o. Contains (map (λ n. n.node) (neighbours_in o)) c) (sym at) contains))

  -- the fixed neighbours of a node have values of its class
  pub fixed_values : (u : ℕ) (node : PartNode) → slice_get ns u ≡ Some node
      → All (λ n. n.node < fixed → IsValue (class_of_part node.values) (tree.cell_at row (slice_get ns n.node)))
      node.neighbours
  fixed_values u node at k d k_in below =
      let n : Neighbour PairLink = get_or node.neighbours k d in
      let of : IsNeighbour class_of_part class_of_link LinkStands ns node n =
      (are_nodes ns rels levels asked kept).neighbours u node at k d k_in in
      let other : PartNode = of.is_node.0 in
      let value : Cell = slice_index_or row other.place cell.Null in
      let n_in : n.node < length region.fields = let same = as_many in omega (arith, same, below, within) in
      let fixed_is : fixed_by region row fixed n.node ≡ Some value =
      sym (fixed_alike ns rels levels asked kept row fixed within n.node)
      ∙ (ap (λ b. if b then cell_in row (slice_get ns n.node) else None) (lt-ltb n.node fixed below)
      ∙ ap (λ o. cell_in row o) of.is_node.1) in
      let related : IsRelated region n.node =
      neighbour_related u node at n.node (neighbour_listed node.neighbours k d k_in) in
      let own : HasIn IsPartValue (Some other) value = subst (λ o. HasIn IsPartValue o value) of.is_node.1
      ((like.has n.node value related).1 (has n.node value n_in fixed_is)) in
      subst (λ o. IsValue (class_of_part node.values) (tree.cell_at row o)) (sym of.is_node.1)
      (subst (λ class. IsValue class value) of.is_node.2 (of_class other.values value own))
