-- The node of the field that a region is asked for. Lemmas.
use Rattle.std.proofs.Common.{◌≡◌, ◌≢◌, ◌↔◌, ℕ, zero, suc, ◌<◌, ◌≤◌, Bool, true, false, ◌==◌, None, Some, List, [], ◌∷◌, Contains, length, map, slice_get, get_or, refl, sym, ap, ◌∙◌, subst, arith}
use Rattle.std.proofs.lemmas.Bool.{true≢false, ne_eqb}
use Rattle.std.proofs.lemmas.List.{length-map}
use Rattle.helix_values.specs.declared.cell.Cell.{Cell}
use Rattle.helix_search.specs.declared.level.Level.{Level}
use Rattle.helix_search.specs.declared.node.Neighbour.{Neighbour}
use Rattle.helix_search.specs.Extending.{Graph, Extends}
use Rattle.helix_search.specs.Levels.{first_candidate}
use Rattle.helix_search.specs.Nodes.{neighbours_in}
use Rattle.helix_links.specs.declared.pair_link.PairLink.{PairLink}
use Rattle.helix_relations.specs.declared.signed.SignedRelation.{SignedRelation}
use Rattle.helix_relations.specs.GraphLaws.{passes}
use Rattle.helix_relations.specs.Region.{RegionContent, relations_of, IsRegionCell}
use Rattle.helix_relations.specs.RegionGraph.{IsCellIn, are_joined, number_of, graph_of}
use Rattle.helix_relations.specs.SearchGraph.{IsRelated, IsSearchGraph}
use Rattle.helix_relations.specs.SearchLaws.{alone_extends}
use Rattle.helix_relations.specs.Inner.Parts.{PartNode, field_of, fields_of, content_of}
use Rattle.helix_relations.specs.Inner.PartLaws.{number_at}
use Rattle.helix_relations.specs.Inner.Kept.{IsKept}
use Rattle.helix_relations.specs.Inner.SearchingLaws.{search_of, node_get, field_get, is_search_graph}
use Rattle.helix_relations.proofs.Fixing.{neighbour_listed}

-- the candidate of the first level
pub first_is : (levels : List Level) (l : Level) → 0 < length levels → l ≡ get_or levels 0 l
    → first_candidate levels ≡ l.candidate
first_is [] l some is = absurd (omega (arith, some))
first_is (level ∷ levels) l some is = ap (λ x. x.candidate) (sym is)

-- a cell that extends is one of its field
pub extends_has : (g : Graph) (fixed : _) (depth u : ℕ) (v : Cell) → Extends g fixed depth None u v → g.Has u v
extends_has g fixed zero u v none = absurd none
extends_has g fixed (suc depth) u v extends = extends.0

first_listed : (neighbours : List (Neighbour PairLink)) → neighbours ≢ []
    → (c : ℕ) × Contains (map (λ n. n.node) neighbours) c
first_listed [] some = absurd (some refl)
first_listed (n ∷ rest) some = (n.node, neighbour_listed (n ∷ rest) 0 n (omega arith))

none_listed : (neighbours : List (Neighbour PairLink)) → neighbours ≡ [] → (c : ℕ)
    → ¬ Contains (map (λ n. n.node) neighbours) c
none_listed [] none c listed = let below = listed.1 in omega (arith, below)
none_listed (n ∷ rest) none c listed = let e = ap length none in omega (arith, e)

-- an answer that there are none
none_if : (slice neighbours : List (Neighbour PairLink)) (answer : Bool) → slice ≡ neighbours
    → answer ≡ (length slice == 0) → answer ≡ true → neighbours ≡ []
none_if slice [] answer same is so = refl
none_if slice (n ∷ rest) answer same is so =
    absurd (true≢false (sym so ∙ (is ∙ (ap (λ ns. length ns == 0) same
    ∙ ne_eqb (length (n ∷ rest)) 0 (λ e. omega (arith, e))))))

some_if : (slice neighbours : List (Neighbour PairLink)) (answer : Bool) → slice ≡ neighbours
    → answer ≡ (length slice == 0) → answer ≡ false → neighbours ≢ []
some_if slice neighbours answer same is none e =
    true≢false (sym (is ∙ ap (λ ns. length ns == 0) (same ∙ e)) ∙ none)

module _ (ns : List PartNode) (rels : List SignedRelation) (levels : List Level) (asked : ℕ)
    (kept : IsKept ns rels levels asked) where
  abbrev region : RegionContent
  region = content_of ns rels asked

  like : IsSearchGraph region (search_of ns)
  like = is_search_graph ns rels levels asked kept

  pub as_many : length region.fields ≡ length ns
  as_many = length-map ns field_of

  -- where a field is related, there are relations, and so there is room
  pub some_relations : (u : ℕ) → IsRelated region u → rels ≢ []
  some_relations u related none = absurd (true≢false
      (sym (passes (λ k. are_joined (relations_of rels) (number_of region u) (number_of region k))
      (length region.fields) related.1.0 related.1.1).1
      ∙ ap (λ rs. are_joined (relations_of rs) (number_of region u) (number_of region related.1.0)) none))

  pub enough_room : (u : ℕ) → IsRelated region u → length region.fields ≤ length levels
  enough_room u related = let room = kept.room (some_relations u related) in
      let same = as_many in omega (arith, room, same)

  -- the candidate that a search left
  pub candidate_is : (u : ℕ) → IsRelated region u → (new : List Level) (l : Level) → length new ≡ length levels
      → l ≡ get_or new 0 l → (v : Cell) → v ≡ (get_or new 0 l).candidate → first_candidate new ≡ v
  candidate_is u related new l same is v at = first_is new l
      (let room = enough_room u related in let below = related.0 in omega (arith, room, below, same)) is
      ∙ (ap (λ level. level.candidate) is ∙ sym at)

  module _ (u : ℕ) (u_in : u < length ns) (d : PartNode) where
    abbrev p : PartNode
    p = get_or ns u d

    node_is : slice_get ns u ≡ Some p
    node_is = node_get ns u d u_in

    pub field_is : slice_get (fields_of ns) u ≡ Some (field_of p)
    field_is = field_get ns u d u_in

    pub number_is : number_of region u ≡ p.place
    number_is = number_at ns u d u_in

    u_below : u < length region.fields
    u_below = let same = as_many in omega (arith, same, u_in)

    no_neighbours : p.neighbours ≡ [] → (c : ℕ) → ¬ Contains ((graph_of region).neighbours u) c
    no_neighbours none c contains =
        let here : Contains (map (λ n. n.node) p.neighbours) c =
        subst (λ o. Contains (map (λ n. n.node) (neighbours_in o)) c) node_is ((like.neighbours u c u_below).1 contains)
        in none_listed p.neighbours none c here

    -- a field with neighbours is related
    is_related : p.neighbours ≢ [] → IsRelated region u
    is_related some = let first = first_listed p.neighbours some in (
      u_below,
      (
        first.0,
        (like.neighbours u first.0 u_below).0
            (subst (λ o. Contains (map (λ n. n.node) (neighbours_in o)) first.0) (sym node_is) first.1),
      ),
    )

    -- what an answer says that there are no neighbours
    pub alone_if : (slice : List (Neighbour PairLink)) (answer : Bool) → slice ≡ p.neighbours
        → answer ≡ (length slice == 0) → answer ≡ true → p.neighbours ≡ []
    alone_if slice answer same is so = none_if slice p.neighbours answer same is so

    pub related_if : (slice : List (Neighbour PairLink)) (answer : Bool) → slice ≡ p.neighbours
        → answer ≡ (length slice == 0) → answer ≡ false → IsRelated region u
    related_if slice answer same is none = is_related (some_if slice p.neighbours answer same is none)

    pub has_is : (v : Cell) → IsRegionCell (field_of p) v ↔ (graph_of region).Has u v
    has_is v = (
      (λ has. subst (λ o. IsCellIn o v) (sym field_is) has),
      (λ has. subst (λ o. IsCellIn o v) field_is has),
    )

    -- a field without neighbours: all its cells extend
    pub alone_cells : p.neighbours ≡ [] → (fixed : _) (depth : ℕ) (v : Cell) → IsRegionCell (field_of p) v
        ↔ Extends (graph_of region) fixed (suc depth) None u v
    alone_cells none fixed depth v = let alone = alone_extends (graph_of region) fixed depth u v (no_neighbours none) in
        ((λ has. alone.1 ((has_is v).0 has)), (λ extends. (has_is v).1 (alone.0 extends)))
