-- The nodes of a region as the graph that a search goes through. Lemmas.
use Rattle.std.proofs.Common.{◌≡◌, ◌≢◌, ◌↔◌, ℕ, zero, suc, ◌<◌, Bool, true, false, IsTrue, Some, List, [], ◌∷◌, inl, inr, length, map, slice_get, get_or, All, AllPairs, Contains, refl, sym, ap, ap₂, ◌∙◌, subst, arith}
use Rattle.std.proofs.lemmas.Bool.{true≢false}
use Rattle.std.proofs.lemmas.List.{length-map, get_or-map}
use Rattle.std.proofs.lemmas.Option.{same_Some, slice_get_within}
use Rattle.std.proofs.Math.Path.{subst₂}
use Rattle.std.specs.List.{AllByRecursion}
use Rattle.helix_values.specs.declared.cell.Cell.{Cell}
use Rattle.helix_values.specs.Class.{class_of_kind}
use Rattle.helix_profile.specs.Forest.{AreJoined}
use Rattle.helix_profile.specs.Validity.{IsRelationFor}
use Rattle.helix_search.specs.declared.level.Level.{Level}
use Rattle.helix_search.specs.declared.node.Neighbour.{Neighbour}
use Rattle.helix_search.specs.Bounds.{IsValue}
use Rattle.helix_search.specs.Extending.{Graph}
use Rattle.helix_search.specs.Nodes as search
use Rattle.helix_search.specs.Nodes.{Stands, HasIn, neighbours_in, AreNodes, IsNeighbour}
use Rattle.helix_links.specs.declared.pair_link.PairLink.{PairLink}
use Rattle.helix_links.specs.Links.{class_of_link, MeetsLower, MeetsUpper, IsAllowed}
use Rattle.helix_relations.specs.declared.signed.SignedRelation.{SignedRelation}
use Rattle.helix_relations.specs.Region.{RegionContent, relations_of, IsRegionCell, IsLeftEnd, JoinsFields}
use Rattle.helix_relations.specs.RegionGraph.{IsCellIn, StandTogether, are_joined, number_of, graph_of}
use Rattle.helix_relations.specs.GraphLaws.{joined_from, passes, is_passing, stand_back}
use Rattle.helix_relations.specs.SearchGraph.{IsSearchGraph}
use Rattle.helix_relations.specs.SearchLaws.{cells_are_values}
use Rattle.helix_relations.specs.Inner.Parts.{PartNode, field_of, fields_of, content_of}
use Rattle.helix_relations.specs.Inner.PartLaws.{number_at}
use Rattle.helix_relations.specs.Inner.Values.{class_of_part, IsPartValue, of_class}
use Rattle.helix_relations.specs.Inner.Kept.{Joint, joint_of, joints_of, IsLinkTo, IsKeptNode, IsKept}
use Rattle.helix_relations.specs.Inner.KeptLaws.{each_at, joint_at, known_of}
use Rattle.helix_relations.specs.Inner.RelatingLaws.{some_node}

-- both values stand each bound of a link
abbrev pub LinkStands : PairLink → Cell → Cell → Type 0
LinkStands link v w = Stands MeetsLower MeetsUpper IsAllowed link v w

-- the nodes as a graph
abbrev pub search_of : List PartNode → Graph
search_of nodes = search.graph_of IsPartValue LinkStands nodes

pub node_get : (ns : List PartNode) (u : ℕ) (d : PartNode) → u < length ns → slice_get ns u ≡ Some (get_or ns u d)
node_get [] u d below = absurd (omega (arith, below))
node_get (x ∷ ns) zero d below = refl
node_get (x ∷ ns) (suc u) d below = node_get ns u d (omega (arith, below))

pub field_get : (ns : List PartNode) (u : ℕ) (d : PartNode) → u < length ns
    → slice_get (fields_of ns) u ≡ Some (field_of (get_or ns u d))
field_get [] u d below = absurd (omega (arith, below))
field_get (x ∷ ns) zero d below = refl
field_get (x ∷ ns) (suc u) d below = field_get ns u d (omega (arith, below))

-- a neighbour of a number is one of the neighbours
numbered_in : (ns : List (Neighbour PairLink)) (c : ℕ) → Contains (map (λ n. n.node) ns) c
    → (k : ℕ) × (k < length ns) × ((d : Neighbour PairLink) → (get_or ns k d).node ≡ c)
numbered_in ns c contains =
    let within : contains.0 < length ns = let same = length-map ns (λ n. n.node) in
    let below = contains.1 in omega (arith, same, below) in
    (contains.0, within, λ d. sym (get_or-map (λ n. n.node) ns contains.0 d c within) ∙ contains.2)

neighbour_at : (ns : List (Neighbour PairLink)) (k : ℕ) → k < length ns → Neighbour PairLink
neighbour_at [] k below = absurd (omega (arith, below))
neighbour_at (n ∷ ns) k below = n

module _ (ns : List PartNode) (rels : List SignedRelation) (levels : List Level) (asked : ℕ)
    (kept : IsKept ns rels levels asked) where
  abbrev region : RegionContent
  region = content_of ns rels asked

  in_nodes : (u : ℕ) → u < length region.fields → u < length ns
  in_nodes u below = let same = length-map ns field_of in omega (arith, same, below)

  in_fields : (u : ℕ) → u < length ns → u < length region.fields
  in_fields u below = let same = length-map ns field_of in omega (arith, same, below)

  in_joints : (u : ℕ) (j : Joint) → slice_get (joints_of ns) u ≡ Some j → u < length ns
  in_joints u j at = let within = slice_get_within (joints_of ns) u j at in
      let same = length-map ns joint_of in omega (arith, within, same)

  -- null is forbidden at the ends of a relation, which are of one class
  ends_known : (d : PartNode) (u c : ℕ) → u < length ns → c < length ns → (rest : List SignedRelation)
      → AllByRecursion (λ s. JoinsFields (fields_of ns) s.relation) rest
      → AreJoined (relations_of rest) (get_or ns u d).place (get_or ns c d).place
      → IsTrue (get_or ns u d).values.no_null
      × (class_of_kind (get_or ns u d).values.domain.field.kind ≡ class_of_kind (get_or ns c d).values.domain.field.kind)
  ends_known d u c u_in c_in [] all none = absurd none
  ends_known d u c u_in c_in (s ∷ rest) all (inl are) =
      let left = known_of ns kept.region.ascending d u s.relation.left (IsLeftEnd (fields_of ns) s.relation) u_in
      (sym are.0) all.0 in
      let right = known_of ns kept.region.ascending d c s.relation.right
      (λ field. IsTrue field.no_null
      × IsRelationFor (get_or ns u d).values.domain.field field.field s.relation)
      c_in (sym are.1) left.1 in
      (left.0, right.1.one_class)
  ends_known d u c u_in c_in (s ∷ rest) all (inr (inl are)) =
      let left = known_of ns kept.region.ascending d c s.relation.left (IsLeftEnd (fields_of ns) s.relation) c_in
      (sym are.0) all.0 in
      let right = known_of ns kept.region.ascending d u s.relation.right
      (λ field. IsTrue field.no_null
      × IsRelationFor (get_or ns c d).values.domain.field field.field s.relation)
      u_in (sym are.1) left.1 in
      (right.0, sym right.1.one_class)
  ends_known d u c u_in c_in (s ∷ rest) all (inr (inr later)) = ends_known d u c u_in c_in rest all.1 later

  module _ (u : ℕ) (u_in : u < length ns) where
    abbrev here : PartNode
    here = get_or ns u (some_node ns u u_in)

    here_get : slice_get ns u ≡ Some here
    here_get = node_get ns u (some_node ns u u_in) u_in

    own : IsKeptNode (joints_of ns) rels here
    own = each_at (IsKeptNode (joints_of ns) rels) ns u (some_node ns u u_in) u_in kept.kept

    here_number : number_of region u ≡ here.place
    here_number = number_at ns u (some_node ns u u_in) u_in

    at_number : (c : ℕ) → c < length ns → number_of region c ≡ (get_or ns c (some_node ns u u_in)).place
    at_number c c_in = number_at ns c (some_node ns u u_in) c_in

    -- what is known of a neighbour
    pub known_neighbour : (n : Neighbour PairLink) (is : IsLinkTo (joints_of ns) rels (joint_of here) n)
        → (n.node < length ns) × (is.other ≡ joint_of (get_or ns n.node (some_node ns u u_in)))
    known_neighbour n is = let below : n.node < length ns = in_joints n.node is.other is.is_node in (
      below,
      same_Some is.other (joint_of (get_or ns n.node (some_node ns u u_in)))
          (sym is.is_node ∙ joint_at ns n.node (some_node ns u u_in) below),
    )

    joined_pair : (n : Neighbour PairLink) → IsLinkTo (joints_of ns) rels (joint_of here) n
        → are_joined (relations_of rels) here.place (get_or ns n.node (some_node ns u u_in)).place ≡ true
    joined_pair n is = ap (λ j. are_joined (relations_of rels) here.place j.number) (sym (known_neighbour n is).1) ∙ is.joined

    -- the neighbours are those of the region's graph
    pub to_graph : (c : ℕ) → Contains (map (λ n. n.node) here.neighbours) c → Contains ((graph_of region).neighbours u) c
    to_graph c contains =
        let found = numbered_in here.neighbours c contains in
        let n : Neighbour PairLink = get_or here.neighbours found.0 (neighbour_at here.neighbours found.0 found.1) in
        let is : IsLinkTo (joints_of ns) rels (joint_of here) n =
        own.linked.each found.0 (neighbour_at here.neighbours found.0 found.1) found.1 in
        let same : n.node ≡ c = found.2 (neighbour_at here.neighbours found.0 found.1) in
        subst (λ k. Contains ((graph_of region).neighbours u) k) same
        (is_passing (λ k. are_joined (relations_of rels) (number_of region u) (number_of region k)) (length region.fields)
        n.node (in_fields n.node (known_neighbour n is).0)
        (ap₂ (λ a b. are_joined (relations_of rels) a b) here_number (at_number n.node (known_neighbour n is).0)
        ∙ joined_pair n is))

    joined_at : (c : ℕ) → Contains ((graph_of region).neighbours u) c → (c < length ns)
        × (are_joined (relations_of rels) here.place (get_or ns c (some_node ns u u_in)).place ≡ true)
    joined_at c contains =
        let found = passes (λ k. are_joined (relations_of rels) (number_of region u) (number_of region k))
        (length region.fields) c contains in
        let c_in : c < length ns = in_nodes c found.0 in
        (c_in, ap₂ (λ a b. are_joined (relations_of rels) a b) (sym here_number) (sym (at_number c c_in)) ∙ found.1)

    pub of_graph : (c : ℕ) → Contains ((graph_of region).neighbours u) c → Contains (map (λ n. n.node) here.neighbours) c
    of_graph c contains = let joined = joined_at c contains in
        own.linked.complete c (joint_of (get_or ns c (some_node ns u u_in)))
        (joint_at ns c (some_node ns u u_in) joined.0) joined.1

    -- the values of a related field are its cells
    pub related_values : (c : ℕ) → Contains ((graph_of region).neighbours u) c → (v : Cell)
        → IsPartValue here.values v ↔ IsRegionCell (field_of here) v
    related_values c contains v = let joined = joined_at c contains in
        by here.values.only_null refl (ends_known (some_node ns u u_in) u c u_in joined.0 rels kept.region.ends
        (joined_from (relations_of rels) here.place (get_or ns c (some_node ns u u_in)).place joined.1)).0
      where
        by : (b : Bool) → here.values.only_null ≡ b → IsTrue here.values.no_null
            → IsPartValue here.values v ↔ IsRegionCell (field_of here) v
        by true alone no_null = (
          (λ is. absurd (true≢false (sym alone ∙ is.values))),
          (λ is. absurd (true≢false (sym (is.only_null alone) ∙ is.no_null no_null))),
        )
        by false alone no_null = let cells = cells_are_values (field_of here) no_null alone v in (
          (λ is. cells.1 is.in_domain),
          (λ is. record { values = alone; in_domain = cells.0 is }),
        )

    own_value : (v : Cell) → IsValue (class_of_kind here.values.domain.field.kind) v
        → IsValue (class_of_kind here.values.kind) v
    own_value v of_v = subst (λ k. IsValue (class_of_kind k) v) (sym own.kind) of_v

    -- a neighbour is of the same class
    same_class : (n : Neighbour PairLink) → IsLinkTo (joints_of ns) rels (joint_of here) n
        → class_of_kind here.values.domain.field.kind
        ≡ class_of_kind (get_or ns n.node (some_node ns u u_in)).values.domain.field.kind
    same_class n is = (ends_known (some_node ns u u_in) u n.node u_in (known_neighbour n is).0 rels kept.region.ends
        (joined_from (relations_of rels) here.place (get_or ns n.node (some_node ns u u_in)).place (joined_pair n is))).1

    -- and its link holds where all relations between the two do
    met_at : (n : Neighbour PairLink) (is : IsLinkTo (joints_of ns) rels (joint_of here) n) (c : ℕ) → n.node ≡ c
        → (v w : Cell) → IsPartValue here.values v → HasIn IsPartValue (slice_get ns c) w
        → LinkStands n.down v w ↔ StandTogether rels (number_of region u) (number_of region c) v w
    met_at n is c same v w v_has w_has =
        let n_in : n.node < length ns = (known_neighbour n is).0 in
        let w_there : HasIn IsPartValue (Some (get_or ns n.node (some_node ns u u_in))) w =
        subst (λ o. HasIn IsPartValue o w) (node_get ns n.node (some_node ns u u_in) n_in)
        (subst (λ k. HasIn IsPartValue (slice_get ns k) w) (sym same) w_has) in
        let w_of : IsValue (class_of_kind here.values.domain.field.kind) w =
        subst (λ class. IsValue class w) (sym (same_class n is))
        (of_class (get_or ns n.node (some_node ns u u_in)).values w w_there) in
        subst₂ (λ a b. LinkStands n.down v w ↔ StandTogether rels a b v w) (sym here_number)
        (ap (λ j. j.number) (known_neighbour n is).1 ∙ (sym (at_number n.node n_in) ∙ ap (λ k. number_of region k) same))
        (is.down.met v w (own_value v (of_class here.values v v_has)) (own_value w w_of))

    pub joined_stand : (c : ℕ) (v w : Cell) → Contains (map (λ n. n.node) here.neighbours) c → IsPartValue here.values v
        → HasIn IsPartValue (slice_get ns c) w
        → All (λ n. n.node ≡ c → LinkStands n.down v w) here.neighbours
        ↔ StandTogether rels (number_of region u) (number_of region c) v w
    joined_stand c v w contains v_has w_has =
        let found = numbered_in here.neighbours c contains in
        let d : Neighbour PairLink = neighbour_at here.neighbours found.0 found.1 in (
          (λ all. (met_at (get_or here.neighbours found.0 d) (own.linked.each found.0 d found.1) c (found.2 d) v w v_has
              w_has).0 (all found.0 d found.1 (found.2 d))),
          (λ stand k e k_in same. (met_at (get_or here.neighbours k e) (own.linked.each k e k_in) c same v w v_has
              w_has).1 stand),
        )

    pub neighbours_known : All (IsNeighbour class_of_part class_of_link LinkStands ns here) here.neighbours
    neighbours_known k d k_in =
        let n : Neighbour PairLink = get_or here.neighbours k d in
        let is : IsLinkTo (joints_of ns) rels (joint_of here) n = own.linked.each k d k_in in
        record {
          is_node = (
            get_or ns n.node (some_node ns u u_in),
            node_get ns n.node (some_node ns u u_in) (known_neighbour n is).0,
            sym (same_class n is),
          );
          down_class = is.down.of_class ∙ ap class_of_kind own.kind;
          up_class = is.up.of_class ∙ ap class_of_kind own.kind;
          both_ways = λ v w of_v of_w.
              let down = is.down.met v w (own_value v of_v) (own_value w of_w) in
              let up = is.up.met w v (own_value w of_w) (own_value v of_v) in (
                (λ stands. up.1 (stand_back rels here.place is.other.number v w (down.0 stands))),
                (λ stands. down.1 (stand_back rels is.other.number here.place w v (up.0 stands))),
              );
        }

  -- the nodes are those of a search,
  pub are_nodes : AreNodes class_of_part class_of_link LinkStands ns
  are_nodes = record {
    neighbours = λ u node e. let u_in : u < length ns = slice_get_within ns u node e in
        subst (λ x. All (IsNeighbour class_of_part class_of_link LinkStands ns x) x.neighbours)
        (same_Some (here u u_in) node (sym (here_get u u_in) ∙ e)) (neighbours_known u u_in);
    once = λ u node e. let u_in : u < length ns = slice_get_within ns u node e in
        subst (λ x. AllPairs (λ one other. one.node ≢ other.node) x.neighbours)
        (same_Some (here u u_in) node (sym (here_get u u_in) ∙ e)) (own u u_in).linked.once;
  }

  -- whose graph can stand in the place of the region's
  pub is_search_graph : IsSearchGraph region (search_of ns)
  is_search_graph = record {
    neighbours = λ u c below. let u_in : u < length ns = in_nodes u below in
        subst (λ o. Contains (map (λ n. n.node) (neighbours_in o)) c ↔ Contains ((graph_of region).neighbours u) c)
        (sym (here_get u u_in)) ((λ a. to_graph u u_in c a), (λ a. of_graph u u_in c a));
    has = λ u v related. let u_in : u < length ns = in_nodes u related.0 in
        subst₂ (λ o f. HasIn IsPartValue o v ↔ IsCellIn f v) (sym (here_get u u_in))
        (sym (field_get ns u (some_node ns u u_in) u_in)) (related_values u u_in related.1.0 related.1.1 v);
    joined = λ u c v w related contains v_has w_has. let u_in : u < length ns = in_nodes u related.0 in
        subst (λ o. All (λ n. n.node ≡ c → LinkStands n.down v w) (neighbours_in o)
        ↔ StandTogether rels (number_of region u) (number_of region c) v w) (sym (here_get u u_in))
        (joined_stand u u_in c v w
        (subst (λ o. Contains (map (λ n. n.node) (neighbours_in o)) c) (here_get u u_in) contains)
        (subst (λ o. HasIn IsPartValue o v) (here_get u u_in) v_has) w_has);
  }
