-- The rows of a region are the good rows of its graph, and so a cell extends there exactly where it extends to a row.
use Rattle.std.proofs.Common.{◌≡◌, ℕ, zero, suc, ◌<◌, ◌≤◌, false, ltb, if◌then◌else◌, inl, inr, ⊎_elim, ◌↔◌, List, [], ◌∷◌, take, length, slice_index, slice_get, Option, None, Some, All, Contains, sym, ap, ◌∙◌, subst, arith}
use Rattle.std.proofs.Math.Path.{subst₂}
use Rattle.std.proofs.lemmas.Bool.{cases_lt, lt-ltb, ltb-true, false_from_ne_true}
use Rattle.std.proofs.lemmas.List.Kept.{AllPairs-from_increasing}
use Rattle.std.proofs.lemmas.Option.{same_Some}
use Rattle.std.specs.List.{AllByRecursion}
use Rattle.helix_values.specs.declared.cell.Cell.{Cell}
use Rattle.helix_profile.specs.Forest.{AreJoined}
use Rattle.helix_profile.specs.Satisfaction.{cell_at}
use Rattle.helix_profile.specs.declared.relation.Relation.{Relation}
use Rattle.helix_forest.specs.Closing.{HasEndsBelow}
use Rattle.helix_forest.specs.Closed.{IsAmong}
use Rattle.helix_relations.specs.declared.signed.SignedRelation.{SignedRelation}
use Rattle.helix_search.specs.Extending.{Extends}
use Rattle.helix_relations.specs.Rows.{IsForestOf, IsGoodRow, HasFixed, IsInSomeRow, IsFirstOfTree}
use Rattle.helix_relations.specs.MixingLaws.{none_some}
use Rattle.helix_relations.specs.ExtendingLaws.{extending_is_exact, trees_have_rows}
use Rattle.helix_relations.specs.Region.{RegionContent, numbers_of, relations_of, StandsRelation, IsRegionRow, AgreeAt, BeginsWith, ExtendsTo, IsLeftEnd, IsRightEnd, JoinsFields, IsRegion}
use Rattle.helix_relations.specs.RegionGraph.{IsCellIn, StandTogether, are_joined, number_of, graph_of, fixed_by, place_in, node_relations}
use Rattle.helix_relations.specs.NumberingLaws.{IsPlace, place_is, AreOnce, all_of, AreEndsAmong, place_of_number, joined_numbers, joined_places, places_below, joined_below, places_forest}
use Rattle.helix_relations.specs.GraphLaws.{joined_from, joined_to, passes, is_passing, ordered, among_of, fact_of, first_cells, first_cell_at, bound_of, below_bound, among_at, as_many, cells_at, cells_from, stand_in, stand_back}

module _ (region : RegionContent) (is : IsRegion region) where
  abbrev numbers : List ℕ
  numbers = numbers_of region.fields

  abbrev relations : List Relation
  relations = relations_of region.relations

  abbrev count : ℕ
  count = length region.fields

  abbrev once : AreOnce numbers
  once = ordered numbers (AllPairs-from_increasing numbers is.ascending)

  in_numbers : (u : ℕ) → u < count → u < length numbers
  in_numbers u below = let same = as_many region.fields in omega (arith, same, below)

  in_fields : (u : ℕ) → u < length numbers → u < count
  in_fields u below = let same = as_many region.fields in omega (arith, same, below)

  ends_of : (rest : List SignedRelation) → AllByRecursion (λ signed. JoinsFields region.fields signed.relation) rest
      → AllByRecursion (AreEndsAmong numbers once) (relations_of rest)
  ends_of [] all = tt
  ends_of (signed ∷ rest) all =
      let left = fact_of region.fields signed.relation.left (IsLeftEnd region.fields signed.relation) all.0 in
      let right = fact_of region.fields signed.relation.right (IsRightEnd signed.relation left.0) left.1.1 in (
        record {
          left = among_of region.fields signed.relation.left (IsLeftEnd region.fields signed.relation) all.0;
          right = among_of region.fields signed.relation.right (IsRightEnd signed.relation left.0) left.1.1;
          different = right.1.1.different;
        },
        ends_of rest all.1,
      )

  ends : AllByRecursion (AreEndsAmong numbers once) relations
  ends = ends_of region.relations is.ends

  joined_pair : (u c : ℕ) → u < count → Contains ((graph_of region).neighbours u) c
      ↔ AreJoined (node_relations region) u c
  joined_pair u c below = (
    (λ contains. let found = passes (λ k. are_joined relations (number_of region u) (number_of region k)) count c
        contains in
        joined_places numbers once relations ends u c (in_numbers u below) (in_numbers c found.0)
        (joined_from relations (number_of region u) (number_of region c) found.1)),
    (λ joined. is_passing (λ k. are_joined relations (number_of region u) (number_of region k)) count c
        (in_fields c (joined_below numbers once relations ends u c joined).1)
        (joined_to relations (number_of region u) (number_of region c)
        (joined_numbers numbers once relations ends u c joined))),
  )

  pub graph_is_forest : IsForestOf (graph_of region) (node_relations region) count
  graph_is_forest = record {
    forest = places_forest numbers once relations ends is.forest;
    ends = subst (λ n. All (HasEndsBelow n) (node_relations region)) (as_many region.fields)
        (all_of (HasEndsBelow (length numbers)) (node_relations region) (places_below numbers once relations ends));
    neighbours = joined_pair;
    inverse = λ u c p v joined p_has v_has stand.
        stand_back region.relations (number_of region u) (number_of region c) p v stand;
  }

  -- a row of the region as a good row, and back
  abbrev by_node : List Cell → ℕ → Cell
  by_node row u = cell_at row (number_of region u)

  pub good_of_row : (row : List Cell) → IsRegionRow region row → IsGoodRow (graph_of region) count (by_node row)
  good_of_row row of = record {
    has = λ u below. cells_at row region.fields of.cells u below;
    joined = λ u c below contains. stand_in row region.relations of.relations (number_of region u) (number_of region c);
  }

  abbrev by_number : (ℕ → Cell) → List Cell
  by_number cells = first_cells (λ number. cells (place_in numbers number)) (bound_of numbers)

  by_number_at : (cells : ℕ → Cell) (u : ℕ) → u < count → by_node (by_number cells) u ≡ cells u
  by_number_at cells u below =
      first_cell_at (λ number. cells (place_in numbers number)) (bound_of numbers) (number_of region u)
      (below_bound numbers u (in_numbers u below))
      ∙ ap cells (place_of_number numbers once u (in_numbers u below) (among_at numbers u (in_numbers u below)))

  module _ (cells : ℕ → Cell) (good : IsGoodRow (graph_of region) count cells) where
    cell_of_number : (number : ℕ) → IsAmong number numbers
        → cell_at (by_number cells) number ≡ cells (place_in numbers number)
    cell_of_number number among = let place : IsPlace numbers number (place_in numbers number) =
        place_is numbers number among in
        sym (ap (λ k. cell_at (by_number cells) k) place.is)
        ∙ by_number_at cells (place_in numbers number) (in_fields (place_in numbers number) place.below)

    relations_from : (rest : List SignedRelation) → AllByRecursion (AreEndsAmong numbers once) (relations_of rest)
        → ((m n : ℕ) (v w : Cell) → StandTogether region.relations m n v w → StandTogether rest m n v w)
        → ((m n : ℕ) → AreJoined (relations_of rest) m n → AreJoined relations m n)
        → AllByRecursion (λ signed. StandsRelation signed (cell_at (by_number cells) signed.relation.left)
        (cell_at (by_number cells) signed.relation.right)) rest
    relations_from [] some of joined = tt
    relations_from (signed ∷ rest) some of joined =
        let left : ℕ = place_in numbers signed.relation.left in
        let right : ℕ = place_in numbers signed.relation.right in
        let left_is : IsPlace numbers signed.relation.left left = place_is numbers signed.relation.left some.0.left in
        let right_is : IsPlace numbers signed.relation.right right =
        place_is numbers signed.relation.right some.0.right in
        let pair : AreJoined (node_relations region) left right =
        joined_places numbers once relations ends left right left_is.below right_is.below
        (joined (number_of region left) (number_of region right) (inl (sym left_is.is, sym right_is.is))) in
        let stand : StandTogether region.relations (number_of region left) (number_of region right) (cells left)
        (cells right) =
        good.joined left right (in_fields left left_is.below)
        ((joined_pair left right (in_fields left left_is.below)).1 pair) in (
          subst₂ (StandsRelation signed) (sym (cell_of_number signed.relation.left some.0.left))
              (sym (cell_of_number signed.relation.right some.0.right))
              ((of (number_of region left) (number_of region right) (cells left) (cells right) stand).0.0
              (sym left_is.is) (sym right_is.is)),
          relations_from rest some.1 (λ m n v w stands. (of m n v w stands).1)
              (λ m n later. joined m n (inr (inr later))),
        )

    row_of_good : IsRegionRow region (by_number cells)
    row_of_good = record {
      cells = cells_from (by_number cells) region.fields
          (λ u below. subst (IsCellIn (slice_get region.fields u)) (sym (by_number_at cells u below)) (good.has u below));
      relations = relations_from region.relations ends (λ m n v w stands. stands) (λ m n joined. joined);
    }

  -- a region has rows exactly where some cell of the first field of each tree extends
  pub region_has_rows : (depth : ℕ) → count ≤ depth
      → ((u : ℕ) → u < count → IsFirstOfTree (node_relations region) u
      → (v : Cell) × Extends (graph_of region) (λ other. None) depth None u v)
      ↔ ((row : List Cell) × IsRegionRow region row)
  region_has_rows depth enough =
      let trees = trees_have_rows (graph_of region) (node_relations region) count graph_is_forest depth enough in (
        (λ firsts. let found = trees.0 firsts in (by_number found.0, row_of_good found.0 found.1)),
        (λ some. trees.1 (by_node some.0, good_of_row some.0 some.1)),
      )

  -- the fixed cells of a row that begins with a prefix
  module _ (prefix : List Cell) (level : ℕ) (within : level < count) where
    pub agree_at : (ns : List ℕ) (level : ℕ) (row : List Cell) → AgreeAt (take level ns) row prefix → (u : ℕ) → u < level
        → u < length ns → cell_at row (slice_index ns u) ≡ cell_at prefix (slice_index ns u)
    agree_at [] level row agree u below in_ns = absurd (omega (arith, in_ns))
    agree_at (n ∷ ns) zero row agree u below in_ns = absurd (omega (arith, below))
    agree_at (n ∷ ns) (suc level) row agree zero below in_ns = agree.0
    agree_at (n ∷ ns) (suc level) row agree (suc u) below in_ns =
        agree_at ns level row agree.1 u (omega (arith, below)) (omega (arith, in_ns))

    agree_from : (ns : List ℕ) (level : ℕ) (row : List Cell)
        → ((u : ℕ) → u < level → u < length ns → cell_at row (slice_index ns u) ≡ cell_at prefix (slice_index ns u))
        → AgreeAt (take level ns) row prefix
    agree_from [] zero row each = tt
    agree_from [] (suc level) row each = tt
    agree_from (n ∷ ns) zero row each = tt
    agree_from (n ∷ ns) (suc level) row each = (
      each 0 (omega arith) (omega arith),
      agree_from ns level row (λ u below in_ns. each (suc u) (next level u below) (next (length ns) u in_ns)),
    )
      where
        next : (n u : ℕ) → u < n → suc u < suc n
        next n u below = omega (arith, below)

    abbrev fixed : ℕ → Option Cell
    fixed u = fixed_by region prefix level u

    fixed_before : (u : ℕ) → u < level → fixed u ≡ Some (cell_at prefix (number_of region u))
    fixed_before u below = ap (λ b. if b then Some (cell_at prefix (number_of region u)) else None) (lt-ltb u level below)

    fixed_from : (u : ℕ) → level ≤ u → fixed u ≡ None
    fixed_from u above = ap (λ b. if b then Some (cell_at prefix (number_of region u)) else None)
        (ltb-false_of u level above)
      where
        ltb-false_of : (u level : ℕ) → level ≤ u → ltb u level ≡ false
        ltb-false_of u level above = false_from_ne_true (ltb u level)
            (λ e. let less = ltb-true u level e in omega (arith, less, above))

    is_before : (u : ℕ) (v : Cell) → fixed u ≡ Some v → u < level
    is_before u v e = ⊎_elim (λ below. below) (λ above. absurd (none_some v (sym (fixed_from u above) ∙ e)))
        (cases_lt u level)

    has_fixed : (row : List Cell) → AgreeAt (take level numbers) row prefix → HasFixed fixed (by_node row)
    has_fixed row agree u v e = let below : u < level = is_before u v e in
        agree_at numbers level row agree u below (in_numbers u (omega (arith, below, within)))
        ∙ same_Some (cell_at prefix (number_of region u)) v (sym (fixed_before u below) ∙ e)

    -- a fixed cell is one of its field
    pub fixed_cells : (row : List Cell) → BeginsWith region prefix level row → (u : ℕ) (v : Cell) → u < count
        → fixed_by region prefix level u ≡ Some v → (graph_of region).Has u v
    fixed_cells row begins u v below e = subst (IsCellIn (slice_get region.fields u))
        (has_fixed row begins.agrees u v e) ((good_of_row row begins.is_row).has u below)

    agrees : (cells : ℕ → Cell) → HasFixed fixed cells → AgreeAt (take level numbers) (by_number cells) prefix
    agrees cells has = agree_from numbers level (by_number cells)
        (λ u below in_ns. by_number_at cells u (in_fields u in_ns)
        ∙ has u (cell_at prefix (number_of region u)) (fixed_before u below))

    row_of : (v : Cell) → IsInSomeRow (graph_of region) count fixed level v → ExtendsTo region prefix level v
    row_of v some = record {
      row = by_number some.row;
      begins = record { is_row = row_of_good some.row some.good; agrees = agrees some.row some.has_fixed };
      is = by_number_at some.row level within ∙ some.is;
    }

    of_row : (v : Cell) → ExtendsTo region prefix level v → IsInSomeRow (graph_of region) count fixed level v
    of_row v to = record {
      row = by_node to.row;
      good = good_of_row to.row to.begins.is_row;
      has_fixed = has_fixed to.row to.begins.agrees;
      is = to.is;
    }

    -- where some row of the region begins with the prefix, the cells that extend at the next field are those of such
    -- rows
    pub region_extends : (row : List Cell) → BeginsWith region prefix level row → (depth : ℕ) → count ≤ depth
        → (v : Cell) → Extends (graph_of region) (fixed_by region prefix level) depth None level v
        ↔ ExtendsTo region prefix level v
    region_extends row begins depth enough v =
        let exact = extending_is_exact (graph_of region) (node_relations region) count graph_is_forest depth enough fixed
        (by_node row) (good_of_row row begins.is_row) (has_fixed row begins.agrees) level v within
        (fixed_from level (omega arith)) in
        ((λ extends. row_of v (exact.0 extends)), (λ to. exact.1 (of_row v to)))
