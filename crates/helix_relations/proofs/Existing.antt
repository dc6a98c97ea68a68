-- Whether a region has rows at all. Lemmas.
use Rattle.std.proofs.Common.{◌≡◌, ◌↔◌, ℕ, suc, ◌+◌, ◌-◌, ◌<◌, ◌≤◌, Bool, true, false, IsTrue, ltb, if◌then◌else◌, ⊎_elim, None, Some, List, [], length, get_or, refl, sym, ap, subst, arith}
use Rattle.std.proofs.lemmas.Bool.{true≢false, cases_eq, ltb-true, false_from_ne_true}
use Rattle.helix_values.specs.declared.cell.Cell.{Cell}
use Rattle.helix_values.specs.declared.mark.Mark.TheVariants as mark
use Rattle.helix_search.specs.declared.level.Level.{Level}
use Rattle.helix_search.specs.Extending.{Extends}
use Rattle.helix_search.specs.Levels.{IsFound}
use Rattle.helix_profile.specs.Satisfaction.{cell_at}
use Rattle.helix_relations.specs.declared.signed.SignedRelation.{SignedRelation}
use Rattle.helix_relations.specs.ExtendingLaws.{extending_is_exact}
use Rattle.helix_relations.specs.MixingLaws.{none_some}
use Rattle.helix_relations.specs.Region.{RegionContent, IsRegion, IsRegionCell, IsRegionRow}
use Rattle.helix_relations.specs.RegionGraph.{number_of, graph_of, fixed_by, node_relations}
use Rattle.helix_relations.specs.RegionLaws.{graph_is_forest, good_of_row, region_has_rows}
use Rattle.helix_relations.specs.SearchGraph.{IsRelated}
use Rattle.helix_relations.specs.Inner.FixedLaws.{same_fixed}
use Rattle.helix_relations.specs.Inner.Kept.{IsKept}
use Rattle.helix_relations.specs.Inner.Parts.{PartNode, field_of, content_of}
use Rattle.helix_relations.specs.Inner.Searched.{depth_for, HasSome}
use Rattle.helix_relations.proofs.Asked.{as_many, alone_cells, enough_room}

-- where a region has a row, each field has a cell that extends
some_of_row : (region : RegionContent) → IsRegion region → (depth : ℕ) → length region.fields ≤ depth
    → (row : List Cell) → IsRegionRow region row → (u : ℕ) → u < length region.fields → HasSome region depth u
some_of_row region is depth enough row of u below =
    let cells : ℕ → Cell = λ k. cell_at row (number_of region k) in
    let exact = extending_is_exact (graph_of region) (node_relations region) (length region.fields)
    (graph_is_forest region is) depth enough (λ other. None) cells (good_of_row region is row of)
    (λ k v e. absurd (none_some v e)) u (cells u) below refl in (
      cells u,
      exact.1 (record {
        row = cells;
        good = good_of_row region is row of;
        has_fixed = λ k v e. absurd (none_some v e);
        is = refl;
      }),
    )

-- something is found exactly where there is some
pub found_some : (Has : Cell → Type 0) (found : Bool) (v : Cell) → IsFound Has mark.Start found v
    → IsTrue found ↔ ((w : Cell) × Has w)
found_some Has true v is = ((λ so. (v, is.has)), (λ some. refl))
found_some Has false v none =
    ((λ so. absurd (true≢false (sym so))), (λ some. absurd (none some.0 some.1 tt)))

-- nothing is fixed by no cells
none_fixed : (region : RegionContent) (row : List Cell) (c : ℕ) → fixed_by region row 0 c ≡ None
none_fixed region row c = ap (λ b. if b then Some (cell_at row (number_of region c)) else None)
    (false_from_ne_true (ltb c 0) (λ e. let below = ltb-true c 0 e in omega (arith, below)))

module _ (ns : List PartNode) (rels : List SignedRelation) (levels : List Level) (asked : ℕ)
    (kept : IsKept ns rels levels asked) where
  abbrev region : RegionContent
  region = content_of ns rels asked

  enough_depth : (room : ℕ) → length region.fields ≤ depth_for (length ns) room
  enough_depth room = let same = as_many ns rels levels asked kept in omega (arith, same)

  -- a region has rows exactly where each field has a cell that extends: none of them fails
  pub rows_of_some : (room : ℕ) → ((u : ℕ) → u < length ns → HasSome region (depth_for (length ns) room) u)
      → (row : List Cell) × IsRegionRow region row
  rows_of_some room some = (region_has_rows region kept.region (depth_for (length ns) room) (enough_depth room)).0
      (λ u below first. some u (let same = as_many ns rels levels asked kept in omega (arith, same, below)))

  pub some_of_rows : (room : ℕ) → (row : List Cell) × IsRegionRow region row → (u : ℕ) → u < length ns
      → HasSome region (depth_for (length ns) room) u
  some_of_rows room rows u below = some_of_row region kept.region (depth_for (length ns) room) (enough_depth room)
      rows.0 rows.1 u (let same = as_many ns rels levels asked kept in omega (arith, same, below))

  module _ (u : ℕ) (u_in : u < length ns) (d : PartNode) (answer : Bool) where
    abbrev p : PartNode
    p = get_or ns u d

    -- a field without neighbours: any cell extends
    pub alone_some : p.neighbours ≡ [] → (room : ℕ) → IsTrue answer ↔ ((v : Cell) × IsRegionCell (field_of p) v)
        → IsTrue answer ↔ HasSome region (depth_for (length ns) room) u
    alone_some none room told =
        let deep : depth_for (length ns) room ≡ suc (depth_for (length ns) room - 1) = omega (arith, u_in) in
        let cells = alone_cells ns rels levels asked kept u u_in d none (λ other. None)
        (depth_for (length ns) room - 1) in (
          (λ so. let some = told.0 so in (
            some.0,
            subst (λ depth. Extends (graph_of region) (λ other. None) depth None u some.0) (sym deep)
                ((cells some.0).0 some.1),
          )),
          (λ some. told.1 (
            some.0,
            (cells some.0).1
                (subst (λ depth. Extends (graph_of region) (λ other. None) depth None u some.0) deep some.1),
          )),
        )

  -- a related field: one that is found where nothing is fixed does
  pub related_some : (u : ℕ) → IsRelated region u → (row : List Cell) (found : Bool) (v : Cell)
      → IsFound (Extends (graph_of region) (fixed_by region row 0) (length levels) None u) mark.Start found v
      → IsTrue found ↔ HasSome region (depth_for (length ns) (length levels)) u
  related_some u related row found v is =
      let told = found_some (λ w. Extends (graph_of region) (fixed_by region row 0) (length levels) None u w) found v is
      in
      let deep : length levels ≡ depth_for (length ns) (length levels) =
      let room = enough_room ns rels levels asked kept u related in
      let same = as_many ns rels levels asked kept in omega (arith, room, same) in (
        (λ so. let some = told.0 so in (
          some.0,
          subst (λ depth. Extends (graph_of region) (λ other. None) depth None u some.0) deep
              (same_fixed (graph_of region) (fixed_by region row 0) (λ other. None) (none_fixed region row)
              (length levels) None u some.0 some.1),
        )),
        (λ some. told.1 (
          some.0,
          same_fixed (graph_of region) (λ other. None) (fixed_by region row 0) (λ c. sym (none_fixed region row c))
              (length levels) None u some.0
              (subst (λ depth. Extends (graph_of region) (λ other. None) depth None u some.0) (sym deep) some.1),
        )),
      )

-- a fact of the first numbers, and of one more
pub one_more : (Fact : ℕ → Type 0) (n : ℕ) → ((u : ℕ) → u < n → Fact u) → Fact n → (u : ℕ) → u < n + 1 → Fact u
one_more Fact n before last u below = ⊎_elim (λ e. subst Fact (sym e) last)
    (λ other. before u (omega (arith, other, below))) (cases_eq u n)
