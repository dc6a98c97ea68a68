-- A row of a region is told by its cells at the region's fields. Lemmas.
use Rattle.std.proofs.Common.{◌≡◌, ℕ, ◌+◌, ◌<◌, inl, inr, List, [], ◌∷◌, ◌++◌, length, take, slice_index, sym, ◌∙◌, subst, arith}
use Rattle.std.proofs.lemmas.List.{take_more, take_all}
use Rattle.std.proofs.Math.Path.{subst₂}
use Rattle.std.specs.List.{AllByRecursion}
use Rattle.helix_values.specs.declared.cell.Cell.{Cell}
use Rattle.helix_profile.specs.Satisfaction.{cell_at}
use Rattle.helix_forest.specs.Closed.{IsAmong}
use Rattle.helix_relations.specs.declared.signed.SignedRelation.{SignedRelation}
use Rattle.helix_relations.specs.Region.{RegionField, RegionContent, numbers_of, IsRegionCell, StandsRelation, IsRegionRow, AgreeAt, BeginsWith, ExtendsTo, IsLeftEnd, IsRightEnd, JoinsFields, IsRegion}
use Rattle.helix_relations.specs.GraphLaws.{among_of, fact_of, as_many}

module _ (row other : List Cell) where
  same_cell : (numbers : List ℕ) (number : ℕ) → AgreeAt numbers row other → IsAmong number numbers
      → cell_at row number ≡ cell_at other number
  same_cell [] number agree none = absurd none
  same_cell (n ∷ numbers) number agree (inl here) =
      subst (λ k. cell_at row k ≡ cell_at other k) (sym here) agree.0
  same_cell (n ∷ numbers) number agree (inr later) = same_cell numbers number agree.1 later

  same_cells : (fields : List RegionField) → AgreeAt (numbers_of fields) row other
      → AllByRecursion (λ field. IsRegionCell field (cell_at row field.number)) fields
      → AllByRecursion (λ field. IsRegionCell field (cell_at other field.number)) fields
  same_cells [] agree all = tt
  same_cells (field ∷ fields) agree all =
      (subst (IsRegionCell field) agree.0 all.0, same_cells fields agree.1 all.1)

  same_relations : (fields : List RegionField) → AgreeAt (numbers_of fields) row other → (rest : List SignedRelation)
      → AllByRecursion (λ signed. JoinsFields fields signed.relation) rest
      → AllByRecursion
      (λ signed. StandsRelation signed (cell_at row signed.relation.left) (cell_at row signed.relation.right)) rest
      → AllByRecursion
      (λ signed. StandsRelation signed (cell_at other signed.relation.left) (cell_at other signed.relation.right)) rest
  same_relations fields agree [] ends all = tt
  same_relations fields agree (signed ∷ rest) ends all =
      let left = fact_of fields signed.relation.left (IsLeftEnd fields signed.relation) ends.0 in (
        subst₂ (StandsRelation signed)
            (same_cell (numbers_of fields) signed.relation.left agree
            (among_of fields signed.relation.left (IsLeftEnd fields signed.relation) ends.0))
            (same_cell (numbers_of fields) signed.relation.right agree
            (among_of fields signed.relation.right (IsRightEnd signed.relation left.0) left.1.1))
            all.0,
        same_relations fields agree rest ends.1 all.1,
      )

  -- a row with the same cells at the region's fields is a row of it too
  pub same_row : (region : RegionContent) → IsRegion region → AgreeAt (numbers_of region.fields) row other
      → IsRegionRow region row → IsRegionRow region other
  same_row region is agree is_row = record {
    cells = same_cells region.fields agree is_row.cells;
    relations = same_relations region.fields agree region.relations is.ends is_row.relations;
  }

agree_through : (numbers : List ℕ) (a b c : List Cell) → AgreeAt numbers a b → AgreeAt numbers c b → AgreeAt numbers a c
agree_through [] a b c one two = tt
agree_through (n ∷ numbers) a b c one two = (one.0 ∙ sym two.0, agree_through numbers a b c one.1 two.1)

agree_after : (numbers : List ℕ) (last : ℕ) (a b : List Cell) → AgreeAt numbers a b
    → cell_at a last ≡ cell_at b last → AgreeAt (numbers ++ last ∷ []) a b
agree_after [] last a b agree same = (same, tt)
agree_after (n ∷ numbers) last a b agree same = (agree.0, agree_after numbers last a b agree.1 same)

-- where a cell extends a prefix to a row, that row begins with the prefix and the cell
pub begins_next : (region : RegionContent) (level : ℕ) → level < length region.fields → (prefix next : List Cell)
    (v : Cell) (to : ExtendsTo region prefix level v) → AgreeAt (take level (numbers_of region.fields)) next prefix
    → cell_at next (slice_index (numbers_of region.fields) level) ≡ v → BeginsWith region next (level + 1) to.row
begins_next region level within prefix next v to agree is =
    let numbers : List ℕ = numbers_of region.fields in
    let in_numbers : level < length numbers = let same = as_many region.fields in omega (arith, same, within) in
    record {
      is_row = to.begins.is_row;
      agrees = subst (λ ns. AgreeAt ns to.row next) (sym (take_more numbers level 0 in_numbers))
          (agree_after (take level numbers) (slice_index numbers level) to.row next
          (agree_through (take level numbers) to.row prefix next to.begins.agrees agree) (to.is ∙ sym is));
    }

-- a prefix of all fields with which a row begins is a row
pub begins_whole : (region : RegionContent) → IsRegion region → (prefix row : List Cell)
    → BeginsWith region prefix (length region.fields) row → IsRegionRow region prefix
begins_whole region is prefix row begins =
    let numbers : List ℕ = numbers_of region.fields in
    let all : take (length region.fields) numbers ≡ numbers =
    take_all (length region.fields) numbers (let same = as_many region.fields in omega (arith, same)) in
    same_row row prefix region is (subst (λ ns. AgreeAt ns row prefix) all begins.agrees) begins.is_row
