-- Which cells go on from a prefix that a row begins with, and the steps to them. Lemmas.
use Rattle.std.proofs.Common.{◌≡◌, ◌↔◌, ℕ, suc, ◌<◌, Bool, true, false, IsTrue, Ordering, None, Some, List, [], length, slice_get, slice_index_or, slice_set, get_or, refl, sym, ap, ◌∙◌, subst, arith}
use Rattle.std.proofs.Math.Path.{subst₂}
use Rattle.std.proofs.lemmas.Bool.{true≢false}
use Rattle.std.proofs.lemmas.List.{get_or-set_same, set-get_or}
use Rattle.std.proofs.lemmas.Option.{same_Some}
use Rattle.helix_values.specs.declared.cell.Cell.{Cell}
use Rattle.helix_values.specs.declared.cell.Cell.TheVariants as cell
use Rattle.helix_values.specs.declared.cell.CellRef.{CellRef}
use Rattle.helix_values.specs.declared.mark.Mark.{Mark}
use Rattle.helix_values.specs.declared.mark.Mark.TheVariants as mark
use Rattle.helix_values.specs.Class.{class_of_kind, AreComparable}
use Rattle.helix_values.specs.Counts.{IsMarkBound}
use Rattle.helix_values.specs.Order.{cell_cmp}
use Rattle.helix_values.specs.View.{cell_of}
use Rattle.std.specs.Ordering.{is_eq}
use Rattle.helix_domains.proofs.Orders.{least_is_it, none_is_it}
use Rattle.helix_relations.proofs.Beginning.{comparable}
use Rattle.helix_profile.specs.Satisfaction.{cell_at}
use Rattle.helix_rows.specs.Regions.{IsLeastStep}
use Rattle.helix_rows.specs.declared.region.Question.{Question}
use Rattle.helix_search.specs.declared.level.Level.{Level}
use Rattle.helix_search.specs.Extending.{Extends}
use Rattle.helix_search.specs.Levels.{IsFound}
use Rattle.helix_relations.specs.declared.signed.SignedRelation.{SignedRelation}
use Rattle.helix_relations.specs.Asking.{OfField, IsCellForField, IsOwnFor, IsMarkFor, Begins, IsStep}
use Rattle.helix_relations.specs.Region.{RegionContent, IsRegionCell, ExtendsTo}
use Rattle.helix_relations.specs.RegionGraph.{number_of, graph_of, fixed_by}
use Rattle.helix_relations.specs.RegionLaws.{region_extends}
use Rattle.helix_relations.specs.SearchGraph.{IsRelated}
use Rattle.helix_relations.specs.Inner.Marking.{IsMarked}
use Rattle.helix_relations.specs.Inner.Parts.{PartNode, field_of, fields_of, content_of}
use Rattle.helix_relations.specs.Inner.Kept.{IsKept}
use Rattle.helix_relations.proofs.Asked.{as_many, field_is, number_is, has_is, alone_cells, enough_room, extends_has}
use Rattle.helix_relations.proofs.Fixing.{found_alike}
use Rattle.helix_relations.proofs.Stepping.{marked_for, step_alike, found_step, none_step}

module _ (ns : List PartNode) (rels : List SignedRelation) (levels : List Level) (asked : ℕ)
    (kept : IsKept ns rels levels asked) (u : ℕ) (u_in : u < length ns) (d : PartNode) (row : List Cell)
    (begun : Begins (content_of ns rels asked) row u) where
  abbrev region : RegionContent
  region = content_of ns rels asked

  abbrev p : PartNode
  p = get_or ns u d

  below : u < length region.fields
  below = let same = as_many ns rels levels asked kept in omega (arith, same, u_in)

  node_number : number_of region u ≡ p.place
  node_number = number_is ns rels levels asked kept u u_in d

  node_field : slice_get (fields_of ns) u ≡ Some (field_of p)
  node_field = field_is ns rels levels asked kept u u_in d

  pub alone_rows : p.neighbours ≡ [] → (v : Cell) → IsRegionCell (field_of p) v ↔ ExtendsTo region row u v
  alone_rows none v =
      let alone = alone_cells ns rels levels asked kept u u_in d none (fixed_by region row u)
      (length region.fields) v in
      let exact = region_extends region kept.region row u below begun.0 begun.1 (suc (length region.fields))
      (omega arith) v in
      ((λ has. exact.0 (alone.0 has)), (λ to. alone.1 (exact.1 to)))

  related_rows : IsRelated region u → (v : Cell)
      → Extends (graph_of region) (fixed_by region row u) (length levels) None u v ↔ ExtendsTo region row u v
  related_rows related v = region_extends region kept.region row u below begun.0 begun.1 (length levels)
      (enough_room ns rels levels asked kept u related) v

  pub own_cell : (s : Cell) → s ≡ slice_index_or row p.place cell.Null → cell_at row (number_of region u) ≡ s
  own_cell s e = ap (λ n. cell_at row n) node_number ∙ sym e

  -- the mark of a question that can be asked is one for the field
  pub own_mark : (s : Cell) (q : Question) (m : Mark) → s ≡ slice_index_or row p.place cell.Null → IsMarked q s m
      → OfField (fields_of ns) u (λ field. IsOwnFor q field (cell_at row field.number))
      → OfField (fields_of ns) u (IsMarkFor m)
  own_mark s q m e marked for field at = subst (IsMarkFor m) (same_Some (field_of p) field (sym node_field ∙ at))
      (marked_for q s m (field_of p) marked (subst (IsOwnFor q (field_of p)) (sym e) (for (field_of p) node_field)))

  put_cell : (new : List Cell) (v : Cell) → p.place < length row → new ≡ slice_set row p.place v
      → cell_at new (number_of region u) ≡ v
  put_cell new v place_in e = ap (λ n. cell_at new n) node_number
      ∙ (ap (λ r. cell_at r p.place) e ∙ get_or-set_same row p.place v cell.Null place_in)

  -- one cell is put in the place of the row's own
  put_step : (new : List Cell) (v s : Cell) (q : Question) (found : Bool) → p.place < length row
      → s ≡ slice_index_or row p.place cell.Null → new ≡ slice_set row p.place v
      → IsLeastStep (ExtendsTo region row u) q found s v → IsStep region u q found row new
  put_step new v s q found place_in e put step = record {
    answer = subst₂ (IsLeastStep (ExtendsTo region row u) q found) (sym (own_cell s e))
        (sym (put_cell new v place_in put)) step;
    others = put ∙ subst₂ (λ n w. slice_set row p.place v ≡ slice_set row n w) (sym node_number)
        (sym (put_cell new v place_in put)) refl;
  }

  pub alone_step : p.neighbours ≡ [] → (new : List Cell) (v s : Cell) (q : Question) (found : Bool)
      → p.place < length row → s ≡ slice_index_or row p.place cell.Null → new ≡ slice_set row p.place v
      → IsLeastStep (IsRegionCell (field_of p)) q found s v → IsStep region u q found row new
  alone_step none new v s q found place_in e put step = put_step new v s q found place_in e put
      (step_alike (IsRegionCell (field_of p)) (ExtendsTo region row u) (alone_rows none) q found s v step)

  pub related_found : IsRelated region u → (m : Mark) (found : Bool) (v : Cell)
      → IsFound (Extends (graph_of region) (fixed_by region row u) (length levels) None u) m found v
      → IsFound (ExtendsTo region row u) m found v
  related_found related m found v is = found_alike
      (λ w. Extends (graph_of region) (fixed_by region row u) (length levels) None u w) (ExtendsTo region row u)
      (related_rows related) m found v is

  pub related_step : IsRelated region u → (new : List Cell) (v s : Cell) (q : Question) (m : Mark)
      → p.place < length row → s ≡ slice_index_or row p.place cell.Null → new ≡ slice_set row p.place v
      → IsMarked q s m
      → IsFound (Extends (graph_of region) (fixed_by region row u) (length levels) None u) m true v
      → IsStep region u q true row new
  related_step related new v s q m place_in e put marked is = put_step new v s q true place_in e put
      (found_step (ExtendsTo region row u) q s m v marked (related_found related m true v is))

  pub related_end : IsRelated region u → (v s : Cell) (q : Question) (m : Mark)
      → s ≡ slice_index_or row p.place cell.Null → IsMarked q s m
      → IsFound (Extends (graph_of region) (fixed_by region row u) (length levels) None u) m false v
      → IsStep region u q false row row
  related_end related v s q m e marked is = record {
    answer = subst (λ w. IsLeastStep (ExtendsTo region row u) q false w w) (sym (own_cell s e))
        (none_step (ExtendsTo region row u) q s m v marked (related_found related m false v is));
    others = sym (set-get_or row (number_of region u) cell.Null);
  }

  -- whether the row's own cell goes on, of a field without neighbours,
  pub goes_alone : (s : Cell) → s ≡ slice_index_or row p.place cell.Null → (answer : Bool) → p.neighbours ≡ []
      → IsTrue answer ↔ IsRegionCell (field_of p) s
      → IsTrue answer ↔ ExtendsTo region row u (cell_at row (number_of region u))
  goes_alone s e answer none told = subst (λ v. IsTrue answer ↔ ExtendsTo region row u v) (sym (own_cell s e))
      ((λ so. (alone_rows none s).0 (told.0 so)), (λ to. told.1 ((alone_rows none s).1 to)))

  -- and of a related one
  pub goes_never : (own : CellRef) → cell_of own ≡ slice_index_or row p.place cell.Null → IsRelated region u
      → (v : Cell)
      → IsFound (Extends (graph_of region) (fixed_by region row u) (length levels) None u) (mark.At own) false v
      → IsTrue false ↔ ExtendsTo region row u (cell_at row (number_of region u))
  goes_never own e related v none = (
    (λ so. absurd (true≢false (sym so))),
    (λ to. absurd (none_is_it (ExtendsTo region row u) own (related_found related (mark.At own) false v none)
        (subst (ExtendsTo region row u) (own_cell (cell_of own) e) to))),
  )

  pub goes_related : (own : CellRef) → cell_of own ≡ slice_index_or row p.place cell.Null → IsRelated region u
      → (v : Cell) (order : Ordering) (answer : Bool) → order ≡ cell_cmp v (cell_of own) → answer ≡ is_eq order
      → IsFound (Extends (graph_of region) (fixed_by region row u) (length levels) None u) (mark.At own) true v
      → IsTrue answer ↔ ExtendsTo region row u (cell_at row (number_of region u))
  goes_related own e related v order answer compared told found =
      subst₂ (λ b w. IsTrue b ↔ ExtendsTo region row u w) (sym told) (sym (own_cell (cell_of own) e))
      (least_is_it (ExtendsTo region row u) own v order (related_found related (mark.At own) true v found) compared)

  -- what was found can be compared with it
  pub found_comparable : (m : Mark) (v own : Cell) → own ≡ slice_index_or row p.place cell.Null
      → IsCellForField (field_of p) (cell_at row p.place)
      → IsFound (Extends (graph_of region) (fixed_by region row u) (length levels) None u) m true v
      → AreComparable v own
  found_comparable m v own e for found =
      let has = extends_has (graph_of region) (fixed_by region row u) (length levels) u v found.has in
      comparable (field_of p) v own ((has_is ns rels levels asked kept u u_in d v).1 has)
      (subst (IsMarkBound (class_of_kind p.values.domain.field.kind)) (sym e) for.0)
