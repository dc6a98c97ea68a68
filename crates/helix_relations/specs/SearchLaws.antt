-- A graph that a search goes through in the place of a region's: it knows the related fields alone, where null is
-- forbidden. Lemmas.
use Rattle.std.proofs.Common.{◌≡◌, ℕ, suc, ◌<◌, ◌≤◌, false, IsTrue, MatchBool, ◌↔◌, List, [], ◌∷◌, length, Option, None, Some, Contains, All, refl, sym, ◌∙◌, subst, arith}
use Rattle.std.proofs.lemmas.Bool.{true≢false}
use Rattle.std.specs.List.{AllByRecursion}
use Rattle.helix_values.specs.Universe.{InUniverse}
use Rattle.helix_values.specs.declared.cell.Cell.{Cell}
use Rattle.helix_values.specs.declared.cell.Cell.TheVariants as cell
use Rattle.helix_values.specs.declared.kind.Kind.{Kind}
use Rattle.helix_values.specs.declared.kind.Kind.TheVariants as kind
use Rattle.helix_profile.specs.Forest.{AreJoined}
use Rattle.helix_profile.specs.Good.{IsCellOf}
use Rattle.helix_profile.specs.declared.field.Field.{Field}
use Rattle.helix_profile.specs.Satisfaction.{UnlessNull, is_null}
use Rattle.helix_forest.specs.Joins.{joined_back}
use Rattle.helix_domains.specs.Domain.{PassesAtom, IsAllowed}
use Rattle.helix_domains.specs.declared.atom.SignedAtom.{SignedAtom}
use Rattle.helix_search.specs.Extending.{Graph, Extends}
use Rattle.helix_relations.specs.Region.{RegionField, RegionContent, IsRegionCell, BeginsWith, ExtendsTo, IsRegion}
use Rattle.helix_relations.specs.RegionGraph.{graph_of, fixed_by, node_relations}
use Rattle.helix_relations.specs.Rows.{IsForestOf}
use Rattle.helix_relations.specs.SeeingLaws.{CarriesOver, carried_over}
use Rattle.helix_relations.specs.TrailLaws.{placed}
use Rattle.helix_relations.specs.NumberingLaws.{all_of}
use Rattle.helix_relations.specs.SearchGraph.{IsRelated, IsSearchGraph}
use Rattle.helix_relations.specs.RegionLaws.{graph_is_forest, region_extends, fixed_cells}

module _ (region : RegionContent) (is : IsRegion region) (search : Graph) (like : IsSearchGraph region search)
    (fixed : ℕ → Option Cell)
    (fixed_has : (u : ℕ) (v : Cell) → u < length region.fields → fixed u ≡ Some v → (graph_of region).Has u v) where
  forest : IsForestOf (graph_of region) (node_relations region) (length region.fields)
  forest = graph_is_forest region is

  -- a neighbour is related back
  pub related_back : (u c : ℕ) → u < length region.fields → Contains ((graph_of region).neighbours u) c
      → IsRelated region c
  related_back u c below contains =
      let pair : AreJoined (node_relations region) u c = (forest.neighbours u c below).0 contains in
      let ends = placed (length region.fields) (node_relations region) forest.ends u c pair in
      (ends.right, (u, (forest.neighbours c u ends.right).1 (joined_back (node_relations region) u c pair)))

  to_region : CarriesOver (IsRelated region) fixed search (graph_of region)
  to_region = record {
    neighbours = λ u c seen contains.
        ((like.neighbours u c seen.0).1 contains, related_back u c seen.0 contains);
    has = λ u v seen has. (like.has u v seen).0 has;
    fixed_has = λ u v seen e. (like.has u v seen).1 (fixed_has u v seen.0 e);
    joined = λ u c v w seen contains v_has w_has stand.
        (like.joined u c v w seen ((like.neighbours u c seen.0).1 contains) v_has w_has).0 stand;
  }

  of_region : CarriesOver (IsRelated region) fixed (graph_of region) search
  of_region = record {
    neighbours = λ u c seen contains. let own = (like.neighbours u c seen.0).0 contains in
        (own, related_back u c seen.0 own);
    has = λ u v seen has. (like.has u v seen).1 has;
    fixed_has = λ u v seen e. fixed_has u v seen.0 e;
    joined = λ u c v w seen contains v_has w_has stand.
        (like.joined u c v w seen contains ((like.has u v seen).1 v_has)
        ((like.has c w (related_back u c seen.0 ((like.neighbours u c seen.0).0 contains))).1 w_has)).1 stand;
  }

  -- a cell of a related field extends in both graphs alike
  pub search_extends : (depth : ℕ) (u : ℕ) (v : Cell) → IsRelated region u
      → Extends search fixed depth None u v ↔ Extends (graph_of region) fixed depth None u v
  search_extends depth u v related = (
    (λ extends. carried_over (IsRelated region) fixed search (graph_of region) to_region depth None u v related extends),
    (λ extends. carried_over (IsRelated region) fixed (graph_of region) search of_region depth None u v related extends),
  )

-- in a search through such a graph the cells of a related field that extend are those of rows that begin with the prefix
pub search_is_exact : (region : RegionContent) (is : IsRegion region) (search : Graph) → IsSearchGraph region search
    → (prefix : List Cell) (level : ℕ) → IsRelated region level → (row : List Cell) → BeginsWith region prefix level row
    → (depth : ℕ) → length region.fields ≤ depth → (v : Cell)
    → Extends search (fixed_by region prefix level) depth None level v ↔ ExtendsTo region prefix level v
search_is_exact region is search like prefix level related row begins depth enough v =
    let both = search_extends region is search like (fixed_by region prefix level)
    (fixed_cells region is prefix level related.0 row begins) depth level v related in
    let exact = region_extends region is prefix level related.0 row begins depth enough v in
    ((λ extends. exact.0 (both.0 extends)), (λ to. both.1 (exact.1 to)))

-- a cell of a node without neighbours extends
pub alone_extends : (graph : Graph) (fixed : ℕ → Option Cell) (depth u : ℕ) (v : Cell)
    → ((c : ℕ) → ¬ Contains (graph.neighbours u) c)
    → Extends graph fixed (suc depth) None u v ↔ graph.Has u v
alone_extends graph fixed depth u v none =
    ((λ extends. extends.0), (λ has. (has, λ c contains other. absurd (none c contains))))

-- null is in no universe
pub no_null_in : (kind : Kind) (v : Cell) → InUniverse kind v → is_null v ≡ false
no_null_in kind.Boolean cell.Null none = absurd none
no_null_in kind.Integer cell.Null none = absurd none
no_null_in kind.Decimal cell.Null none = absurd none
no_null_in (kind.Text alphabet) cell.Null none = absurd none
no_null_in kind.Date cell.Null none = absurd none
no_null_in kind.DateTime cell.Null none = absurd none
no_null_in (kind.Code code) cell.Null none = absurd none
no_null_in kind (cell.Bool b) has = refl
no_null_in kind (cell.Number n) has = refl
no_null_in kind (cell.Moment m) has = refl
no_null_in kind (cell.Text t) has = refl

-- a cell that isn't null is one of the field exactly where it is in the field's universe
cell_in : (field : Field) (v : Cell) → is_null v ≡ false → IsCellOf field v ↔ InUniverse field.kind v
cell_in field cell.Null e = absurd (true≢false e)
cell_in field (cell.Bool b) e = ((λ h. h), (λ h. h))
cell_in field (cell.Number n) e = ((λ h. h), (λ h. h))
cell_in field (cell.Moment m) e = ((λ h. h), (λ h. h))
cell_in field (cell.Text t) e = ((λ h. h), (λ h. h))

-- and atoms are passed by it as by a value
passing : (atoms : List SignedAtom) (v : Cell) → is_null v ≡ false
    → AllByRecursion (λ signed. UnlessNull v (PassesAtom signed v)) atoms ↔ All (λ signed. PassesAtom signed v) atoms
passing atoms v e = (
  (λ each. all_of (λ signed. PassesAtom signed v) atoms
      (subst (λ b. AllByRecursion (λ signed. MatchBool b (Unit {0}) (PassesAtom signed v)) atoms) e each)),
  (λ all. subst (λ b. AllByRecursion (λ signed. MatchBool b (Unit {0}) (PassesAtom signed v)) atoms) (sym e)
      (each_of atoms all)),
)
  where
    each_of : (rest : List SignedAtom) → All (λ signed. PassesAtom signed v) rest
        → AllByRecursion (λ signed. PassesAtom signed v) rest
    each_of [] all = tt
    each_of (signed ∷ rest) all =
        (all 0 signed (omega arith), each_of rest (λ k d below. all (suc k) d (omega (arith, below))))

-- where null is forbidden, and not alone allowed, the cells of a field are the values of its domain
pub cells_are_values : (field : RegionField) → IsTrue field.no_null → field.only_null ≡ false → (v : Cell)
    → IsRegionCell field v ↔ IsAllowed field.field.kind field.atoms v
cells_are_values field no_null not_alone v = (
  (λ is. record {
    in_universe = (cell_in field.field v (is.no_null no_null)).0 is.of_field;
    passes = (passing field.atoms v (is.no_null no_null)).0 is.passes;
  }),
  (λ is. let value : is_null v ≡ false = no_null_in field.field.kind v is.in_universe in record {
    of_field = (cell_in field.field v value).1 is.in_universe;
    no_null = λ _. value;
    only_null = λ alone. absurd (true≢false (sym alone ∙ not_alone));
    passes = (passing field.atoms v value).1 is.passes;
  }),
)
