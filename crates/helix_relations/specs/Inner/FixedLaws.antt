-- The fixed cells of a search through the nodes of a region. Lemmas.
use Rattle.std.proofs.Common.{◌≡◌, ℕ, zero, suc, ◌<◌, ◌≤◌, ◌↔◌, Bool, true, false, if◌then◌else◌, ltb, Option, None, Some, List, length, slice_get, refl, sym, ap, ◌∙◌, subst, arith}
use Rattle.std.proofs.lemmas.Bool.{ltb-true}
use Rattle.helix_values.specs.declared.cell.Cell.{Cell}
use Rattle.helix_profile.specs.Satisfaction.{cell_at}
use Rattle.helix_search.specs.declared.level.Level.{Level}
use Rattle.helix_search.specs.Extending.{Graph, HasPartner, Extends}
use Rattle.helix_search.specs.Nodes.{cell_in, fixed_of}
use Rattle.helix_relations.specs.declared.signed.SignedRelation.{SignedRelation}
use Rattle.helix_relations.specs.RegionGraph.{number_of, graph_of, fixed_by}
use Rattle.helix_relations.specs.SearchGraph.{IsRelated}
use Rattle.helix_relations.specs.SearchLaws.{search_extends}
use Rattle.helix_relations.specs.Inner.Parts.{PartNode, content_of}
use Rattle.helix_relations.specs.Inner.PartLaws.{number_at}
use Rattle.helix_relations.specs.Inner.Kept.{IsKept}
use Rattle.helix_relations.specs.Inner.RelatingLaws.{some_node}
use Rattle.helix_relations.specs.Inner.SearchingLaws.{search_of, node_get, is_search_graph}

-- where the same cells are fixed, the same cells extend
module _ (g : Graph) (f h : ℕ → Option Cell) (same : (c : ℕ) → f c ≡ h c) where
  partner_on : (Stands One Other : Cell → Type 0) (o : Option Cell) → ((w : Cell) → One w → Other w)
      → HasPartner Stands One o → HasPartner Stands Other o
  partner_on Stands One Other (Some w) on is = is
  partner_on Stands One Other None on is = (is.0, on is.0 is.1, is.2)

  pub same_fixed : (depth : ℕ) (from : Option ℕ) (u : ℕ) (v : Cell) → Extends g f depth from u v
      → Extends g h depth from u v
  same_fixed zero from u v none = none
  same_fixed (suc depth) from u v extends = (
    extends.0,
    λ c contains other. subst
        (λ o. HasPartner (λ w. g.Joined u c v w) (λ w. Extends g h depth (Some u) c w) o) (same c)
        (partner_on (λ w. g.Joined u c v w) (λ w. Extends g f depth (Some u) c w) (λ w. Extends g h depth (Some u) c w)
        (f c) (λ w on. same_fixed depth (Some u) c w on) (extends.1 c contains other)),
  )

module _ (ns : List PartNode) (rels : List SignedRelation) (levels : List Level) (asked : ℕ)
    (kept : IsKept ns rels levels asked) (row : List Cell) (level : ℕ) (within : level ≤ length ns) where
  -- the fixed cells of the nodes are those of the region
  pub fixed_alike : (c : ℕ) → fixed_of ns row level c ≡ fixed_by (content_of ns rels asked) row level c
  fixed_alike c = by (ltb c level) refl
    where
      by : (b : Bool) → ltb c level ≡ b → (if b then cell_in row (slice_get ns c) else None)
          ≡ (if b then Some (cell_at row (number_of (content_of ns rels asked) c)) else None)
      by true e = let below : c < length ns = let less = ltb-true c level e in omega (arith, less, within) in
          ap (λ o. cell_in row o) (node_get ns c (some_node ns c below) below)
          ∙ ap (λ n. Some (cell_at row n)) (sym (number_at ns c (some_node ns c below) below))
      by false e = refl

  -- so the cells of a related field that extend in a search through the nodes are those that extend in the region
  pub nodes_extend : ((u : ℕ) (v : Cell) → u < length (content_of ns rels asked).fields
      → fixed_by (content_of ns rels asked) row level u ≡ Some v → (graph_of (content_of ns rels asked)).Has u v)
      → (depth u : ℕ) → IsRelated (content_of ns rels asked) u → (v : Cell)
      → Extends (search_of ns) (fixed_of ns row level) depth None u v
      ↔ Extends (graph_of (content_of ns rels asked)) (fixed_by (content_of ns rels asked) row level) depth None u v
  nodes_extend has depth u related v =
      let both = search_extends (content_of ns rels asked) kept.region (search_of ns)
      (is_search_graph ns rels levels asked kept) (fixed_by (content_of ns rels asked) row level) has depth u v related
      in (
        (λ extends. both.0 (same_fixed (search_of ns) (fixed_of ns row level)
            (fixed_by (content_of ns rels asked) row level) fixed_alike depth None u v extends)),
        (λ extends. same_fixed (search_of ns) (fixed_by (content_of ns rels asked) row level) (fixed_of ns row level)
            (λ c. sym (fixed_alike c)) depth None u v (both.1 extends)),
      )
