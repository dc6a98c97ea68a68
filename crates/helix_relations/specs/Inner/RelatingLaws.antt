-- What is kept of a region with one more relation. Lemmas.
use Rattle.std.proofs.Common.{◌≡◌, ◌≢◌, ℕ, ◌<◌, Some, List, [], ◌∷◌, ◌++◌, length, slice_get, slice_index, get_or, set, sym, ap, ap₂, ◌∙◌, subst, arith}
use Rattle.std.proofs.lemmas.List.{length-map, map-append}
use Rattle.std.proofs.lemmas.Option.{same_Some, slice_get_within}
use Rattle.std.specs.List.{AllByRecursion}
use Rattle.std.specs.List.Sorted.{IsStrictlyIncreasing}
use Rattle.helix_profile.specs.Forest.{IsForest}
use Rattle.helix_profile.specs.declared.relation.Relation.{Relation}
use Rattle.helix_search.specs.declared.node.Neighbour.{Neighbour}
use Rattle.helix_search.specs.declared.level.Level.{Level}
use Rattle.helix_links.specs.declared.pair_link.PairLink.{PairLink}
use Rattle.helix_relations.specs.declared.signed.SignedRelation.{SignedRelation}
use Rattle.helix_relations.specs.Region.{RegionField, RegionContent, numbers_of, relations_of, FieldNumbered, IsLeftEnd, IsRightEnd, JoinsFields, IsRegion}
use Rattle.helix_relations.specs.Change.{with_relation}
use Rattle.helix_relations.specs.GraphLaws.{fact_of}
use Rattle.helix_relations.specs.Inner.Parts.{PartNode, field_of, fields_of, content_of, IsIndexOf}
use Rattle.helix_relations.specs.Inner.PutLaws.{all_after, any_numbered}
use Rattle.helix_relations.specs.Inner.Kept.{joint_of, joints_of, IsOfClass, AreLinked, AreLinkable, AreLinkedAt, IsKeptNode, IsKept}
use Rattle.helix_relations.specs.Inner.KeptLaws.{each_put, each_at, each_more, joints_put, fields_put, length_put, joint_at, one_put, placed_once, still_linked, each_of_class}

-- the ends of a relation are among the fields
pub left_there : (fields : List RegionField) (r : Relation) → JoinsFields fields r
    → FieldNumbered fields r.left (λ field. Unit {0})
left_there fields r joins = any_numbered fields r.left (IsLeftEnd fields r) joins

pub right_there : (fields : List RegionField) (r : Relation) → JoinsFields fields r
    → FieldNumbered fields r.right (λ field. Unit {0})
right_there fields r joins = let left = fact_of fields r.left (IsLeftEnd fields r) joins in
    any_numbered fields r.right (IsRightEnd r left.0) left.1.1

pub some_node : (nodes : List PartNode) (u : ℕ) → u < length nodes → PartNode
some_node [] u below = absurd (omega (arith, below))
some_node (x ∷ nodes) u below = x

-- the node knows the kind of its field and whether it is nullable
abbrev pub IsOwn : PartNode → Type 0
IsOwn n = (n.values.kind ≡ n.values.domain.field.kind) × (n.values.nullable ≡ n.values.domain.field.nullable)

module _ (nodes : List PartNode) (rels : List SignedRelation) (levels : List Level) (asked : ℕ)
    (kept : IsKept nodes rels levels asked) (s : SignedRelation) (new : List SignedRelation)
    (new_is : new ≡ rels ++ s ∷ []) (now : RegionContent) (view_is : content_of nodes rels asked ≡ now)
    (joins_now : JoinsFields now.fields s.relation) where
  joins : JoinsFields (fields_of nodes) s.relation
  joins = subst (λ r. JoinsFields r.fields s.relation) (sym view_is) joins_now

  all_join : AllByRecursion (λ signed. JoinsFields (fields_of nodes) signed.relation) (rels ++ s ∷ [])
  all_join = all_after (λ signed. JoinsFields (fields_of nodes) signed.relation) rels s kept.region.ends joins

  own : AllByRecursion IsOwn nodes
  own = each_more (IsKeptNode (joints_of nodes) rels) IsOwn nodes (λ n is. (is.kind, is.nullable)) kept.kept

  -- the ends of the relation are there,
  pub left_in : (slice : List PartNode) → slice ≡ nodes
      → FieldNumbered (fields_of slice) s.relation.left (λ field. Unit {0})
  left_in slice same = subst (λ ns. FieldNumbered (fields_of ns) s.relation.left (λ field. Unit {0})) (sym same)
      (left_there (fields_of nodes) s.relation joins)

  pub right_in : (slice : List PartNode) → slice ≡ nodes
      → FieldNumbered (fields_of slice) s.relation.right (λ field. Unit {0})
  right_in slice same = subst (λ ns. FieldNumbered (fields_of ns) s.relation.right (λ field. Unit {0})) (sym same)
      (right_there (fields_of nodes) s.relation joins)

  -- and it can be linked
  linkable_own : AreLinkable (joints_of nodes) (rels ++ s ∷ [])
  linkable_own u c here other at other_at =
      let u_in : u < length nodes = let within = slice_get_within (joints_of nodes) u here at in
      let same = length-map nodes joint_of in omega (arith, within, same) in
      let d : PartNode = some_node nodes u u_in in
      let here_is : joint_of (get_or nodes u d) ≡ here =
      same_Some (joint_of (get_or nodes u d)) here (sym (joint_at nodes u d u_in) ∙ at) in
      subst (λ j. AllByRecursion (IsOfClass j.class j.number other.number) (rels ++ s ∷ [])) here_is
      (each_of_class nodes kept.region.ascending d u u_in other.number (each_at IsOwn nodes u d u_in own).0
      (rels ++ s ∷ []) all_join)

  pub linkable : (slice : List PartNode) → slice ≡ nodes → (of : List SignedRelation) → of ≡ new
      → AreLinkable (joints_of slice) of
  linkable slice same of of_is = subst (λ ns. AreLinkable (joints_of ns) of) (sym same)
      (subst (AreLinkable (joints_of nodes)) (sym (of_is ∙ new_is)) linkable_own)

  module _ (slice_l slice_r : List PartNode) (same_l : slice_l ≡ nodes) (same_r : slice_r ≡ nodes) (l r : ℕ)
      (slice_index_l : IsIndexOf slice_l s.relation.left l) (slice_index_r : IsIndexOf slice_r s.relation.right r)
      (p q : PartNode) (of_left of_right : List (Neighbour PairLink)) (p_is : p ≡ get_or nodes l p)
      (q_is : q ≡ get_or (set nodes l (record p { neighbours = of_left })) r q) where
    index_l : IsIndexOf nodes s.relation.left l
    index_l = subst (λ ns. IsIndexOf ns s.relation.left l) same_l slice_index_l

    index_r : IsIndexOf nodes s.relation.right r
    index_r = subst (λ ns. IsIndexOf ns s.relation.right r) same_r slice_index_r

    abbrev first : List PartNode
    first = set nodes l (record p { neighbours = of_left })

    abbrev both : List PartNode
    both = set first r (record q { neighbours = of_right })

    joints_first : joints_of first ≡ joints_of nodes
    joints_first = joints_put nodes l (record p { neighbours = of_left }) p (ap joint_of p_is)

    joints_both : joints_of both ≡ joints_of nodes
    joints_both = joints_put first r (record q { neighbours = of_right }) q (ap joint_of q_is) ∙ joints_first

    fields_first : fields_of first ≡ fields_of nodes
    fields_first = fields_put nodes l (record p { neighbours = of_left }) p (ap field_of p_is)

    fields_both : fields_of both ≡ fields_of nodes
    fields_both = fields_put first r (record q { neighbours = of_right }) q (ap field_of q_is) ∙ fields_first

    -- contracts see the one relation more
    pub related_content : content_of both new asked ≡ with_relation now s
    related_content = ap₂ (λ fs rs. let content : RegionContent = record { fields = fs; relations = rs; asked = asked }
        in content) fields_both new_is ∙ ap (λ region. with_relation region s) view_is

    abbrev Q : PartNode → Type 0
    Q n = IsKeptNode (joints_of nodes) new n

    apart : AllByRecursion (λ n. n.place ≢ s.relation.left → n.place ≢ s.relation.right → Q n) nodes
    apart = each_more (IsKeptNode (joints_of nodes) rels)
        (λ n. n.place ≢ s.relation.left → n.place ≢ s.relation.right → Q n) nodes
        (λ n is not_left not_right. record {
          kind = is.kind;
          nullable = is.nullable;
          linked = subst (λ rs. AreLinked (joints_of nodes) rs (joint_of n) n.neighbours) (sym new_is)
              (still_linked (joints_of nodes) rels s (joint_of n) (λ e. not_left (sym e)) (λ e. not_right (sym e))
              n.neighbours is.linked);
        })
        kept.kept

    own_p : IsOwn p
    own_p = subst IsOwn (sym p_is) (each_at IsOwn nodes l p index_l.below own)

    r_in_first : r < length first
    r_in_first = let same = length_put nodes l (record p { neighbours = of_left }) in
        let below = index_r.below in omega (arith, below, same)

    own_q : IsOwn q
    own_q = subst IsOwn (sym q_is) (each_at IsOwn first r q r_in_first
        (each_put IsOwn nodes l (record p { neighbours = of_left }) own own_p))

    -- and what is kept fits it
    pub related_kept : (room : List Level) (of_l of_r : List SignedRelation) (slice_a slice_b : List PartNode)
        → slice_a ≡ nodes → slice_b ≡ nodes → of_l ≡ new → of_r ≡ new
        → AreLinkedAt (joints_of slice_a) of_l l of_left → AreLinkedAt (joints_of slice_b) of_r r of_right
        → length room ≡ length nodes → IsForest (relations_of now.relations ++ s.relation ∷ [])
        → IsKept both new room asked
    related_kept room of_l of_r slice_a slice_b same_a same_b of_l_is of_r_is made_l made_r as_long forest =
        let linked_l : AreLinkedAt (joints_of nodes) new l of_left =
        subst (λ ns. AreLinkedAt (joints_of ns) new l of_left) same_a
        (subst (λ rs. AreLinkedAt (joints_of slice_a) rs l of_left) of_l_is made_l) in
        let linked_r : AreLinkedAt (joints_of nodes) new r of_right =
        subst (λ ns. AreLinkedAt (joints_of ns) new r of_right) same_b
        (subst (λ rs. AreLinkedAt (joints_of slice_b) rs r of_right) of_r_is made_r) in
        let left_kept : Q (record p { neighbours = of_left }) = record {
          kind = own_p.0;
          nullable = own_p.1;
          linked = linked_l (joint_of p)
              (joint_at nodes l p index_l.below ∙ ap (λ x. Some (joint_of x)) (sym p_is));
        } in
        let right_kept : Q (record q { neighbours = of_right }) = record {
          kind = own_q.0;
          nullable = own_q.1;
          linked = linked_r (joint_of q)
              (subst (λ js. slice_get js r ≡ Some (joint_of (get_or first r q))) joints_first
              (joint_at first r q r_in_first) ∙ ap (λ x. Some (joint_of x)) (sym q_is));
        } in
        let ascending_first : IsStrictlyIncreasing (numbers_of (fields_of first)) =
        subst (λ fs. IsStrictlyIncreasing (numbers_of fs)) (sym fields_first) kept.region.ascending in
        let index_first : IsIndexOf first s.relation.right r = record {
          below = r_in_first;
          is = ap (λ fs. slice_index (numbers_of fs) r) fields_first ∙ index_r.is;
        } in
        let one : AllByRecursion (λ n. n.place ≢ s.relation.right → Q n) first =
        one_put (λ n. n.place ≢ s.relation.right → Q n) s.relation.left nodes l (record p { neighbours = of_left }) p
        (placed_once nodes kept.region.ascending s.relation.left l index_l p) apart (λ other. left_kept) in
        let all : AllByRecursion Q both =
        one_put Q s.relation.right first r (record q { neighbours = of_right }) q
        (placed_once first ascending_first s.relation.right r index_first q) one right_kept in
        let forest_own : IsForest (relations_of rels ++ s.relation ∷ []) =
        subst (λ region. IsForest (relations_of region.relations ++ s.relation ∷ [])) (sym view_is) forest in
        let region : IsRegion (content_of nodes (rels ++ s ∷ []) asked) = record {
          ascending = kept.region.ascending;
          ends = all_join;
          forest = subst IsForest (sym (map-append (λ x. x.relation) rels (s ∷ []))) forest_own;
        } in
        record {
          region = subst (λ rs. IsRegion (content_of both rs asked)) (sym new_is)
              (subst (λ fs. IsRegion (record { fields = fs; relations = rels ++ s ∷ []; asked = asked })) (sym fields_both)
              region);
          kept = subst (λ js. AllByRecursion (IsKeptNode js new) both) (sym joints_both) all;
          room = λ some. let a = length_put nodes l (record p { neighbours = of_left }) in
              let b = length_put first r (record q { neighbours = of_right }) in omega (arith, a, b, as_long);
        }
