-- How what is kept of a region changes. Lemmas.
use Rattle.std.proofs.Common.{◌≡◌, ◌≢◌, ◌↔◌, ℕ, zero, suc, ◌<◌, ◌⊎◌, Bool, true, false, ◌&&◌, ◌||◌, eqb, Some, List, [], ◌∷◌, ◌++◌, inl, inr, ⊎_elim, length, slice_get, get_or, set, refl, sym, ap, ap₂, ◌∙◌, subst, arith}
use Rattle.std.proofs.lemmas.Bool.{ne_eqb}
use Rattle.std.specs.List.{AllByRecursion}
use Rattle.std.specs.List.Sorted.{IsStrictlyIncreasing}
use Rattle.helix_values.specs.declared.cell.Cell.{Cell}
use Rattle.helix_values.specs.Class.{class_of_kind}
use Rattle.helix_profile.specs.Forest.{AreJoined}
use Rattle.helix_profile.specs.Validity.{IsRelationFor}
use Rattle.helix_search.specs.declared.node.Neighbour.{Neighbour}
use Rattle.helix_links.specs.declared.pair_link.PairLink.{PairLink}
use Rattle.helix_links.specs.Relations.{IsRelationOf}
use Rattle.helix_relations.specs.declared.signed.SignedRelation.{SignedRelation}
use Rattle.helix_relations.specs.Region.{RegionField, numbers_of, relations_of, FieldNumbered, IsLeftEnd, IsRightEnd, JoinsFields}
use Rattle.helix_relations.specs.RegionGraph.{StandTogether, are_joined}
use Rattle.helix_relations.specs.GraphLaws.{joined_from}
use Rattle.helix_relations.specs.Inner.Parts.{PartNode, field_of, fields_of, IsIndexOf}
use Rattle.helix_relations.specs.Inner.PartLaws.{numbers_once, number_at}
use Rattle.helix_relations.specs.Inner.Kept.{Joint, joint_of, joints_of, IsOfClass, IsLinkTo, AreLinked}

-- one node in the place of another one
pub each_put : (P : PartNode → Type 0) (nodes : List PartNode) (k : ℕ) (p : PartNode) → AllByRecursion P nodes → P p
    → AllByRecursion P (set nodes k p)
each_put P [] k p all is = tt
each_put P (x ∷ nodes) zero p all is = (is, all.1)
each_put P (x ∷ nodes) (suc k) p all is = (all.0, each_put P nodes k p all.1 is)

pub each_at : (P : PartNode → Type 0) (nodes : List PartNode) (k : ℕ) (d : PartNode) → k < length nodes
    → AllByRecursion P nodes → P (get_or nodes k d)
each_at P [] k d below all = absurd (omega (arith, below))
each_at P (x ∷ nodes) zero d below all = all.0
each_at P (x ∷ nodes) (suc k) d below all = each_at P nodes k d (omega (arith, below)) all.1

pub each_more : (P Q : PartNode → Type 0) (nodes : List PartNode) → ((n : PartNode) → P n → Q n) → AllByRecursion P nodes
    → AllByRecursion Q nodes
each_more P Q [] on all = tt
each_more P Q (x ∷ nodes) on all = (on x all.0, each_more P Q nodes on all.1)

pub joints_put : (nodes : List PartNode) (k : ℕ) (p d : PartNode) → joint_of p ≡ joint_of (get_or nodes k d)
    → joints_of (set nodes k p) ≡ joints_of nodes
joints_put [] k p d e = refl
joints_put (x ∷ nodes) zero p d e = ap (λ j. j ∷ joints_of nodes) e
joints_put (x ∷ nodes) (suc k) p d e = ap (λ js. joint_of x ∷ js) (joints_put nodes k p d e)

pub fields_put : (nodes : List PartNode) (k : ℕ) (p d : PartNode) → field_of p ≡ field_of (get_or nodes k d)
    → fields_of (set nodes k p) ≡ fields_of nodes
fields_put [] k p d e = refl
fields_put (x ∷ nodes) zero p d e = ap (λ f. f ∷ fields_of nodes) e
fields_put (x ∷ nodes) (suc k) p d e = ap (λ fs. field_of x ∷ fs) (fields_put nodes k p d e)

pub length_put : (nodes : List PartNode) (k : ℕ) (p : PartNode) → length (set nodes k p) ≡ length nodes
length_put [] k p = refl
length_put (x ∷ nodes) zero p = refl
length_put (x ∷ nodes) (suc k) p = ap suc (length_put nodes k p)

pub joint_at : (nodes : List PartNode) (k : ℕ) (d : PartNode) → k < length nodes
    → slice_get (joints_of nodes) k ≡ Some (joint_of (get_or nodes k d))
joint_at [] k d below = absurd (omega (arith, below))
joint_at (x ∷ nodes) zero d below = refl
joint_at (x ∷ nodes) (suc k) d below = joint_at nodes k d (omega (arith, below))

others_in : (H : PartNode → Type 0) (number : ℕ) (nodes : List PartNode) (d : PartNode)
    → ((j : ℕ) → j < length nodes → (get_or nodes j d).place ≢ number)
    → AllByRecursion (λ n. n.place ≢ number → H n) nodes → AllByRecursion H nodes
others_in H number [] d none all = tt
others_in H number (x ∷ nodes) d none all =
    (all.0 (none 0 (omega arith)), others_in H number nodes d (λ j below. none (suc j) (next (length nodes) j below)) all.1)
  where
    next : (n j : ℕ) → j < n → suc j < suc n
    next n j below = omega (arith, below)

-- a fact of all nodes but one holds of all where that one is put anew
pub one_put : (H : PartNode → Type 0) (number : ℕ) (nodes : List PartNode) (k : ℕ) (p d : PartNode)
    → ((j : ℕ) → j < length nodes → (get_or nodes j d).place ≡ number → j ≡ k)
    → AllByRecursion (λ n. n.place ≢ number → H n) nodes → H p → AllByRecursion H (set nodes k p)
one_put H number [] k p d once all is = tt
one_put H number (x ∷ nodes) zero p d once all is =
    (is, others_in H number nodes d (λ j below e. absurd (over j (once (suc j) (next (length nodes) j below) e))) all.1)
  where
    next : (n j : ℕ) → j < n → suc j < suc n
    next n j below = omega (arith, below)

    over : (j : ℕ) → suc j ≡ 0 → ⊥
    over j e = omega (arith, e)
one_put H number (x ∷ nodes) (suc k) p d once all is = (
  all.0 (λ e. absurd (over k (once 0 (omega arith) e))),
  one_put H number nodes k p d (λ j below e. less j k (once (suc j) (next (length nodes) j below) e)) all.1 is,
)
  where
    next : (n j : ℕ) → j < n → suc j < suc n
    next n j below = omega (arith, below)

    over : (k : ℕ) → 0 ≡ suc k → ⊥
    over k e = omega (arith, e)

    less : (j k : ℕ) → suc j ≡ suc k → j ≡ k
    less j k e = omega (arith, e)

as_many_numbers : (nodes : List PartNode) → length (numbers_of (fields_of nodes)) ≡ length nodes
as_many_numbers [] = refl
as_many_numbers (x ∷ nodes) = ap suc (as_many_numbers nodes)

-- a number is that of one node
pub placed_once : (nodes : List PartNode) → IsStrictlyIncreasing (numbers_of (fields_of nodes)) → (number k : ℕ)
    → IsIndexOf nodes number k → (d : PartNode) (j : ℕ) → j < length nodes → (get_or nodes j d).place ≡ number → j ≡ k
placed_once nodes ascending number k index d j below e = numbers_once nodes ascending number j k
    (let same = as_many_numbers nodes in omega (arith, same, below)) (number_at nodes j d below ∙ e) index

-- one more relation, which isn't between two fields
module _ (m n : ℕ) (s : SignedRelation) where
  and_never : (b : Bool) → (b && false) ≡ false
  and_never true = refl
  and_never false = refl

  joined_no_more : s.relation.left ≢ m → s.relation.right ≢ m → (rs : List SignedRelation)
      → are_joined (relations_of (rs ++ s ∷ [])) m n ≡ are_joined (relations_of rs) m n
  joined_no_more not_left not_right [] =
      ap₂ (λ a b. (a && eqb s.relation.right n) || ((eqb s.relation.left n && b) || false))
      (ne_eqb s.relation.left m not_left) (ne_eqb s.relation.right m not_right)
      ∙ ap (λ b. b || false) (and_never (eqb s.relation.left n))
  joined_no_more not_left not_right (r ∷ rs) =
      ap (λ b. (eqb r.relation.left m && eqb r.relation.right n)
      || ((eqb r.relation.left n && eqb r.relation.right m) || b)) (joined_no_more not_left not_right rs)

  stand_no_more : (s.relation.left ≡ m → s.relation.right ≡ n → ⊥) → (s.relation.left ≡ n → s.relation.right ≡ m → ⊥)
      → (rs : List SignedRelation) (v w : Cell) → StandTogether (rs ++ s ∷ []) m n v w ↔ StandTogether rs m n v w
  stand_no_more one other [] v w =
      ((λ all. tt), (λ all. (((λ a b. absurd (one a b)), (λ a b. absurd (other a b))), tt)))
  stand_no_more one other (r ∷ rs) v w = let rest = stand_no_more one other rs v w in
      ((λ all. (all.0, rest.0 all.1)), (λ all. (all.0, rest.1 all.1)))

-- the links of a field that the relation doesn't join stay
still_links : (joints : List Joint) (rs : List SignedRelation) (s : SignedRelation) (here : Joint)
    → s.relation.left ≢ here.number → s.relation.right ≢ here.number → (n : Neighbour PairLink)
    → IsLinkTo joints rs here n → IsLinkTo joints (rs ++ s ∷ []) here n
still_links joints rs s here not_left not_right n is = record {
  other = is.other;
  is_node = is.is_node;
  joined = joined_no_more here.number is.other.number s not_left not_right rs ∙ is.joined;
  down = record {
    of_class = is.down.of_class;
    met = λ v w of_v of_w. let old = is.down.met v w of_v of_w in
        let same = stand_no_more here.number is.other.number s (λ a b. not_left a) (λ a b. not_right b) rs v w in
        ((λ stands. same.1 (old.0 stands)), (λ stand. old.1 (same.0 stand)));
  };
  up = record {
    of_class = is.up.of_class;
    met = λ v w of_v of_w. let old = is.up.met v w of_v of_w in
        let same = stand_no_more is.other.number here.number s (λ a b. not_right b) (λ a b. not_left a) rs v w in
        ((λ stands. same.1 (old.0 stands)), (λ stand. old.1 (same.0 stand)));
  };
}

pub still_linked : (joints : List Joint) (rs : List SignedRelation) (s : SignedRelation) (here : Joint)
    → s.relation.left ≢ here.number → s.relation.right ≢ here.number → (ns : List (Neighbour PairLink))
    → AreLinked joints rs here ns → AreLinked joints (rs ++ s ∷ []) here ns
still_linked joints rs s here not_left not_right ns is = record {
  each = λ k d below. still_links joints rs s here not_left not_right (get_or ns k d) (is.each k d below);
  once = is.once;
  complete = λ c other at joined. is.complete c other at
      (sym (joined_no_more here.number other.number s not_left not_right rs) ∙ joined);
}

-- the node of a numbered field
numbered_at : (nodes : List PartNode) (d : PartNode) (n : ℕ) (Fact : RegionField → Type 0)
    → FieldNumbered (fields_of nodes) n Fact
    → (j : ℕ) × (j < length nodes) × ((get_or nodes j d).place ≡ n) × Fact (field_of (get_or nodes j d))
numbered_at [] d n Fact none = absurd none
numbered_at (x ∷ nodes) d n Fact (inl here) = (0, omega arith, here.0, here.1)
numbered_at (x ∷ nodes) d n Fact (inr later) = let found = numbered_at nodes d n Fact later in
    (suc found.0, omega (arith, found.1), found.2, found.3)

module _ (nodes : List PartNode) (ascending : IsStrictlyIncreasing (numbers_of (fields_of nodes))) where
  index_at : (d : PartNode) (u : ℕ) → u < length nodes → IsIndexOf nodes (get_or nodes u d).place u
  index_at d u below = record { below = below; is = number_at nodes u d below }

  -- what is known of the field of a number is known of the node that has it
  pub known_of : (d : PartNode) (u n : ℕ) (Fact : RegionField → Type 0) → u < length nodes → (get_or nodes u d).place ≡ n
      → FieldNumbered (fields_of nodes) n Fact → Fact (field_of (get_or nodes u d))
  known_of d u n Fact below at numbered = let found = numbered_at nodes d n Fact numbered in
      let same : found.0 ≡ u = placed_once nodes ascending (get_or nodes u d).place u (index_at d u below) d found.0
      found.1 (found.2 ∙ sym at) in
      subst (λ j. Fact (field_of (get_or nodes j d))) same found.3

  relation_of_class : (d : PartNode) (u : ℕ) → u < length nodes → (other : ℕ) (s : SignedRelation)
      → (get_or nodes u d).values.kind ≡ (get_or nodes u d).values.domain.field.kind
      → JoinsFields (fields_of nodes) s.relation
      → IsOfClass (class_of_kind (get_or nodes u d).values.kind) (get_or nodes u d).place other s
  relation_of_class d u below other s kind joins joined =
      let left = numbered_at nodes d s.relation.left (IsLeftEnd (fields_of nodes) s.relation) joins in
      let left_field : RegionField = field_of (get_or nodes left.0 d) in
      let right = numbered_at nodes d s.relation.right (IsRightEnd s.relation left_field) left.3.1 in
      let relation : IsRelationFor left_field.field (field_of (get_or nodes right.0 d)).field s.relation = right.3.1 in
      let of_left : class_of_kind left_field.field.kind ≡ class_of_kind (get_or nodes u d).values.kind =
      ⊎_elim
      (λ e. ap (λ j. class_of_kind (get_or nodes j d).values.domain.field.kind)
      (placed_once nodes ascending (get_or nodes u d).place u (index_at d u below) d left.0 left.1 (left.2 ∙ e))
      ∙ sym (ap class_of_kind kind))
      (λ e. relation.one_class
      ∙ (ap (λ j. class_of_kind (get_or nodes j d).values.domain.field.kind)
      (placed_once nodes ascending (get_or nodes u d).place u (index_at d u below) d right.0 right.1 (right.2 ∙ e))
      ∙ sym (ap class_of_kind kind)))
      (end_of (joined_from (s.relation ∷ []) (get_or nodes u d).place other joined)) in (
        relation.different,
        subst (λ class. IsRelationOf class s.relation) of_left
            (record { comparison = relation.comparison; offset = (_, relation.range) }),
      )
    where
      end_of : AreJoined (s.relation ∷ []) (get_or nodes u d).place other
          → (s.relation.left ≡ (get_or nodes u d).place) ⊎ (s.relation.right ≡ (get_or nodes u d).place)
      end_of (inl are) = inl are.0
      end_of (inr (inl are)) = inr are.1
      end_of (inr (inr none)) = absurd none

  pub each_of_class : (d : PartNode) (u : ℕ) → u < length nodes → (other : ℕ)
      → (get_or nodes u d).values.kind ≡ (get_or nodes u d).values.domain.field.kind → (rs : List SignedRelation)
      → AllByRecursion (λ s. JoinsFields (fields_of nodes) s.relation) rs
      → AllByRecursion (IsOfClass (class_of_kind (get_or nodes u d).values.kind) (get_or nodes u d).place other) rs
  each_of_class d u below other kind [] all = tt
  each_of_class d u below other kind (s ∷ rs) all = (
    relation_of_class d u below other s kind all.0,
    each_of_class d u below other kind rs all.1,
  )
