-- What is kept of a region where one field of it changes. Lemmas.
use Rattle.std.proofs.Common.{◌≡◌, ℕ, ◌≤◌, List, length, get_or, set, sym, ap, ◌∙◌, subst}
use Rattle.std.specs.List.{AllByRecursion}
use Rattle.helix_search.specs.declared.level.Level.{Level}
use Rattle.helix_relations.specs.declared.signed.SignedRelation.{SignedRelation}
use Rattle.helix_relations.specs.Region.{RegionField}
use Rattle.helix_relations.specs.Inner.Parts.{PartNode, field_of, IsIndexOf}
use Rattle.helix_relations.specs.Inner.PartLaws.{Keeps}
use Rattle.helix_relations.specs.Inner.PutLaws.{put_region}
use Rattle.helix_relations.specs.Inner.Kept.{joint_of, joints_of, IsKeptNode, IsKept}
use Rattle.helix_relations.specs.Inner.KeptLaws.{each_put, each_at, joints_put, length_put}

-- the node q at index k, which is that of the number, is replaced by p
pub put_kept : (nodes slice : List PartNode) (relations : List SignedRelation) (levels : List Level)
    (asked number k : ℕ) (p q : PartNode) → IsKept nodes relations levels asked → slice ≡ nodes
    → IsIndexOf slice number k → q ≡ get_or nodes k q → (change : RegionField → RegionField) → Keeps change
    → field_of p ≡ change (field_of q) → joint_of p ≡ joint_of q
    → (IsKeptNode (joints_of nodes) relations q → IsKeptNode (joints_of nodes) relations p)
    → IsKept (set nodes k p) relations levels asked
put_kept nodes slice relations levels asked number k p q kept same index is change keeps e joint on =
    let own : IsIndexOf nodes number k = subst (λ s. IsIndexOf s number k) same index in
    let old : IsKeptNode (joints_of nodes) relations q = subst (IsKeptNode (joints_of nodes) relations) (sym is)
    (each_at (IsKeptNode (joints_of nodes) relations) nodes k q own.below kept.kept) in
    record {
      region = put_region nodes slice relations asked number k p q kept.region same index is change keeps e;
      kept = subst (λ joints. AllByRecursion (IsKeptNode joints relations) (set nodes k p))
          (sym (joints_put nodes k p q (joint ∙ ap joint_of is)))
          (each_put (IsKeptNode (joints_of nodes) relations) nodes k p kept.kept (on old));
      room = λ some. subst (λ n. n ≤ length levels) (sym (length_put nodes k p)) (kept.room some);
    }
