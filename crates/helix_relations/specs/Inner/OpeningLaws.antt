-- What is kept of a region without relations. Lemmas.
use Rattle.std.proofs.Common.{◌≡◌, ◌<◌, ℕ, suc, List, [], ◌∷◌, length, All, sym, subst, arith}
use Rattle.std.proofs.lemmas.Bool.{true≢false}
use Rattle.std.specs.List.{AllByRecursion}
use Rattle.std.specs.List.Sorted.{IsStrictlyIncreasing}
use Rattle.helix_profile.specs.declared.field.Field.{Field}
use Rattle.helix_search.specs.declared.level.Level.{Level}
use Rattle.helix_relations.specs.declared.signed.SignedRelation.{SignedRelation}
use Rattle.helix_relations.specs.Change.{opened_fields}
use Rattle.helix_relations.specs.Inner.Parts.{PartNode, fields_of, IsAlone}
use Rattle.helix_relations.specs.Inner.PutLaws.{region_opened}
use Rattle.helix_relations.specs.Inner.Kept.{Joint, joint_of, joints_of, AreLinked, IsKeptNode, IsKept}

-- no neighbours, where there are no relations
linked_none : (joints : List Joint) (here : Joint) → AreLinked joints [] here []
linked_none joints here = record {
  each = λ k d below. absurd (omega (arith, below));
  once = λ j k d below within. absurd (omega (arith, within));
  complete = λ c other at joined. absurd (true≢false (sym joined));
}

each_alone : (joints : List Joint) (nodes : List PartNode) → All IsAlone nodes
    → AllByRecursion (IsKeptNode joints []) nodes
each_alone joints [] all = tt
each_alone joints (x ∷ nodes) all = let here : IsAlone x = all 0 x (omega arith) in (
  record {
    kind = here.kind;
    nullable = here.nullable;
    linked = subst (AreLinked joints [] (joint_of x)) (sym here.none) (linked_none joints (joint_of x));
  },
  each_alone joints nodes (λ k d below. all (suc k) d (next (length nodes) k below)),
)
  where
    next : (n k : ℕ) → k < n → suc k < suc n
    next n k below = omega (arith, below)

pub opened_kept : (fields own : List Field) (ns : List ℕ) (nodes : List PartNode) (relations : List SignedRelation)
    (levels : List Level) → fields ≡ own → All (λ n. n < length own) ns → IsStrictlyIncreasing ns
    → fields_of nodes ≡ opened_fields fields ns → All IsAlone nodes → relations ≡ [] → IsKept nodes relations levels 0
opened_kept fields own ns nodes relations levels same all ascending are alone none = record {
  region = region_opened fields own ns nodes relations same all ascending are none;
  kept = subst (λ rs. AllByRecursion (IsKeptNode (joints_of nodes) rs) nodes) (sym none)
      (each_alone (joints_of nodes) nodes alone);
  room = λ some. absurd (some none);
}
