-- Relations of a list are a forest where all of them are among those of one.
use Rattle.std.proofs.Common.{◌≡◌, ℕ, zero, suc, ◌<◌, inl, inr, List, [], ◌∷◌, length, get_or, Contains, subst, sym, arith}
use Rattle.std.specs.List.{AllByRecursion}
use Rattle.helix_forest.specs.Joins.{AreEnds, no_new_cycle}
use Rattle.helix_profile.specs.Forest.{AreJoined, IsForest}
use Rattle.helix_profile.specs.declared.relation.Relation.{Relation}

ends_joined : (r : Relation) (rs : List Relation) (f g : ℕ) → AreEnds r f g → AreJoined (r ∷ rs) f g
ends_joined r rs f g (inl here) = inl here
ends_joined r rs f g (inr here) = inr (inl here)

joined_by : (rs : List Relation) (r : Relation) (k : ℕ) → k < length rs → get_or rs k r ≡ r → (f g : ℕ)
    → AreEnds r f g → AreJoined rs f g
joined_by [] r k below is f g ends = absurd (omega (arith, below))
joined_by (s ∷ rs) r zero below is f g ends = ends_joined s rs f g (subst (λ t. AreEnds t f g) (sym is) ends)
joined_by (s ∷ rs) r (suc k) below is f g ends = inr (inr (joined_by rs r k (omega (arith, below)) is f g ends))

still_joined : (all rs : List Relation) → AllByRecursion (Contains all) rs → (f g : ℕ) → AreJoined rs f g
    → AreJoined all f g
still_joined all [] among f g none = absurd none
still_joined all (r ∷ rs) among f g (inl here) =
    joined_by all r among.0.0 among.0.1 among.0.2 f g (inl here)
still_joined all (r ∷ rs) among f g (inr (inl here)) =
    joined_by all r among.0.0 among.0.1 among.0.2 f g (inr here)
still_joined all (r ∷ rs) among f g (inr (inr later)) = still_joined all rs among.1 f g later

pub forest_among : (all rs : List Relation) → IsForest all → AllByRecursion (Contains all) rs → IsForest rs
forest_among all rs forest among = no_new_cycle rs all (still_joined all rs among) forest
