-- What one more relation joins, and the ways along relations.
use Rattle.std.proofs.Common.{◌≡◌, ℕ, zero, suc, ◌≤◌, ◌⊎◌, inl, inr, ⊎_elim, List, [], ◌∷◌, ◌++◌, take, arith}
use Rattle.helix_profile.specs.declared.relation.Relation.{Relation}
use Rattle.helix_profile.specs.Forest.{AreJoined, IsPathTo, IsCycle, IsForest}
use Rattle.helix_forest.specs.Closing.{AreLinked}

-- the fields are the ends of a relation, one way or the other
abbrev pub AreEnds : Relation → ℕ → ℕ → Type 0
AreEnds r f g = ((r.left ≡ f) × (r.right ≡ g)) ⊎ ((r.left ≡ g) × (r.right ≡ f))

pub joined_before : (rs : List Relation) (r : Relation) (f g : ℕ) → AreJoined rs f g → AreJoined (rs ++ r ∷ []) f g
joined_before [] r f g none = absurd none
joined_before (s ∷ rs) r f g (inl here) = inl here
joined_before (s ∷ rs) r f g (inr (inl here)) = inr (inl here)
joined_before (s ∷ rs) r f g (inr (inr later)) = inr (inr (joined_before rs r f g later))

pub joined_last : (rs : List Relation) (r : Relation) (f g : ℕ) → AreEnds r f g → AreJoined (rs ++ r ∷ []) f g
joined_last [] r f g (inl here) = inl here
joined_last [] r f g (inr here) = inr (inl here)
joined_last (s ∷ rs) r f g ends = inr (inr (joined_last rs r f g ends))

pub joined_or_last : (rs : List Relation) (r : Relation) (f g : ℕ) → AreJoined (rs ++ r ∷ []) f g
    → AreJoined rs f g ⊎ AreEnds r f g
joined_or_last [] r f g (inl here) = inr (inl here)
joined_or_last [] r f g (inr (inl here)) = inr (inr here)
joined_or_last [] r f g (inr (inr none)) = absurd none
joined_or_last (s ∷ rs) r f g (inl here) = inl (inl here)
joined_or_last (s ∷ rs) r f g (inr (inl here)) = inl (inr (inl here))
joined_or_last (s ∷ rs) r f g (inr (inr later)) =
    ⊎_elim (λ before. inl (inr (inr before))) (λ last. inr last) (joined_or_last rs r f g later)

pub joined_back : (rs : List Relation) (f g : ℕ) → AreJoined rs f g → AreJoined rs g f
joined_back [] f g none = none
joined_back (r ∷ rs) f g (inl here) = inr (inl here)
joined_back (r ∷ rs) f g (inr (inl here)) = inl here
joined_back (r ∷ rs) f g (inr (inr later)) = inr (inr (joined_back rs f g later))

-- the first relations join no others
joined_none : (m : ℕ) (f g : ℕ) → AreJoined (take m []) f g → ⊥
joined_none zero f g none = none
joined_none (suc m) f g none = none

pub joined_take : (rs : List Relation) (m n : ℕ) → m ≤ n → (f g : ℕ) → AreJoined (take m rs) f g
    → AreJoined (take n rs) f g
joined_take [] m zero below f g joined = absurd (joined_none m f g joined)
joined_take [] m (suc n) below f g joined = absurd (joined_none m f g joined)
joined_take (r ∷ rs) zero n below f g joined = absurd joined
joined_take (r ∷ rs) (suc m) zero below f g joined = absurd (omega (arith, below))
joined_take (r ∷ rs) (suc m) (suc n) below f g (inl here) = inl here
joined_take (r ∷ rs) (suc m) (suc n) below f g (inr (inl here)) = inr (inl here)
joined_take (r ∷ rs) (suc m) (suc n) below f g (inr (inr later)) =
    inr (inr (joined_take rs m n (omega arith) f g later))

module _ (a b : List Relation) (more : (f g : ℕ) → AreJoined a f g → AreJoined b f g) where
  pub same_path : (between : List ℕ) (last field : ℕ) → IsPathTo a last field between → IsPathTo b last field between
  same_path [] last field path = more field last path
  same_path (next ∷ between) last field path = (more field next path.0, same_path between last next path.1)

  same_cycle : (fields : List ℕ) → IsCycle a fields → IsCycle b fields
  same_cycle [] cycle = cycle
  same_cycle (x ∷ []) cycle = cycle
  same_cycle (x ∷ y ∷ []) cycle = cycle
  same_cycle (x ∷ y ∷ z ∷ fields) cycle = (cycle.0, same_path (y ∷ z ∷ fields) x x cycle.1)

  pub no_new_cycle : IsForest b → IsForest a
  no_new_cycle forest fields cycle = forest fields (same_cycle fields cycle)

  pub still_linked : (f g : ℕ) → AreLinked a f g → AreLinked b f g
  still_linked f g link = (link.0, same_path link.0 g f link.1)

module _ (rs : List Relation) where
  path_on : (between more : List ℕ) (from at to : ℕ) → IsPathTo rs at from between → IsPathTo rs to at more
      → IsPathTo rs to from (between ++ at ∷ more)
  path_on [] more from at to one two = (one, two)
  path_on (next ∷ between) more from at to one two = (one.0, path_on between more next at to one.1 two)

  pub linked_on : (from at to : ℕ) → AreLinked rs from at → AreLinked rs at to → AreLinked rs from to
  linked_on from at to one two = (one.0 ++ at ∷ two.0, path_on one.0 two.0 from at to one.1 two.1)
