-- A relation between two trees leaves a forest.
use Rattle.std.proofs.Common.{◌≡◌, ◌≢◌, ℕ, ◌≤◌, ◌⊎◌, inl, inr, ⊎_elim, List, [], ◌∷◌, ◌++◌, length, refl, sym, ap, ◌∙◌, arith}
use Rattle.std.specs.List.{AllByRecursion}
use Rattle.helix_profile.specs.declared.relation.Relation.{Relation}
use Rattle.helix_profile.specs.Forest.{AreJoined, IsPathTo, AreDifferent, IsForest}
use Rattle.helix_forest.specs.Joins.{AreEnds, joined_or_last}

-- a field that isn't an end of a relation
abbrev IsNoEnd : Relation → ℕ → Type 0
IsNoEnd r f = (r.left ≢ f) × (r.right ≢ f)

no_end : (r : Relation) (f g h : ℕ) → AreEnds r f g → f ≢ h → g ≢ h → IsNoEnd r h
no_end r f g h (inl ends) one two = ((λ e. one (sym ends.0 ∙ e)), (λ e. two (sym ends.1 ∙ e)))
no_end r f g h (inr ends) one two = ((λ e. two (sym ends.0 ∙ e)), (λ e. one (sym ends.1 ∙ e)))

no_ends : (r : Relation) (f g : ℕ) (fields : List ℕ) → AreEnds r f g → AllByRecursion (λ h. f ≢ h) fields
    → AllByRecursion (λ h. g ≢ h) fields → AllByRecursion (IsNoEnd r) fields
no_ends r f g [] ends one two = tt
no_ends r f g (h ∷ fields) ends one two =
    (no_end r f g h ends one.0 two.0, no_ends r f g fields ends one.1 two.1)

not_first : (r : Relation) (f g : ℕ) → IsNoEnd r f → AreEnds r f g → ⊥
not_first r f g none (inl ends) = none.0 ends.0
not_first r f g none (inr ends) = none.1 ends.1

not_second : (r : Relation) (f g : ℕ) → IsNoEnd r g → AreEnds r f g → ⊥
not_second r f g none (inl ends) = none.1 ends.1
not_second r f g none (inr ends) = none.0 ends.0

-- both ways over one relation lead back
back_again : (r : Relation) (f g h : ℕ) → AreEnds r f g → AreEnds r g h → r.left ≢ r.right → h ≡ f
back_again r f g h (inl one) (inl two) differ = absurd (differ (two.0 ∙ sym one.1))
back_again r f g h (inl one) (inr two) differ = sym two.0 ∙ one.0
back_again r f g h (inr one) (inl two) differ = sym two.1 ∙ one.1
back_again r f g h (inr one) (inr two) differ = absurd (differ (one.0 ∙ sym two.1))

module _ (rs : List Relation) (r : Relation) (label : ℕ → ℕ)
    (same : (f g : ℕ) → AreJoined rs f g → label f ≡ label g) (apart : label r.left ≢ label r.right) where
  ends_apart : (f g : ℕ) → AreEnds r f g → label f ≢ label g
  ends_apart f g (inl ends) e = apart (ap label ends.0 ∙ (e ∙ sym (ap label ends.1)))
  ends_apart f g (inr ends) e = apart (ap label ends.0 ∙ (sym e ∙ sym (ap label ends.1)))

  stays : (f g : ℕ) → AreJoined (rs ++ r ∷ []) f g → label f ≡ label g → AreJoined rs f g
  stays f g joined e =
      ⊎_elim (λ before. before) (λ ends. absurd (ends_apart f g ends e)) (joined_or_last rs r f g joined)

  crosses : (f g : ℕ) → AreJoined (rs ++ r ∷ []) f g → (label f ≡ label g) ⊎ AreEnds r f g
  crosses f g joined = ⊎_elim (λ before. inl (same f g before)) (λ ends. inr ends) (joined_or_last rs r f g joined)

  from_other : (f g : ℕ) → IsNoEnd r f → AreJoined (rs ++ r ∷ []) f g → label f ≡ label g
  from_other f g none joined = ⊎_elim (λ e. e) (λ ends. absurd (not_first r f g none ends)) (crosses f g joined)

  to_other : (f g : ℕ) → IsNoEnd r g → AreJoined (rs ++ r ∷ []) f g → label f ≡ label g
  to_other f g none joined = ⊎_elim (λ e. e) (λ ends. absurd (not_second r f g none ends)) (crosses f g joined)

  -- along fields that are no ends the label stays
  along : (fields : List ℕ) (last field : ℕ) → IsNoEnd r field → AllByRecursion (IsNoEnd r) fields
      → IsPathTo (rs ++ r ∷ []) last field fields → label field ≡ label last
  along [] last field none all path = from_other field last none path
  along (next ∷ fields) last field none all path =
      from_other field next none path.0 ∙ along fields last next all.0 all.1 path.1

  -- a path that went over the relation doesn't come back to the label where it began
  no_return : (more : List ℕ) (first field next : ℕ) → AreEnds r field next → label first ≡ label field
      → AllByRecursion (λ other. field ≢ other) (next ∷ more) → AllByRecursion (λ other. next ≢ other) more
      → (first ≡ field → 2 ≤ length (next ∷ more)) → IsPathTo (rs ++ r ∷ []) first next more → ⊥
  no_return [] first field next ends here other others long path = ⊎_elim
      (λ e. ends_apart field next ends (sym here ∙ sym e))
      (λ back. absurd (omega (
        arith,
        long (back_again r field next first ends back (λ e. apart (ap label e))),
      )))
      (crosses next first path)
  no_return (third ∷ more) first field next ends here other others long path =
      let none : AllByRecursion (IsNoEnd r) (third ∷ more) = no_ends r field next (third ∷ more) ends other.1 others in
      let e : label next ≡ label first =
      to_other next third none.0 path.0 ∙ along more first third none.0 none.1 path.1 in
      ends_apart field next ends (sym here ∙ sym e)

  -- so a path back to where it began never goes over the relation
  never_over : (fields : List ℕ) (first field : ℕ) → label first ≡ label field → AreDifferent (field ∷ fields)
      → AllByRecursion (λ other. first ≢ other) fields → (first ≡ field → 2 ≤ length fields)
      → IsPathTo (rs ++ r ∷ []) first field fields → IsPathTo rs first field fields
  never_over [] first field here different others long path = stays field first path (sym here)
  never_over (next ∷ more) first field here different others long path = ⊎_elim
      (λ e. (
        stays field next path.0 e,
        never_over more first next (here ∙ e) different.1 others.1 (λ begun. absurd (others.0 begun)) path.1,
      ))
      (λ ends. absurd
      (no_return more first field next ends here different.0 different.1.0 long path.1))
      (crosses field next path.0)

  pub still_forest : IsForest rs → IsForest (rs ++ r ∷ [])
  still_forest forest [] cycle = cycle
  still_forest forest (x ∷ []) cycle = cycle
  still_forest forest (x ∷ y ∷ []) cycle = cycle
  still_forest forest (x ∷ y ∷ z ∷ fields) cycle = forest (x ∷ y ∷ z ∷ fields) (
    cycle.0,
    never_over (y ∷ z ∷ fields) x x refl cycle.0 cycle.0.0 (λ e. omega arith) cycle.1,
  )
