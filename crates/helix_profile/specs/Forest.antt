-- The pairs of fields that relations join, as lines without direction, form no cycle.
use Rattle.std.specs.Prelude.{◌≡◌, ◌≢◌, ℕ, List, [], ◌∷◌, ◌⊎◌}
use Rattle.std.specs.List.{AllByRecursion}
use Rattle.helix_profile.specs.declared.relation.Relation.{Relation}

-- some relation joins the two fields, one way or the other
abbrev pub AreJoined : List Relation → ℕ → ℕ → Type 0
AreJoined [] f g = ⊥
AreJoined (relation ∷ relations) f g =
    ((relation.left ≡ f) × (relation.right ≡ g))
    ⊎ (((relation.left ≡ g) × (relation.right ≡ f)) ⊎ AreJoined relations f g)

-- each field is joined with the next, and the last with this one
abbrev pub IsPathTo : List Relation → ℕ → ℕ → List ℕ → Type 0
IsPathTo relations last field [] = AreJoined relations field last
IsPathTo relations last field (next ∷ fields) = AreJoined relations field next × IsPathTo relations last next fields

-- no field comes twice
abbrev pub AreDifferent : List ℕ → Type 0
AreDifferent [] = Unit {0}
AreDifferent (field ∷ fields) = AllByRecursion (λ other. field ≢ other) fields × AreDifferent fields

-- a cycle: three or more different fields, each joined with the next, and the last with the first
abbrev pub IsCycle : List Relation → List ℕ → Type 0
IsCycle relations (first ∷ second ∷ third ∷ fields) =
    AreDifferent (first ∷ second ∷ third ∷ fields) × IsPathTo relations first first (second ∷ third ∷ fields)
IsCycle relations fields = ⊥

-- no list of fields is a cycle
abbrev pub IsForest : List Relation → Type 0
IsForest relations = (fields : List ℕ) → ¬ IsCycle relations fields
