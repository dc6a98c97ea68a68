-- Relations between numbered fields as relations between the places of the numbers in a list. Lemmas.
use Rattle.std.proofs.Common.{◌≡◌, ◌≢◌, ℕ, zero, suc, ◌<◌, if◌then◌else◌, inl, inr, ⊎_elim, List, [], ◌∷◌, map, length, slice_index, All, refl, sym, ap, ◌∙◌, subst, arith}
use Rattle.std.proofs.lemmas.Bool.{cases_eq, eq-eqb, ne_eqb}
use Rattle.std.specs.List.{AllByRecursion}
use Rattle.helix_profile.specs.declared.relation.Relation.{Relation}
use Rattle.helix_profile.specs.Forest.{AreJoined, IsPathTo, AreDifferent, IsForest}
use Rattle.helix_forest.specs.Closing.{HasEndsBelow}
use Rattle.helix_forest.specs.Closed.{IsAmong}
use Rattle.helix_relations.specs.RegionGraph.{place_in, placed_relation}

-- where a number of a list is
pub record IsPlace (numbers : List ℕ) (number place : ℕ) : Type 0 where
  pub below : place < length numbers
  pub is : slice_index numbers place ≡ number

later_among : (n x : ℕ) (ns : List ℕ) → n ≢ x → IsAmong x (n ∷ ns) → IsAmong x ns
later_among n x ns other (inl same) = absurd (other (sym same))
later_among n x ns other (inr later) = later

pub place_is : (numbers : List ℕ) (x : ℕ) → IsAmong x numbers → IsPlace numbers x (place_in numbers x)
place_is [] x none = absurd none
place_is (n ∷ ns) x among = ⊎_elim
    (λ same. subst (IsPlace (n ∷ ns) x)
    (sym (ap (λ b. if b then 0 else suc (place_in ns x)) (eq-eqb n x same)))
    (record { below = omega arith; is = same }))
    (λ other. let rest : IsPlace ns x (place_in ns x) = place_is ns x (later_among n x ns other among) in
    subst (IsPlace (n ∷ ns) x) (sym (ap (λ b. if b then 0 else suc (place_in ns x)) (ne_eqb n x other)))
    (record { below = next_below ns (place_in ns x) rest.below; is = rest.is }))
    (cases_eq n x)
  where
    next_below : (ns : List ℕ) (k : ℕ) → k < length ns → suc k < length (n ∷ ns)
    next_below ns k below = omega (arith, below)

-- every number of a list stands at one place
abbrev pub AreOnce : List ℕ → Type 0
AreOnce numbers = (i j : ℕ) → i < length numbers → j < length numbers → slice_index numbers i ≡ slice_index numbers j
    → i ≡ j

pub all_of : {A : Type 0} (P : A → Type 0) (xs : List A) → AllByRecursion P xs → All P xs
all_of P [] all k d below = absurd (omega (arith, below))
all_of P (x ∷ xs) all zero d below = all.0
all_of P (x ∷ xs) all (suc k) d below = all_of P xs all.1 k d (omega (arith, below))

module _ (numbers : List ℕ) (once : AreOnce numbers) where
  abbrev at : ℕ → ℕ
  at place = slice_index numbers place

  -- both ends are numbers of the list, and different
  pub record AreEndsAmong (r : Relation) : Type 0 where
    pub left : IsAmong r.left numbers
    pub right : IsAmong r.right numbers
    pub different : r.left ≢ r.right

  end_at : (x i : ℕ) → IsAmong x numbers → place_in numbers x ≡ i → x ≡ at i
  end_at x i among is = sym (place_is numbers x among).is ∙ ap at is

  place_of_end : (x i : ℕ) → IsAmong x numbers → i < length numbers → x ≡ at i → place_in numbers x ≡ i
  place_of_end x i among below is = let place : IsPlace numbers x (place_in numbers x) = place_is numbers x among in
      once (place_in numbers x) i place.below below (place.is ∙ is)

  pub place_of_number : (i : ℕ) → i < length numbers → IsAmong (at i) numbers → place_in numbers (at i) ≡ i
  place_of_number i below among = place_of_end (at i) i among below refl

  pub joined_numbers : (rs : List Relation) → AllByRecursion AreEndsAmong rs → (i j : ℕ)
      → AreJoined (map (placed_relation numbers) rs) i j → AreJoined rs (at i) (at j)
  joined_numbers [] ends i j none = none
  joined_numbers (r ∷ rs) ends i j (inl are) =
      inl (end_at r.left i ends.0.left are.0, end_at r.right j ends.0.right are.1)
  joined_numbers (r ∷ rs) ends i j (inr (inl are)) =
      inr (inl (end_at r.left j ends.0.left are.0, end_at r.right i ends.0.right are.1))
  joined_numbers (r ∷ rs) ends i j (inr (inr later)) = inr (inr (joined_numbers rs ends.1 i j later))

  pub joined_places : (rs : List Relation) → AllByRecursion AreEndsAmong rs → (i j : ℕ) → i < length numbers
      → j < length numbers → AreJoined rs (at i) (at j) → AreJoined (map (placed_relation numbers) rs) i j
  joined_places [] ends i j i_in j_in none = none
  joined_places (r ∷ rs) ends i j i_in j_in (inl are) = inl (
    place_of_end r.left i ends.0.left i_in are.0,
    place_of_end r.right j ends.0.right j_in are.1,
  )
  joined_places (r ∷ rs) ends i j i_in j_in (inr (inl are)) = inr (inl (
    place_of_end r.left j ends.0.left j_in are.0,
    place_of_end r.right i ends.0.right i_in are.1,
  ))
  joined_places (r ∷ rs) ends i j i_in j_in (inr (inr later)) =
      inr (inr (joined_places rs ends.1 i j i_in j_in later))

  place_below : (r : Relation) → AreEndsAmong r → HasEndsBelow (length numbers) (placed_relation numbers r)
  place_below r ends =
      let left : IsPlace numbers r.left (place_in numbers r.left) = place_is numbers r.left ends.left in
      let right : IsPlace numbers r.right (place_in numbers r.right) = place_is numbers r.right ends.right in
      record {
        left = left.below;
        right = right.below;
        different = λ e. ends.different (sym left.is ∙ (ap at e ∙ right.is));
      }

  pub places_below : (rs : List Relation) → AllByRecursion AreEndsAmong rs
      → AllByRecursion (HasEndsBelow (length numbers)) (map (placed_relation numbers) rs)
  places_below [] ends = tt
  places_below (r ∷ rs) ends = (place_below r ends.0, places_below rs ends.1)

  pub joined_below : (rs : List Relation) → AllByRecursion AreEndsAmong rs → (i j : ℕ)
      → AreJoined (map (placed_relation numbers) rs) i j → (i < length numbers) × (j < length numbers)
  joined_below [] ends i j none = absurd none
  joined_below (r ∷ rs) ends i j (inl are) = let is : HasEndsBelow (length numbers) (placed_relation numbers r) =
      place_below r ends.0 in
      (subst (λ k. k < length numbers) are.0 is.left, subst (λ k. k < length numbers) are.1 is.right)
  joined_below (r ∷ rs) ends i j (inr (inl are)) = let is : HasEndsBelow (length numbers) (placed_relation numbers r) =
      place_below r ends.0 in
      (subst (λ k. k < length numbers) are.1 is.right, subst (λ k. k < length numbers) are.0 is.left)
  joined_below (r ∷ rs) ends i j (inr (inr later)) = joined_below rs ends.1 i j later

  -- a cycle of places is a cycle of numbers
  module _ (rs : List Relation) (ends : AllByRecursion AreEndsAmong rs) where
    path_numbers : (between : List ℕ) (last i : ℕ) → IsPathTo (map (placed_relation numbers) rs) last i between
        → IsPathTo rs (at last) (at i) (map at between)
    path_numbers [] last i path = joined_numbers rs ends i last path
    path_numbers (next ∷ between) last i path =
        (joined_numbers rs ends i next path.0, path_numbers between last next path.1)

    path_below : (between : List ℕ) (last i : ℕ) → IsPathTo (map (placed_relation numbers) rs) last i between
        → AllByRecursion (λ k. k < length numbers) (i ∷ between)
    path_below [] last i path = ((joined_below rs ends i last path).0, tt)
    path_below (next ∷ between) last i path =
        ((joined_below rs ends i next path.0).0, path_below between last next path.1)

    other_numbers : (i : ℕ) (js : List ℕ) → i < length numbers → AllByRecursion (λ k. k < length numbers) js
        → AllByRecursion (λ j. i ≢ j) js → AllByRecursion (λ n. at i ≢ n) (map at js)
    other_numbers i [] below all others = tt
    other_numbers i (j ∷ js) below all others =
        ((λ e. others.0 (once i j below all.0 e)), other_numbers i js below all.1 others.1)

    different_numbers : (js : List ℕ) → AllByRecursion (λ k. k < length numbers) js → AreDifferent js
        → AreDifferent (map at js)
    different_numbers [] all different = tt
    different_numbers (j ∷ js) all different =
        (other_numbers j js all.0 all.1 different.0, different_numbers js all.1 different.1)

    pub places_forest : IsForest rs → IsForest (map (placed_relation numbers) rs)
    places_forest forest [] cycle = cycle
    places_forest forest (x ∷ []) cycle = cycle
    places_forest forest (x ∷ y ∷ []) cycle = cycle
    places_forest forest (x ∷ y ∷ z ∷ js) cycle = forest (map at (x ∷ y ∷ z ∷ js)) (
      different_numbers (x ∷ y ∷ z ∷ js) (path_below (y ∷ z ∷ js) x x cycle.1) cycle.0,
      path_numbers (y ∷ z ∷ js) x x cycle.1,
    )
