-- A way along different nodes of a forest never comes back, and so each cell of a good row extends. Lemmas.
use Rattle.std.proofs.Common.{◌≡◌, ◌≢◌, ℕ, zero, suc, ◌+◌, ◌<◌, ◌≤◌, true, false, eqb, inl, inr, ⊎_elim, List, [], ◌∷◌, length, Option, None, Some, All, refl, sym, ap, ◌∙◌, subst, arith}
use Rattle.std.proofs.lemmas.Bool.{ne_eqb, eqb-true, or_cases, true≢false}
use Rattle.std.proofs.lemmas.Map.Steps.{length-le_from_distinct_below}
use Rattle.std.specs.List.{AllByRecursion, IsDistinct, list_any}
use Rattle.helix_values.specs.declared.cell.Cell.{Cell}
use Rattle.helix_profile.specs.declared.relation.Relation.{Relation}
use Rattle.helix_profile.specs.Forest.{AreJoined, IsPathTo, AreDifferent, IsCycle, IsForest}
use Rattle.helix_forest.specs.Closing.{HasEndsBelow}
use Rattle.helix_forest.specs.Joins.{joined_back}
use Rattle.helix_forest.specs.Closed.{IsAmong, look}
use Rattle.helix_search.specs.Extending.{Graph, HasPartner, Extends}
use Rattle.helix_relations.specs.Rows.{IsForestOf, IsGoodRow, HasFixed}

-- the ends of a pair are different nodes of so many
pub record ArePlaced (nodes x y : ℕ) : Type 0 where
  pub left : x < nodes
  pub right : y < nodes
  pub different : x ≢ y

pub placed : (nodes : ℕ) (rs : List Relation) → All (HasEndsBelow nodes) rs → (x y : ℕ) → AreJoined rs x y
    → ArePlaced nodes x y
placed nodes [] all x y none = absurd none
placed nodes (r ∷ rs) all x y (inl are) = let ends : HasEndsBelow nodes r = all 0 r (omega arith) in record {
  left = subst (λ k. k < nodes) are.0 ends.left;
  right = subst (λ k. k < nodes) are.1 ends.right;
  different = λ e. ends.different (are.0 ∙ (e ∙ sym are.1));
}
placed nodes (r ∷ rs) all x y (inr (inl are)) = let ends : HasEndsBelow nodes r = all 0 r (omega arith) in record {
  left = subst (λ k. k < nodes) are.1 ends.right;
  right = subst (λ k. k < nodes) are.0 ends.left;
  different = λ e. ends.different (are.0 ∙ (sym e ∙ sym are.1));
}
placed nodes (r ∷ rs) all x y (inr (inr later)) =
    placed nodes rs (λ k d below. all (suc k) d (omega (arith, below))) x y later

-- different nodes are at most so many
distinct : (xs : List ℕ) → AreDifferent xs → IsDistinct eqb xs
unfolding IsDistinct
distinct [] different = tt
distinct (x ∷ xs) different = (none_same x xs different.0, distinct xs different.1)
  where
    none_same : (x : ℕ) (xs : List ℕ) → AllByRecursion (λ y. x ≢ y) xs → AllByRecursion (λ y. eqb x y ≡ false) xs
    none_same x [] all = tt
    none_same x (y ∷ ys) all = (ne_eqb x y all.0, none_same x ys all.1)

each_below : (n : ℕ) (xs : List ℕ) → AllByRecursion (λ x. x < n) xs → (q : ℕ) → list_any (eqb q) xs ≡ true → q < n
each_below n [] all q any = absurd (true≢false (sym any))
each_below n (x ∷ xs) all q any = ⊎_elim
    (λ here. subst (λ k. k < n) (sym (eqb-true q x here)) all.0)
    (λ later. each_below n xs all.1 q later)
    (or_cases (eqb q x) (list_any (eqb q) xs) any)

too_many : (n : ℕ) (xs : List ℕ) → AreDifferent xs → AllByRecursion (λ x. x < n) xs → n < length xs → ⊥
too_many n xs different below more =
    let most = length-le_from_distinct_below xs n (distinct xs different) (each_below n xs below) in
    omega (arith, most, more)

-- each node is joined with the one before it, from the last one back
abbrev AreChained : List Relation → ℕ → List ℕ → Type 0
AreChained rs u [] = Unit {0}
AreChained rs u (x ∷ xs) = AreJoined rs u x × AreChained rs x xs

-- the node before the last one
abbrev before : List ℕ → Option ℕ
before [] = None
before (x ∷ xs) = Some x

-- the nodes of a list up to one of them
abbrev up_to : (c : ℕ) (xs : List ℕ) → IsAmong c xs → List ℕ
up_to c [] none = []
up_to c (x ∷ xs) (inl here) = x ∷ []
up_to c (x ∷ xs) (inr later) = x ∷ up_to c xs later

all_up_to : (P : ℕ → Type 0) (c : ℕ) (xs : List ℕ) (among : IsAmong c xs) → AllByRecursion P xs
    → AllByRecursion P (up_to c xs among)
all_up_to P c [] none all = tt
all_up_to P c (x ∷ xs) (inl here) all = (all.0, tt)
all_up_to P c (x ∷ xs) (inr later) all = (all.0, all_up_to P c xs later all.1)

different_up_to : (c : ℕ) (xs : List ℕ) (among : IsAmong c xs) → AreDifferent xs → AreDifferent (up_to c xs among)
different_up_to c [] none different = tt
different_up_to c (x ∷ xs) (inl here) different = (tt, tt)
different_up_to c (x ∷ xs) (inr later) different =
    (all_up_to (λ y. x ≢ y) c xs later different.0, different_up_to c xs later different.1)

path_up_to : (rs : List Relation) (u c x : ℕ) (xs : List ℕ) (among : IsAmong c xs) → AreChained rs x xs
    → AreJoined rs c u → IsPathTo rs u x (up_to c xs among)
path_up_to rs u c x [] none chain back = absurd none
path_up_to rs u c x (y ∷ ys) (inl here) chain back = (chain.0, subst (λ k. AreJoined rs k u) here back)
path_up_to rs u c x (y ∷ ys) (inr later) chain back = (chain.0, path_up_to rs u c y ys later chain.1 back)

-- where the last node is joined with one of the others but that before it, there is a cycle
module _ (rs : List Relation) (u c x : ℕ) (different_two : u ≢ x) (joined : AreJoined rs u x)
    (back : AreJoined rs c u) where
  cycle_of : (more : List ℕ) (among : IsAmong c more) → AllByRecursion (λ y. u ≢ y) more
      → AllByRecursion (λ y. x ≢ y) more → AreDifferent more → AreChained rs x more
      → IsCycle rs (u ∷ x ∷ up_to c more among)
  cycle_of [] none one two different chain = absurd none
  cycle_of (y ∷ ys) (inl here) one two different chain = (
    (
      (different_two, all_up_to (λ z. u ≢ z) c (y ∷ ys) (inl here) one),
      (
        all_up_to (λ z. x ≢ z) c (y ∷ ys) (inl here) two,
        different_up_to c (y ∷ ys) (inl here) different,
      ),
    ),
    (joined, path_up_to rs u c x (y ∷ ys) (inl here) chain back),
  )
  cycle_of (y ∷ ys) (inr later) one two different chain = (
    (
      (different_two, all_up_to (λ z. u ≢ z) c (y ∷ ys) (inr later) one),
      (
        all_up_to (λ z. x ≢ z) c (y ∷ ys) (inr later) two,
        different_up_to c (y ∷ ys) (inr later) different,
      ),
    ),
    (joined, path_up_to rs u c x (y ∷ ys) (inr later) chain back),
  )

no_way_back : (rs : List Relation) → IsForest rs → (u c : ℕ) (trail : List ℕ) → AreChained rs u trail
    → AreDifferent (u ∷ trail) → AreJoined rs c u → before trail ≢ Some c → IsAmong c trail → ⊥
no_way_back rs forest u c [] chain different back other among = among
no_way_back rs forest u c (x ∷ more) chain different back other (inl here) = other (ap Some (sym here))
no_way_back rs forest u c (x ∷ more) chain different back other (inr later) =
    forest (u ∷ x ∷ up_to c more later) (cycle_of rs u c x different.0.0 chain.0 back more later different.0.1
    different.1.0 different.1.1 chain.1)

-- the cells of a good row extend along each way
module _ (graph : Graph) (rs : List Relation) (nodes : ℕ) (is : IsForestOf graph rs nodes)
    (fixed : ℕ → Option Cell) (row : ℕ → Cell) (good : IsGoodRow graph nodes row) (has_fixed : HasFixed fixed row) where
  partner : (o : Option Cell) (c : ℕ) (Joined Extended : Cell → Type 0) → fixed c ≡ o → Joined (row c)
      → (o ≡ None → Extended (row c)) → HasPartner Joined Extended o
  partner (Some w) c Joined Extended is_fixed joined extended = subst Joined (has_fixed c w is_fixed) joined
  partner None c Joined Extended is_fixed joined extended = (row c, extended refl, joined)

  along : (depth : ℕ) (trail : List ℕ) (u : ℕ) → nodes ≤ depth + length trail → AreChained rs u trail
      → AreDifferent (u ∷ trail) → AllByRecursion (λ x. x < nodes) (u ∷ trail)
      → Extends graph fixed depth (before trail) u (row u)
  along zero trail u count chain different below =
      absurd (too_many nodes (u ∷ trail) different below (omega (arith, count)))
  along (suc depth) trail u count chain different below = (
    good.has u below.0,
    λ c contains other.
        let joined : AreJoined rs u c = (is.neighbours u c below.0).0 contains in
        let ends : ArePlaced nodes u c = placed nodes rs is.ends u c joined in
        partner (fixed c) c (λ w. graph.Joined u c (row u) w) (λ w. Extends graph fixed depth (Some u) c w) refl
        (good.joined u c below.0 contains)
        (λ free. ⊎_elim
        (λ among. absurd (no_way_back rs is.forest u c trail chain different (joined_back rs u c joined) other among))
        (λ none. along depth (u ∷ trail) c (omega (arith, count)) (joined_back rs u c joined, chain)
        (((λ e. ends.different (sym e)), none), different) (ends.right, below))
        (look c trail)),
  )

  pub row_extends : (depth : ℕ) → nodes ≤ depth → (u : ℕ) → u < nodes → Extends graph fixed depth None u (row u)
  row_extends depth enough u below = along depth [] u (omega arith) tt (tt, tt) (below, tt)
