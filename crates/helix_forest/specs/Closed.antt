-- A relation between two fields that others link, and that no other joins, closes a cycle.
use Rattle.std.proofs.Common.{◌≡◌, ◌≢◌, ℕ, ◌+◌, ◌<◌, ◌≤◌, ◌⊎◌, inl, inr, ⊎_elim, List, [], ◌∷◌, ◌++◌, take, length, refl, sym, ap, ◌∙◌, subst}
use Rattle.std.proofs.lemmas.Bool.{cases_eq}
use Rattle.std.proofs.lemmas.List.{take_more}
use Rattle.std.proofs.lemmas.Option.{slice_get_within, get_or_from_slice_get}
use Rattle.std.specs.List.{AllByRecursion}
use Rattle.helix_profile.specs.declared.relation.Relation.{Relation}
use Rattle.helix_profile.specs.Forest.{AreJoined, IsPathTo, AreDifferent, IsForest}
use Rattle.helix_forest.specs.Closing.{AreLinked, ClosesCycle}
use Rattle.helix_forest.specs.Joins.{joined_before, joined_last, joined_take, same_path, no_new_cycle}

-- a way along different fields
record IsWay (rs : List Relation) (from to : ℕ) (between : List ℕ) : Type 0 where
  path : IsPathTo rs to from between
  different : AreDifferent (from ∷ between)
  end : AllByRecursion (λ field. to ≢ field) (from ∷ between)

abbrev Way : List Relation → ℕ → ℕ → Type 0
Way rs from to = (between : List ℕ) × IsWay rs from to between

-- a field of a list
abbrev pub IsAmong : ℕ → List ℕ → Type 0
IsAmong f [] = ⊥
IsAmong f (g ∷ fields) = (f ≡ g) ⊎ IsAmong f fields

-- whether a field is one of a list
pub look : (f : ℕ) (fields : List ℕ) → IsAmong f fields ⊎ AllByRecursion (λ other. f ≢ other) fields
look f [] = inr tt
look f (g ∷ fields) = ⊎_elim (λ same. inl (inl same))
    (λ other. ⊎_elim (λ later. inl (inr later)) (λ none. inr (other, none)) (look f fields)) (cases_eq f g)

module _ (rs : List Relation) where
  rest_of : (from next to : ℕ) (between : List ℕ) → IsWay rs from to (next ∷ between) → IsWay rs next to between
  rest_of from next to between way = record { path = way.path.1; different = way.different.1; end = way.end.1 }

  -- from a field of a way on
  cut : (field : ℕ) (between : List ℕ) (from to : ℕ) → IsWay rs from to between → IsAmong field between
      → Way rs field to
  cut field [] from to way none = absurd none
  cut field (next ∷ between) from to way (inl same) =
      subst (λ f. Way rs f to) (sym same) (between, rest_of from next to between way)
  cut field (next ∷ between) from to way (inr later) =
      cut field between next to (rest_of from next to between way) later

  one_step : (from to : ℕ) → from ≢ to → AreJoined rs from to → Way rs from to
  one_step from to differ joined = (
    [],
    record { path = joined; different = (tt, tt); end = ((λ e. differ (sym e)), tt) },
  )

  step_on : (from next to : ℕ) → from ≢ to → AreJoined rs from next → Way rs next to → Way rs from to
  step_on from next to differ joined way = ⊎_elim
      (λ same. subst (λ f. Way rs f to) (sym same) way)
      (λ other. ⊎_elim
      (λ among. cut from way.0 next to way.1 among)
      (λ none. (
        next ∷ way.0,
        record {
          path = (joined, way.1.path);
          different = ((other, none), way.1.different);
          end = ((λ e. differ (sym e)), way.1.end);
        },
      ))
      (look from way.0))
      (cases_eq from next)

  to_way : (between : List ℕ) (from to : ℕ) → from ≢ to → IsPathTo rs to from between → Way rs from to
  to_way [] from to differ path = one_step from to differ path
  to_way (next ∷ between) from to differ path = ⊎_elim
      (λ same. one_step from to differ (subst (λ f. AreJoined rs from f) same path.0))
      (λ other. step_on from next to differ path.0 (to_way between next to other path.1))
      (cases_eq next to)

module _ (rs : List Relation) (r : Relation) where
  along_way : (between : List ℕ) → ¬ AreJoined rs r.left r.right → IsWay rs r.left r.right between
      → ¬ IsForest (rs ++ r ∷ [])
  along_way [] new way forest = new way.path
  along_way (third ∷ between) new way forest = forest (r.right ∷ r.left ∷ third ∷ between) (
    (way.end, way.different),
    (
      joined_last rs r r.right r.left (inr (refl, refl)),
      same_path rs (rs ++ r ∷ []) (λ f g joined. joined_before rs r f g joined) (third ∷ between) r.right r.left
          way.path,
    ),
  )

  pub closed : ¬ AreJoined rs r.left r.right → r.left ≢ r.right → AreLinked rs r.left r.right → ¬ IsForest (rs ++ r ∷ [])
  closed new differ link = let way : Way rs r.left r.right = to_way rs link.0 r.left r.right differ link.1 in
      along_way way.0 new way.1

-- what closes a cycle leaves no forest
module _ (rs : List Relation) where
  pub not_after : (index : ℕ) → (closes : ClosesCycle rs index) → closes.relation.left ≢ closes.relation.right
      → ¬ IsForest (take (index + 1) rs)
  not_after index closes differ = let r : Relation = closes.relation in
      let within : index < length rs = slice_get_within rs index r closes.is in
      let more : take (index + 1) rs ≡ take index rs ++ r ∷ [] =
      take_more rs index r within
      ∙ ap (λ last. take index rs ++ last ∷ []) (get_or_from_slice_get rs index r r closes.is) in
      λ forest. closed (take index rs) r closes.new_pair differ closes.linked (subst IsForest more forest)

  pub not_before : (m n : ℕ) → m ≤ n → ¬ IsForest (take m rs) → ¬ IsForest (take n rs)
  not_before m n below cycle forest =
      cycle (no_new_cycle (take m rs) (take n rs) (joined_take rs m n below) forest)
