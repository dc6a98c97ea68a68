-- The names of rules, one after the other.
use Rattle.std.proofs.Common.{◌≡◌, ◌↔◌, ◌⊎◌, inl, inr, ⊎_elim, ℕ, ◌+◌, ◌<◌, ◌≤◌, Bool, true, false, IsTrue, List, [], ◌∷◌, length, take, Option, Some, None, Result, IfOk, get_or, codes, refl, sym, ◌∙◌, ap, subst, arith}
use Rattle.std.specs.Option.{IsSomeAnd}
use Rattle.std.proofs.lemmas.Bool.{cases_lt}
use Rattle.std.proofs.lemmas.Option.{slice_get_read, slice_get_past}
use Rattle.helix_base.specs.declared.memory.Memory.{Memory}
use Rattle.helix_json.specs.declared.value.Json.{Json}
use Rattle.helix_json.specs.declared.value.Json as json
use Rattle.helix_json.specs.declared.value.Json.TheViews as view
use Rattle.helix_places.specs.declared.place.Step.{Step}
use Rattle.helix_places.specs.declared.place.Step.TheVariants as step
use Rattle.helix_places.specs.Members.{items_of, is_string}
use Rattle.helix_legacy.specs.Broken.{BreaksName, IsFaultyName, is_name, name_at, name_in, name_of_some}
use Rattle.helix_places.specs.Places.{Finds, Precedes}
use Rattle.helix_places.specs.ViewLaws.{items_of_list}

-- the rule with an index
at_is : (rules : List Json) (i : ℕ) (rule : Json) → i < length rules → rule ≡ get_or rules i rule
    → name_at rules i ≡ name_in rule
at_is rules i rule within read = ap name_of_some (slice_get_read rules (length rules) i rule refl within read)

not_both : (b : Bool) → b ≡ true → b ≡ false → ⊥
not_both b is_true is_false = cc

-- no rule before an index has a faulty name
abbrev pub NoneFaulty : List Json → ℕ → Type 0
NoneFaulty rules i = (k : ℕ) → k < i → ¬ (IsSomeAnd (name_at rules k) (IsFaultyName (take k rules)))

pub no_faulty_first : (rules : List Json) → NoneFaulty rules 0
no_faulty_first rules k less = absurd (omega arith)

module _ (rules : List Json) (i : ℕ) (rule : Json) (within : i < length rules) (read : rule ≡ get_or rules i rule)
    (none : NoneFaulty rules i) (answer : Bool) (earlier : List Json) (earlier_is : earlier ≡ take i rules)
    (says : IsTrue answer ↔ IsSomeAnd (name_in rule) (IsFaultyName earlier))
  where
    faulty_at : IsSomeAnd (name_in rule) (IsFaultyName earlier)
        ≡ IsSomeAnd (name_at rules i) (IsFaultyName (take i rules))
    faulty_at = ap (λ o. IsSomeAnd o (IsFaultyName earlier)) (sym (at_is rules i rule within read))
        ∙ ap (λ l. IsSomeAnd (name_at rules i) (IsFaultyName l)) earlier_is

    pub next_name : answer ≡ false → NoneFaulty rules (i + 1)
    next_name no_fault k less faulty = ⊎_elim (λ before. none k before faulty)
        (λ not_before. let same : k ≡ i = omega arith in
        let here : IsSomeAnd (name_at rules i) (IsFaultyName (take i rules)) =
        subst (λ n. IsSomeAnd (name_at rules n) (IsFaultyName (take n rules))) same faulty in
        let true_is : answer ≡ true = says.1 (subst (λ T. T) (sym faulty_at) here) in
        not_both answer true_is no_fault) (cases_lt k i)

    first_name : (place : List Step) → place ≡ step.Item i ∷ step.Member (codes "rule") ∷ [] → (other : List Step)
        → BreaksName (view.List rules) other → (other ≡ place) ⊎ Precedes (view.List rules) place other
    first_name place place_is other broken =
        let faulty : IsSomeAnd (name_at rules broken.index) (IsFaultyName (take broken.index rules)) =
        subst (λ l. IsSomeAnd (name_at l broken.index) (IsFaultyName (take broken.index l))) (items_of_list rules)
        broken.faulty in
        ⊎_elim (λ before. absurd (none broken.index before faulty))
        (λ not_before. ⊎_elim
        (λ after. inr (let P : List Step → List Step → Type 0 = λ p q. Precedes (view.List rules) p q in
        subst (λ p. P p other) (sym place_is) (subst (λ q. P (step.Item i ∷ step.Member (codes "rule") ∷ []) q)
        (sym broken.is) (inl after))))
        (λ not_after. let same : broken.index ≡ i = omega arith in
        inl (broken.is ∙ (ap (λ n. step.Item n ∷ step.Member (codes "rule") ∷ []) same ∙ sym place_is)))
        (cases_lt i broken.index)) (cases_lt broken.index i)

    pub found_name : answer ≡ true → (place : List Step)
        → place ≡ step.Item i ∷ step.Member (codes "rule") ∷ []
        → Finds (view.List rules) (BreaksName (view.List rules)) (Some place)
    found_name yes_fault place place_is = record {
      named = record {
        index = i;
        is = place_is;
        faulty = subst (λ l. IsSomeAnd (name_at l i) (IsFaultyName (take i l))) (sym (items_of_list rules))
            (subst (λ T. T) faulty_at (says.0 yes_fault));
      };
      first = λ other broken. first_name place place_is other broken;
    }

-- no rule has a faulty name
pub no_name : (rules : List Json) (i : ℕ) → length rules ≤ i → NoneFaulty rules i
    → Finds (view.List rules) (BreaksName (view.List rules)) None
no_name rules i all none place broken =
    let faulty : IsSomeAnd (name_at rules broken.index) (IsFaultyName (take broken.index rules)) =
    subst (λ l. IsSomeAnd (name_at l broken.index) (IsFaultyName (take broken.index l))) (items_of_list rules)
    broken.faulty in
    ⊎_elim (λ within. none broken.index (omega arith) faulty)
    (λ past. let past_is : length rules ≤ broken.index = omega arith in
    let nothing : name_at rules broken.index ≡ None =
    ap name_of_some (slice_get_past rules broken.index past_is) in
    subst (λ o. IsSomeAnd o (IsFaultyName (take broken.index rules))) nothing faulty)
    (cases_lt broken.index (length rules))

-- a value that is no list
pub no_names : (v : Json) → items_of v ≡ [] → Finds v (BreaksName v) None
no_names v none place broken =
    subst (λ l. IsSomeAnd (name_at l broken.index) (IsFaultyName (take broken.index l))) none broken.faulty

pub list_names : (v : Json) (rules : List Json) (r : Result (Option (List Step)) Memory) → v ≡ view.List rules
    → IfOk r (Finds (view.List rules) (BreaksName (view.List rules))) → IfOk r (Finds v (BreaksName v))
list_names v rules r is says = let Q : Json → Type 0 = λ w. IfOk r (Finds w (BreaksName w)) in subst Q (sym is) says

-- the name of a value that is no string
not_string : (v : Json) → is_string v ≡ false → is_name v ≡ false
not_string json.Null e = refl
not_string (json.Bool b) e = refl
not_string (json.Number text) e = refl
not_string (json.Str text) e = absurd (cc)
not_string (json.List' shape items) e = refl
not_string (json.Object' shape members) e = refl

pub faulty_other : (earlier : List Json) (name : Json) → false ≡ is_string name → IsTrue true
    ↔ IsFaultyName earlier name
faulty_other earlier name other = ((λ t. inl (not_string name (sym other))), (λ f. refl))
