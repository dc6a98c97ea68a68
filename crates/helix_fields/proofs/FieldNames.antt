-- The names of fields, one after the other.
use Rattle.std.proofs.Common.{◌≡◌, ◌↔◌, ◌⊎◌, inl, inr, ⊎_elim, ℕ, ◌+◌, ◌<◌, ◌≤◌, Bool, true, false, not, ◌||◌, IsTrue, List, [], ◌∷◌, length, take, Option, Some, None, Result, IfOk, slice_get, get_or, codes, refl, sym, ◌∙◌, ap, subst, arith}
use Rattle.std.specs.Option.{IsSomeAnd}
use Rattle.std.proofs.lemmas.Bool.{cases_lt}
use Rattle.std.proofs.lemmas.Option.{slice_get_read, slice_get_past}
use Rattle.helix_base.specs.declared.memory.Memory.{Memory}
use Rattle.helix_json.specs.declared.value.Json.{Json}
use Rattle.helix_json.specs.declared.value.Json.TheViews as view
use Rattle.helix_places.specs.declared.place.Step.{Step}
use Rattle.helix_places.specs.declared.place.Step.TheVariants as step
use Rattle.helix_places.specs.Members.{items_of}
use Rattle.helix_places.specs.Names.{is_name_text}
use Rattle.helix_places.specs.Places.{Finds, Precedes}
use Rattle.helix_places.specs.KeyLaws.{NoneBefore}
use Rattle.helix_places.specs.ViewLaws.{items_of_list}
use Rattle.helix_fields.specs.FieldRules.{BreaksNames, IsFaultyName, name_at, name_of, name_of_some}
use Rattle.helix_fields.specs.RefusalLaws.{not_both}

-- the field with an index
at_is : (fields : List Json) (i : ℕ) (field : Json) → i < length fields → field ≡ get_or fields i field
    → name_at fields i ≡ name_of field
at_is fields i field within read = ap name_of_some (slice_get_read fields (length fields) i field refl within read)

-- no field before an index has a faulty name
abbrev pub NoneFaulty : List Json → ℕ → Type 0
NoneFaulty fields i = (k : ℕ) → k < i → ¬ (IsSomeAnd (name_at fields k) (IsFaultyName (take k fields)))

pub no_faulty_first : (fields : List Json) → NoneFaulty fields 0
no_faulty_first fields k less = absurd (omega arith)

module _ (fields : List Json) (i : ℕ) (field : Json) (within : i < length fields)
    (read : field ≡ get_or fields i field) (none : NoneFaulty fields i) (answer : Bool)
    (says : IsTrue answer ↔ IsSomeAnd (name_of field) (IsFaultyName (take i fields)))
  where
    faulty_at : IsSomeAnd (name_of field) (IsFaultyName (take i fields))
        ≡ IsSomeAnd (name_at fields i) (IsFaultyName (take i fields))
    faulty_at = ap (λ o. IsSomeAnd o (IsFaultyName (take i fields))) (sym (at_is fields i field within read))

    pub next_name : answer ≡ false → NoneFaulty fields (i + 1)
    next_name no_fault k less faulty = ⊎_elim (λ before. none k before faulty)
        (λ not_before. let same : k ≡ i = omega arith in
        let here : IsSomeAnd (name_at fields i) (IsFaultyName (take i fields)) =
        subst (λ n. IsSomeAnd (name_at fields n) (IsFaultyName (take n fields))) same faulty in
        let true_is : answer ≡ true = says.1 (subst (λ T. T) (sym faulty_at) here) in
        not_both answer true_is no_fault) (cases_lt k i)

    first_name : (place : List Step) → place ≡ step.Item i ∷ step.Member (codes "name") ∷ [] → (other : List Step)
        → BreaksNames (view.List fields) other → (other ≡ place) ⊎ Precedes (view.List fields) place other
    first_name place place_is other broken =
        let faulty : IsSomeAnd (name_at fields broken.index) (IsFaultyName (take broken.index fields)) =
        subst (λ l. IsSomeAnd (name_at l broken.index) (IsFaultyName (take broken.index l))) (items_of_list fields)
        broken.faulty in
        ⊎_elim (λ before. absurd (none broken.index before faulty))
        (λ not_before. ⊎_elim
        (λ after. inr (let P : List Step → List Step → Type 0 = λ p q. Precedes (view.List fields) p q in
        subst (λ p. P p other) (sym place_is) (subst (λ q. P (step.Item i ∷ step.Member (codes "name") ∷ []) q)
        (sym broken.is) (inl after))))
        (λ not_after. let same : broken.index ≡ i = omega arith in
        inl (broken.is ∙ (ap (λ n. step.Item n ∷ step.Member (codes "name") ∷ []) same ∙ sym place_is)))
        (cases_lt i broken.index)) (cases_lt broken.index i)

    pub found_name : answer ≡ true → (place : List Step)
        → place ≡ step.Item i ∷ step.Member (codes "name") ∷ []
        → Finds (view.List fields) (BreaksNames (view.List fields)) (Some place)
    found_name is_fault place place_is = record {
      named = record {
        index = i;
        is = place_is;
        faulty = subst (λ l. IsSomeAnd (name_at l i) (IsFaultyName (take i l))) (sym (items_of_list fields))
            (subst (λ T. T) faulty_at (says.0 is_fault));
      };
      first = λ other broken. first_name place place_is other broken;
    }

-- no field has a faulty name
pub no_name : (fields : List Json) (i : ℕ) → length fields ≤ i → NoneFaulty fields i
    → Finds (view.List fields) (BreaksNames (view.List fields)) None
no_name fields i all none place broken =
    let faulty : IsSomeAnd (name_at fields broken.index) (IsFaultyName (take broken.index fields)) =
    subst (λ l. IsSomeAnd (name_at l broken.index) (IsFaultyName (take broken.index l))) (items_of_list fields)
    broken.faulty in
    ⊎_elim (λ within. none broken.index (omega arith) faulty)
    (λ past. let past_is : length fields ≤ broken.index = omega arith in
    let nothing : name_at fields broken.index ≡ None =
    ap name_of_some (slice_get_past fields broken.index past_is) in
    subst (λ o. IsSomeAnd o (IsFaultyName (take broken.index fields))) nothing faulty)
    (cases_lt broken.index (length fields))

-- a value that is no list
pub no_names : (v : Json) → items_of v ≡ [] → Finds v (BreaksNames v) None
no_names v none place broken =
    subst (λ l. IsSomeAnd (name_at l broken.index) (IsFaultyName (take broken.index l))) none broken.faulty

pub list_names : (v : Json) (fields : List Json) (r : Result (Option (List Step)) Memory) → v ≡ view.List fields
    → IfOk r (Finds (view.List fields) (BreaksNames (view.List fields))) → IfOk r (Finds v (BreaksNames v))
list_names v fields r is says = let Q : Json → Type 0 = λ w. IfOk r (Finds w (BreaksNames w)) in subst Q (sym is) says

-- a name among those of fields
abbrev HasName : List Json → List ℕ → Type 0
HasName fields name = (i : ℕ) × (i < length fields) × (name_at fields i ≡ Some name)

pub has_it : (fields : List Json) (name : List ℕ) (i : ℕ) (field : Json) (answer : Bool) → i < length fields
    → field ≡ get_or fields i field → (IsTrue answer ↔ (name_of field ≡ Some name)) → answer ≡ true
    → HasName fields name
has_it fields name i field answer within read says is = (i, within, at_is fields i field within read ∙ says.0 is)

at_least : (fields : List Json) (name : List ℕ) (i : ℕ) → length fields ≤ i
    → NoneBefore (λ field. name_of field ≡ Some name) fields i → (k : ℕ) → k < length fields
    → name_at fields k ≡ Some name → (o : Option Json) → slice_get fields k ≡ o → ⊥
at_least fields name i all none k within is None at =
    let none_is : name_at fields k ≡ None = ap name_of_some at in cc
at_least fields name i all none k within is (Some field) at =
    none k (omega arith) field at (sym (ap name_of_some at) ∙ is)

pub has_none : (fields : List Json) (name : List ℕ) (i : ℕ) → length fields ≤ i
    → NoneBefore (λ field. name_of field ≡ Some name) fields i → ¬ (HasName fields name)
has_none fields name i all none has = at_least fields name i all none has.0 has.1 has.2 (slice_get fields has.0) refl

pub named_not : (answer : Bool) (P : Type 0) → (IsTrue answer ↔ P) → answer ≡ false → ¬ P
named_not answer P says is_false p = not_both answer (says.1 p) is_false

-- a name is faulty where it is no name, or where an earlier field has it
pub faulty_by : (earlier : List Json) (name : List ℕ) (is_name has : Bool) → is_name ≡ is_name_text name
    → (IsTrue has ↔ HasName earlier name) → IsTrue (not is_name || has) ↔ IsFaultyName earlier name
faulty_by earlier name true has is says = (
  (λ t. inr (says.0 t)),
  ⊎_elim (λ bad. absurd (not_both (is_name_text name) (sym is) bad)) (λ there. says.1 there),
)
faulty_by earlier name false has is says = ((λ t. inl (sym is)), (λ h. refl))
