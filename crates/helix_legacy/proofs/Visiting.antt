-- Where tests are broken in a visited value, by its form.
use Rattle.std.proofs.Common.{◌≡◌, ◌↔◌, inl, inr, ⊎_elim, false, List, [], ◌∷◌, Option, Some, None, Result, Ok, Err, IfOk, if◌then◌else◌, refl, sym, ◌∙◌, ap, subst}
use Rattle.std.specs.Option.{IsSomeAnd}
use Rattle.helix_json.specs.declared.value.Json.{Json}
use Rattle.helix_json.specs.declared.value.Json.TheViews as view
use Rattle.helix_json.specs.declared.value.Member.{Member}
use Rattle.helix_json.specs.Values.{HasNoRepeatedKey}
use Rattle.helix_base.specs.declared.memory.Memory.{Memory}
use Rattle.helix_legacy.specs.declared.form.Form.{Form}
use Rattle.helix_legacy.specs.declared.form.Form.TheVariants as form
use Rattle.helix_places.specs.declared.place.Step.{Step}
use Rattle.helix_places.specs.declared.place.Step.TheVariants as step
use Rattle.helix_places.specs.Members.{members_of, is_list}
use Rattle.helix_legacy.specs.Forms.{form_of, are_operand_keys, is_branch_key}
use Rattle.helix_places.specs.Places.{part, Finds, InItem, InPart}
use Rattle.helix_legacy.specs.Tests.{test_fault}
use Rattle.helix_legacy.specs.Visited.{Role, one, many, role_of_parts, parts_by_form, own_fault, fault_by_form, BreaksTests}
use Rattle.helix_places.specs.PlaceLaws.{finds_same, finds_only, some_and, and_some}
use Rattle.helix_places.specs.ViewLaws.{members_of_object}

pub if_ok : {A E : Type 0} (r : Result A E) (P Q : A → Type 0) → ((x : A) → P x → Q x) → IfOk r P → IfOk r Q
if_ok (Ok x) P Q f h = f x h
if_ok (Err e) P Q f h = h

-- a value whose parts are visited, and which has no fault of its own
tests_in_parts : (role next : Role) (v : Json) → own_fault role v ≡ None → role_of_parts role v ≡ Some next
    → (place : List Step) → InPart (BreaksTests next) v place ↔ BreaksTests role v place
tests_in_parts role next v sound parts [] = ((λ h. absurd h), (λ h. absurd (cc)))
tests_in_parts role next v sound parts (step ∷ place) = (
  (λ h. inr (and_some (role_of_parts role v) (λ r. IsSomeAnd (part v step) (λ w. BreaksTests r w place)) next parts h)),
  (λ h. ⊎_elim (λ fault. absurd (cc))
      (λ deep. some_and (role_of_parts role v) (λ r. IsSomeAnd (part v step) (λ w. BreaksTests r w place)) next parts
      deep) h),
)

none_and : {A : Type 0} (o : Option A) (P : A → Type 0) → o ≡ None → ¬ (IsSomeAnd o P)
none_and o P is h = let Q : Option _ → Type 0 = λ q. IsSomeAnd q P in subst Q is h

-- a value whose parts are not visited
tests_own : (role : Role) (v : Json) → role_of_parts role v ≡ None
    → (place : List Step) → BreaksTests role v place ↔ (own_fault role v ≡ Some place)
tests_own role v parts [] = ((λ h. h), (λ h. h))
tests_own role v parts (step ∷ place) = (
  (λ h. ⊎_elim (λ fault. fault)
      (λ deep. absurd (none_and (role_of_parts role v) (λ r. IsSomeAnd (part v step) (λ w. BreaksTests r w place))
      parts deep)) h),
  (λ h. inl h),
)

form_is : (members : List Member) (f : Form) → form_of members ≡ f → form_of (members_of (view.Object members)) ≡ f
form_is members f is = ap form_of (members_of_object members) ∙ is

fault_is : (members : List Member) (f : Form) → form_of members ≡ f
    → own_fault one (view.Object members) ≡ fault_by_form f members
fault_is members f is = ap (λ g. fault_by_form g (members_of (view.Object members))) (form_is members f is)
    ∙ ap (fault_by_form f) (members_of_object members)

role_is : (members : List Member) (f : Form) → form_of members ≡ f
    → role_of_parts one (view.Object members) ≡ parts_by_form f
role_is members f is = ap parts_by_form (form_is members f is)

-- an object, by its form
pub test_finds : (members : List Member) (found : Option (List Step)) → form_of members ≡ form.Test
    → found ≡ test_fault members → Finds (view.Object members) (BreaksTests one (view.Object members)) found
test_finds members found is fault =
    let same : found ≡ own_fault one (view.Object members) = fault ∙ sym (fault_is members form.Test is) in
    let Q : Option (List Step) → Type 0 = λ o. Finds (view.Object members) (BreaksTests one (view.Object members)) o in
    subst Q (sym same) (finds_only (view.Object members) (BreaksTests one (view.Object members))
    (own_fault one (view.Object members)) (tests_own one (view.Object members) (role_is members form.Test is)))

pub operands_finds : (members : List Member) (found : Option (List Step)) → form_of members ≡ form.Operands
    → Finds (view.Object members) (InPart (BreaksTests one) (view.Object members)) found
    → Finds (view.Object members) (BreaksTests one (view.Object members)) found
operands_finds members found is = finds_same (view.Object members) (InPart (BreaksTests one) (view.Object members))
    (BreaksTests one (view.Object members)) found
    (tests_in_parts one one (view.Object members) (fault_is members form.Operands is)
    (role_is members form.Operands is))

pub branches_finds : (members : List Member) (found : Option (List Step)) → form_of members ≡ form.Branches
    → Finds (view.Object members) (InPart (BreaksTests many) (view.Object members)) found
    → Finds (view.Object members) (BreaksTests one (view.Object members)) found
branches_finds members found is = finds_same (view.Object members) (InPart (BreaksTests many) (view.Object members))
    (BreaksTests one (view.Object members)) found
    (tests_in_parts one many (view.Object members) (fault_is members form.Branches is)
    (role_is members form.Branches is))

nothing_own : (role : Role) (v : Json) → role_of_parts role v ≡ None → own_fault role v ≡ None
    → Finds v (BreaksTests role v) None
nothing_own role v parts own place h = let fault : own_fault role v
    ≡ Some place = (tests_own role v parts place).0 h in cc

pub other_finds : (members : List Member) → form_of members ≡ form.Other
    → Finds (view.Object members) (BreaksTests one (view.Object members)) None
other_finds members is =
    nothing_own one (view.Object members) (role_is members form.Other is) (fault_is members form.Other is)

form_of_none : form_of [] ≡ form.Other
unfolding form_of are_operand_keys is_branch_key
form_of_none = refl

-- no object
pub no_object_finds : (v : Json) → members_of v ≡ [] → Finds v (BreaksTests one v) None
no_object_finds v none = nothing_own one v
    (ap (λ ms. parts_by_form (form_of ms)) none ∙ ap parts_by_form form_of_none)
    (ap (λ ms. fault_by_form (form_of ms) ms) none ∙ ap (λ f. fault_by_form f []) form_of_none)

pub no_list_finds : (v : Json) → is_list v ≡ false → Finds v (BreaksTests many v) None
no_list_finds v none = nothing_own many v (ap (λ b. if b then Some one else None) none) refl

-- a list
items_same : (items : List Json) (place : List Step) → InItem (BreaksTests one) (view.List items) place
    ↔ InPart (BreaksTests one) (view.List items) place
items_same items [] = ((λ h. h), (λ h. h))
items_same items (step.Item index ∷ place) = ((λ h. h), (λ h. h))
items_same items (step.Member key ∷ place) = ((λ h. absurd h), (λ h. absurd h))

pub list_finds : (items : List Json) (found : Option (List Step))
    → Finds (view.List items) (InItem (BreaksTests one) (view.List items)) found
    → Finds (view.List items) (BreaksTests many (view.List items)) found
list_finds items found in_items = finds_same (view.List items) (InPart (BreaksTests one) (view.List items))
    (BreaksTests many (view.List items)) found
    (tests_in_parts many one (view.List items) refl refl)
    (finds_same (view.List items) (InItem (BreaksTests one) (view.List items)) (InPart (BreaksTests one)
    (view.List items))
    found (items_same items) in_items)

-- the same of the answers of calls
abbrev Says : Role → Json → Option (List Step) → Type 0
Says role v found = HasNoRepeatedKey v → Finds v (BreaksTests role v) found

pub test_says : (members : List Member) (r : Result (Option (List Step)) Memory) → form_of members ≡ form.Test
    → IfOk r (λ found. found ≡ test_fault members) → IfOk r (Says one (view.Object members))
test_says members r is = if_ok r _ _ (λ found fault keys. test_finds members found is fault)

pub operands_say : (members : List Member) (r : Result (Option (List Step)) Memory) → form_of members ≡ form.Operands
    → IfOk r (λ found. HasNoRepeatedKey (view.Object members)
    → Finds (view.Object members) (InPart (BreaksTests one) (view.Object members)) found)
    → IfOk r (Says one (view.Object members))
operands_say members r is = if_ok r _ _ (λ found says keys. operands_finds members found is (says keys))

pub branches_say : (members : List Member) (r : Result (Option (List Step)) Memory) → form_of members ≡ form.Branches
    → IfOk r (λ found. HasNoRepeatedKey (view.Object members)
    → Finds (view.Object members) (InPart (BreaksTests many) (view.Object members)) found)
    → IfOk r (Says one (view.Object members))
branches_say members r is = if_ok r _ _ (λ found says keys. branches_finds members found is (says keys))

pub object_says : (v : Json) (members : List Member) (r : Result (Option (List Step)) Memory) → v ≡ view.Object members
    → IfOk r (Says one (view.Object members)) → IfOk r (Says one v)
object_says v members r is says = let Q : Json → Type 0 = λ w. IfOk r (Says one w) in subst Q (sym is) says

pub list_says : (v : Json) (items : List Json) (r : Result (Option (List Step)) Memory) → v ≡ view.List items
    → IfOk r (λ found. HasNoRepeatedKey (view.List items)
    → Finds (view.List items) (InItem (BreaksTests one) (view.List items)) found) → IfOk r (Says many v)
list_says v items r is says =
    let Q : Json → Type 0 = λ w. IfOk r (Says many w) in
    subst Q (sym is) (if_ok r _ _ (λ found finds keys. list_finds items found (finds keys)) says)
