-- Constraints within which there is none: lemmas on what a rule owes.
use Rattle.std.proofs.Common.{◌≡◌, ◌⊎◌, inl, inr, ⊎_elim, ℕ, Bool, true, false, not, ◌||◌, ◌==◌, if◌then◌else◌, List, [], ◌∷◌, length, Option, Some, None, slice_get, codes, refl, ap, subst, arith}
use Rattle.std.specs.List.{list_all}
use Rattle.std.specs.Option.{IsSomeAnd}
use Rattle.std.specs.Str.{bytes_eq}
use Rattle.std.proofs.lemmas.Bool.{and_parts, eqb-true, or_cases}
use Rattle.helix_json.specs.declared.value.Json.{Json}
use Rattle.helix_json.specs.declared.value.Json as json
use Rattle.helix_json.specs.declared.value.Member.{Member}
use Rattle.helix_keywords.specs.declared.form.Form.{Form}
use Rattle.helix_keywords.specs.declared.form.Form.TheVariants as form
use Rattle.helix_keywords.specs.Forms.{has_form, key_sets}
use Rattle.helix_keywords.specs.FormLaws.{has_form_of}
use Rattle.helix_places.specs.declared.place.Step.{Step}
use Rattle.helix_places.specs.declared.place.Step.TheVariants as step
use Rattle.helix_places.specs.Members.{items_of, members_of, value_of, has_key, are_keys, is_list}
use Rattle.helix_places.specs.Places.{Here, InMember, part}
use Rattle.helix_places.specs.PlaceLaws.{some_and}
use Rattle.helix_constraints.specs.declared.role.Role.TheVariants as role
use Rattle.helix_constraints.specs.Rules.{AtOperand, BreaksForm, BreaksSize, form_in, is_no_list, is_empty_list, list_key}
use Rattle.helix_constraints.specs.Visited.{IsAlone, Visited, Within, role_by_form, role_of_parts}

none_is : {A : Type 0} (o : Option A) (P : A → Type 0) → o ≡ None → ¬ (IsSomeAnd o P)
none_is o P is h = let Q : Option _ → Type 0 = λ q. IsSomeAnd q P in subst Q is h

some_of : {A : Type 0} (o : Option A) (P : A → Type 0) → IsSomeAnd o P → (x : A) × (o ≡ Some x) × P x
some_of None P h = absurd h
some_of (Some x) P h = (x, refl, h)

-- a constraint of a form without constraints
pub alone_by_form : (v : Json) → role_by_form (form_in v) ≡ None → IsAlone v
alone_by_form v none [] h = h
alone_by_form v none (step ∷ place) h = none_is (role_of_parts role.One v)
    (λ next. IsSomeAnd (part v step) (λ w. Visited (λ u there. Unit {0}) next w place)) none h

abbrev Anything : Json → List Step → Type 0
Anything w place = Unit {0}

not_true : (b : Bool) → not b ≡ true → b ≡ false
not_true true e = absurd (cc)
not_true false e = refl

-- an operand in which there is no constraint
no_list : (w : Json) → is_no_list w ≡ true → (place : List Step) → ¬ (Visited Anything role.Many w place)
no_list w e [] h = h
no_list w e (step ∷ place) h = ⊎_elim (λ itself. itself) (λ deep. none_is (role_of_parts role.Many w)
    (λ next. IsSomeAnd (part w step) (λ u. Visited Anything next u place))
    (ap (λ b. if b then Some role.One else None) (not_true (is_list w) e)) deep) h

none_at : (items : List Json) (i : ℕ) → (length items == 0) ≡ true → slice_get items i ≡ None
none_at [] i e = refl
none_at (item ∷ items) i e =
    let none : length (item ∷ items) ≡ 0 = eqb-true (length (item ∷ items)) 0 e in absurd (omega arith)

no_part : (w : Json) (next : Step) → is_empty_list w ≡ true → part w next ≡ None
no_part json.Null next e = absurd (cc)
no_part (json.Bool b) next e = absurd (cc)
no_part (json.Number text) next e = absurd (cc)
no_part (json.Str text) next e = absurd (cc)
no_part (json.List' shape items) (step.Item i) e = none_at (items_of (json.List' shape items)) i e
no_part (json.List' shape items) (step.Member key) e = refl
no_part (json.Object' shape members) next e = absurd (cc)

no_item : (w : Json) → is_empty_list w ≡ true → (place : List Step) → ¬ (Visited Anything role.Many w place)
no_item w e [] h = h
no_item w e (step ∷ place) h = ⊎_elim (λ itself. itself) (λ deep.
    let there = some_of (role_of_parts role.Many w)
    (λ next. IsSomeAnd (part w step) (λ u. Visited Anything next u place)) deep in
    none_is (part w step) (λ u. Visited Anything there.0 u place) (no_part w step e) there.2) h

-- a form with a list of constraints
list_form : (o : Option Form) (key : List ℕ) → list_key o ≡ Some key → (o ≡ Some form.AnyOf) ⊎ (o ≡ Some form.AllOf)
list_form None key e = absurd (cc)
list_form (Some (form.Atom keyword)) key e = absurd (cc)
list_form (Some (form.Related keyword)) key e = absurd (cc)
list_form (Some form.Not) key e = absurd (cc)
list_form (Some form.AnyOf) key e = inl refl
list_form (Some form.AllOf) key e = inr refl
list_form (Some form.If) key e = absurd (cc)
list_form (Some form.IfElse) key e = absurd (cc)

not_both : (b : Bool) → b ≡ true → b ≡ false → ⊥
not_both b is_true is_false = cc

one_key : (key : List ℕ) (members : List Member) → (are_keys (key ∷ []) members || false) ≡ true → length members ≡ 1
one_key key members any = elim (or_cases (are_keys (key ∷ []) members) false any) [
  | inl are ↦ eqb-true (length members) 1
      (and_parts (length members == 1) (list_all (λ k. has_key k members) (key ∷ [])) are).0
  | inr none ↦ absurd (not_both false none refl)
]

any_of_member : (members : List Member) → has_form form.AnyOf members ≡ true → length members ≡ 1
unfolding has_form key_sets
any_of_member members has = one_key (codes "anyOf") members has

all_of_member : (members : List Member) → has_form form.AllOf members ≡ true → length members ≡ 1
unfolding has_form key_sets
all_of_member members has = one_key (codes "allOf") members has

-- it has one member, and that is or has constraints
list_parts : (v : Json) → (form_in v ≡ Some form.AnyOf) ⊎ (form_in v ≡ Some form.AllOf)
    → (length (members_of v) ≡ 1) × (role_of_parts role.One v ≡ Some role.Many)
list_parts v (inl is) =
    (any_of_member (members_of v) (has_form_of (members_of v) form.AnyOf is), ap role_by_form is)
list_parts v (inr is) =
    (all_of_member (members_of v) (has_form_of (members_of v) form.AllOf is), ap role_by_form is)

chosen : (a b : Bool) (x u w : Json) → (if a then Some x else None) ≡ Some u → (if b then Some x else None) ≡ Some w
    → u ≡ w
chosen true true x u w first second = cc
chosen true false x u w first second = absurd (cc)
chosen false b x u w first second = absurd (cc)

only_value : (members : List Member) (key other : List ℕ) (u w : Json) → length members ≡ 1
    → value_of key members ≡ Some u → value_of other members ≡ Some w → u ≡ w
only_value [] key other u w one first second = absurd (cc)
only_value (m ∷ []) key other u w one first second =
    chosen (bytes_eq m.key key) (bytes_eq m.key other) m.value u w first second
only_value (m ∷ n ∷ members) key other u w one first second = absurd (omega arith)

only_part : (v : Json) (next : Step) (key : List ℕ) (u w : Json) → length (members_of v) ≡ 1 → part v next ≡ Some u
    → value_of key (members_of v) ≡ Some w → u ≡ w
only_part v (step.Member other) key u w one first second = only_value (members_of v) other key u w one first second
only_part json.Null (step.Item i) key u w one first second = absurd (cc)
only_part (json.Bool b) (step.Item i) key u w one first second = absurd (cc)
only_part (json.Number text) (step.Item i) key u w one first second = absurd (cc)
only_part (json.Str text) (step.Item i) key u w one first second = absurd (cc)
only_part (json.List' shape items) (step.Item i) key u w one first second = absurd (cc)
only_part (json.Object' shape members) (step.Item i) key u w one first second = absurd (cc)

module _ (v w : Json) (key : List ℕ) (one : length (members_of v) ≡ 1)
    (many : role_of_parts role.One v ≡ Some role.Many) (is : value_of key (members_of v) ≡ Some w)
    (none : (place : List Step) → ¬ (Visited Anything role.Many w place))
  where
    alone_under : (place : List Step) → ¬ (Within Anything role.One v place)
    alone_under [] h = h
    alone_under (next ∷ place) h =
        let deep = some_and (role_of_parts role.One v)
        (λ r. IsSomeAnd (part v next) (λ u. Visited Anything r u place)) role.Many many h in
        let there = some_of (part v next) (λ u. Visited Anything role.Many u place) deep in
        let same : there.0 ≡ w = only_part v next key there.0 w one there.1 is in
        none place (subst (λ u. Visited Anything role.Many u place) same there.2)

-- an operand that passes a test which no list with items passes
module _ (test : Json → Bool)
    (none : (w : Json) → test w ≡ true → (place : List Step) → ¬ (Visited Anything role.Many w place))
  where
    alone_at : (v : Json) (key : List ℕ) → list_key (form_in v) ≡ Some key → (place : List Step)
        → InMember key (Here (λ w. test w ≡ true)) v place → IsAlone v
    alone_at v key is [] h = absurd h
    alone_at v key is (step.Item i ∷ place) h = absurd h
    alone_at v key is (step.Member other ∷ place) h =
        let parts = list_parts v (list_form (form_in v) key is) in
        let there = some_of (value_of key (members_of v)) (λ w. Here (λ u. test u ≡ true) w place) h.1 in
        alone_under v there.0 key parts.0 parts.1 there.1 (none there.0 there.2.1)

    operand_alone : (v : Json) (place : List Step) → AtOperand test v place → IsAlone v
    operand_alone v place h =
        let there = some_of (list_key (form_in v)) (λ key. InMember key (Here (λ w. test w ≡ true)) v place) h in
        alone_at v there.0 there.1 place there.2

-- S8 and S17 name the constraint itself, or there is none within it
pub form_alone : (v : Json) (place : List Step) → BreaksForm v place → (place ≡ []) ⊎ IsAlone v
form_alone v place (inl here) = inl here.0
form_alone v place (inr operand) = inr (operand_alone is_no_list no_list v place operand)

pub size_alone : (v : Json) (place : List Step) → BreaksSize v place → (place ≡ []) ⊎ IsAlone v
size_alone v place operand = inr (operand_alone is_empty_list no_item v place operand)
