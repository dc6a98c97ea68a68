-- The keys of a constraint with others within it, by its form.
use Rattle.std.proofs.Common.{◌≡◌, inl, inr, ℕ, false, true, ◌||◌, ◌==◌, List, [], ◌∷◌, length, codes}
use Rattle.std.proofs.lemmas.Bool.{and_parts, or_cases}
use Rattle.std.specs.List.{list_all}
use Rattle.helix_json.specs.declared.value.Member.{Member}
use Rattle.helix_keywords.specs.Forms.{has_form, key_sets}
use Rattle.helix_keywords.specs.declared.form.Form.TheVariants as form
use Rattle.helix_places.specs.Members.{are_keys, has_key}

-- the keys of a form with one set of them
all_keys : (keys : List (List ℕ)) (members : List Member) → (are_keys keys members || false) ≡ true
    → list_all (λ key. has_key key members) keys ≡ true
all_keys keys members any = elim (or_cases (are_keys keys members) false any) [
  | inl are ↦ (and_parts (length members == length keys) (list_all (λ key. has_key key members) keys) are).1
  | inr none ↦ absurd (let both : false ≡ true = none in cc)
]

pub first_key : (key : List ℕ) (keys : List (List ℕ)) (members : List Member)
    → list_all (λ k. has_key k members) (key ∷ keys) ≡ true
    → (has_key key members ≡ true) × (list_all (λ k. has_key k members) keys ≡ true)
first_key key keys members all = and_parts (has_key key members) (list_all (λ k. has_key k members) keys) all

pub not_keys : (members : List Member) → has_form form.Not members ≡ true
    → list_all (λ k. has_key k members) (codes "not" ∷ []) ≡ true
unfolding has_form key_sets
not_keys members has = all_keys (codes "not" ∷ []) members has

pub all_of_keys : (members : List Member) → has_form form.AllOf members ≡ true
    → list_all (λ k. has_key k members) (codes "allOf" ∷ []) ≡ true
unfolding has_form key_sets
all_of_keys members has = all_keys (codes "allOf" ∷ []) members has

pub any_of_keys : (members : List Member) → has_form form.AnyOf members ≡ true
    → list_all (λ k. has_key k members) (codes "anyOf" ∷ []) ≡ true
unfolding has_form key_sets
any_of_keys members has = all_keys (codes "anyOf" ∷ []) members has

pub if_keys : (members : List Member) → has_form form.If members ≡ true
    → list_all (λ k. has_key k members) (codes "if" ∷ codes "then" ∷ []) ≡ true
unfolding has_form key_sets
if_keys members has = all_keys (codes "if" ∷ codes "then" ∷ []) members has

pub else_keys : (members : List Member) → has_form form.IfElse members ≡ true
    → list_all (λ k. has_key k members) (codes "if" ∷ codes "then" ∷ codes "else" ∷ []) ≡ true
unfolding has_form key_sets
else_keys members has = all_keys (codes "if" ∷ codes "then" ∷ codes "else" ∷ []) members has
