-- Sets of keys: different keys that an object has are at most as many as its members.
use Rattle.std.proofs.Common.{◌≡◌, ℕ, suc, ◌≤◌, inl, inr, Bool, true, false, ◌||◌, ◌==◌, if◌then◌else◌, List, [], ◌∷◌, length, map, Some, is_some, refl, sym, ◌∙◌, ap, subst, arith}
use Rattle.std.specs.List.{AllByRecursion, IsDistinct, list_any, list_all}
use Rattle.std.specs.Cmp.{IsEquivalence}
use Rattle.std.specs.Str.{bytes_eq}
use Rattle.std.proofs.lemmas.Bool.{and_parts, and_from, or_cases, or_right, eqb-true, true_from_ne_false}
use Rattle.std.proofs.lemmas.List.{length-map}
use Rattle.std.proofs.lemmas.Map.Made.{length-le_from_is_member}
use Rattle.std.proofs.lemmas.Map.Keys.{IsDistinct-cons}
use Rattle.helix_json.specs.declared.value.Member.{Member}
use Rattle.helix_places.specs.Members.{value_of, has_key, are_keys}
use Rattle.helix_places.specs.KeyLaws.{same_bytes, bytes_same}

not_both : (b : Bool) → b ≡ true → b ≡ false → ⊥
not_both b yes_it_is not_it = cc

same_from_cases : (a b : Bool) → (a ≡ true → b ≡ true) → (b ≡ true → a ≡ true) → a ≡ b
same_from_cases true true there back = refl
same_from_cases true false there back = sym (there refl)
same_from_cases false true there back = back refl
same_from_cases false false there back = refl

flipped : (a b : List ℕ) → bytes_eq a b ≡ true → bytes_eq b a ≡ true
flipped a b e = ap (λ k. bytes_eq b k) (same_bytes a b e) ∙ bytes_same b

pub same_texts : IsEquivalence bytes_eq
same_texts = record {
  refl = bytes_same;
  symm = λ a b. same_from_cases (bytes_eq a b) (bytes_eq b a) (flipped a b) (flipped b a);
  congr = λ a b c e. ap (λ k. bytes_eq k c) (same_bytes a b e);
}

-- the keys of members
abbrev keys_of : List Member → List (List ℕ)
keys_of members = map (λ member. member.key) members

present_at : (b : Bool) (key : List ℕ) (m : Member) (members : List Member) → bytes_eq m.key key ≡ b
    → (has_key key members ≡ true → list_any (bytes_eq key) (keys_of members) ≡ true)
    → is_some (if b then Some m.value else value_of key members) ≡ true
    → (bytes_eq key m.key || list_any (bytes_eq key) (keys_of members)) ≡ true
present_at true key m members e later h =
    ap (λ c. c || list_any (bytes_eq key) (keys_of members)) (flipped m.key key e)
present_at false key m members e later h =
    or_right (bytes_eq key m.key) (list_any (bytes_eq key) (keys_of members)) (later h)

present : (key : List ℕ) (members : List Member) → has_key key members ≡ true
    → list_any (bytes_eq key) (keys_of members) ≡ true
present key [] h = absurd (not_both false h refl)
present key (m ∷ members) h =
    present_at (bytes_eq m.key key) key m members refl (λ there. present key members there) h

pub all_member : (p : List ℕ → Bool) (q : List ℕ) (keys : List (List ℕ)) → list_all p keys ≡ true
    → list_any (bytes_eq q) keys ≡ true → p q ≡ true
all_member p q [] all any = absurd (not_both false any refl)
all_member p q (key ∷ keys) all any =
    let both = and_parts (p key) (list_all p keys) all in
    elim (or_cases (bytes_eq q key) (list_any (bytes_eq q) keys) any) [
      | inl here ↦ ap p (same_bytes q key here) ∙ both.0
      | inr later ↦ all_member p q keys both.1 later
    ]

few_keys : (keys : List (List ℕ)) (members : List Member) → IsDistinct bytes_eq keys
    → list_all (λ key. has_key key members) keys ≡ true → length keys ≤ length members
few_keys keys members distinct all = subst (λ n. length keys ≤ n) (length-map members (λ member. member.key))
    (length-le_from_is_member same_texts keys (keys_of members) distinct
    (λ q is_in. present q members (all_member (λ key. has_key key members) q keys all is_in)))

none_by : (b : Bool) (key : List ℕ) (keys : List (List ℕ))
    → (list_any (bytes_eq key) keys ≡ false → AllByRecursion (λ other. bytes_eq key other ≡ false) keys)
    → (b || list_any (bytes_eq key) keys) ≡ false
    → (b ≡ false) × AllByRecursion (λ other. bytes_eq key other ≡ false) keys
none_by true key keys later none = absurd (not_both true refl none)
none_by false key keys later none = (refl, later none)

none_same : (key : List ℕ) (keys : List (List ℕ)) → list_any (bytes_eq key) keys ≡ false
    → AllByRecursion (λ other. bytes_eq key other ≡ false) keys
none_same key [] none = tt
none_same key (other ∷ keys) none = none_by (bytes_eq key other) key keys (λ e. none_same key keys e) none

-- an object with these different keys has no other
pub only_keys : (keys : List (List ℕ)) (members : List Member) (key : List ℕ) → IsDistinct bytes_eq keys
    → are_keys keys members ≡ true → has_key key members ≡ true → list_any (bytes_eq key) keys ≡ true
only_keys keys members key distinct are has = true_from_ne_false (list_any (bytes_eq key) keys) (λ none.
    let both = and_parts (length members == length keys) (list_all (λ k. has_key k members) keys) are in
    let same : length members ≡ length keys = eqb-true (length members) (length keys) both.0 in
    let more : suc (length keys) ≤ length members = few_keys (key ∷ keys) members
    (IsDistinct-cons bytes_eq key keys (none_same key keys none) distinct)
    (and_from (has_key key members) (list_all (λ k. has_key k members) keys) has both.1) in
    omega arith)
