-- The parts of an object and of a list, by their indexes.
use Rattle.std.proofs.Common.{◌≡◌, ◌≢◌, ℕ, zero, suc, ◌+◌, ◌<◌, ◌≤◌, inl, inr, Bool, true, false, List, [], ◌∷◌, length, Some, slice_get, get_or, refl, sym, ◌∙◌, ap, subst, arith, if◌then◌else◌}
use Rattle.std.proofs.lemmas.Bool.{cases_lt, false_from_ne_true}
use Rattle.std.specs.List.{AllByRecursion}
use Rattle.std.specs.Str.{bytes_eq}
use Rattle.std.proofs.lemmas.Slice.Eq.{bytes_eq-Decides}
use Rattle.std.proofs.lemmas.Option.{slice_get_read, slice_get_within}
use Rattle.helix_json.specs.declared.value.Json.{Json}
use Rattle.helix_json.specs.declared.value.Member.{Member}
use Rattle.helix_json.specs.Values.{HaveDifferentKeys}
use Rattle.helix_places.specs.Members.{value_of}
use Rattle.helix_places.specs.Places.{index_of}

-- what the comparison of two texts tells
pub same_bytes : (a b : List ℕ) → bytes_eq a b ≡ true → a ≡ b
same_bytes a b e = (bytes_eq-Decides a b).0 e

pub bytes_same : (a : List ℕ) → bytes_eq a a ≡ true
bytes_same a = (bytes_eq-Decides a a).1 refl

pub other_bytes : (a b : List ℕ) → a ≢ b → bytes_eq a b ≡ false
other_bytes a b n = false_from_ne_true (bytes_eq a b) (λ e. n ((bytes_eq-Decides a b).0 e))

pub all_at : {A : Type 0} (P : A → Type 0) (xs : List A) (i : ℕ) (x : A) → AllByRecursion P xs
    → slice_get xs i ≡ Some x → P x
all_at P [] i x all is = absurd (cc)
all_at P (y ∷ ys) zero x all is = let same : y ≡ x = cc in subst P same all.0
all_at P (y ∷ ys) (suc i) x all is = all_at P ys i x all.1 is

-- where a key leads
pub record Leads (key : List ℕ) (members : List Member) (v : Json) : Type 0 where
  pub index : ℕ
  pub member : Member
  pub at : slice_get members index ≡ Some member
  pub key_is : member.key ≡ key
  pub value_is : member.value ≡ v
  pub index_is : index_of key members ≡ index

leads_to : (b : Bool) (key : List ℕ) (m : Member) (members : List Member) (v : Json) → bytes_eq m.key key ≡ b
    → (value_of key members ≡ Some v → Leads key members v)
    → (if b then Some m.value else value_of key members) ≡ Some v → Leads key (m ∷ members) v
leads_to true key m members v e later is = record {
  index = zero;
  member = m;
  at = refl;
  key_is = same_bytes m.key key e;
  value_is = let same : m.value ≡ v = cc in same;
  index_is = ap (λ c. if c then 0 else index_of key members + 1) e;
}
leads_to false key m members v e later is = let there = later is in record {
  index = suc there.index;
  member = there.member;
  at = there.at;
  key_is = there.key_is;
  value_is = there.value_is;
  index_is = ap (λ c. if c then 0 else index_of key members + 1) e ∙ omega (arith, there.index_is);
}

pub leads : (key : List ℕ) (members : List Member) (v : Json) → value_of key members ≡ Some v → Leads key members v
leads key [] v is = absurd (cc)
leads key (m ∷ members) v is =
    leads_to (bytes_eq m.key key) key m members v refl (λ e. leads key members v e) is

-- a member by its key, where no other has the key
pub value_at : (members : List Member) (i : ℕ) (m : Member) → HaveDifferentKeys members
    → slice_get members i ≡ Some m → value_of m.key members ≡ Some m.value
value_at [] i m different is = absurd (cc)
value_at (n ∷ members) zero m different is =
    let same : n ≡ m = cc in
    ap (λ k. if bytes_eq n.key k.key then Some n.value else value_of k.key members) (sym same)
    ∙ (ap (λ b. if b then Some n.value else value_of n.key members) (bytes_same n.key) ∙ ap (λ k. Some k.value) same)
value_at (n ∷ members) (suc i) m different is =
    ap (λ b. if b then Some n.value else value_of m.key members)
    (other_bytes n.key m.key (all_at (λ other. n.key ≢ other.key) members i m different.0 is))
    ∙ value_at members i m different.1 is

pub index_at : (members : List Member) (i : ℕ) (m : Member) → HaveDifferentKeys members
    → slice_get members i ≡ Some m → index_of m.key members ≡ i
index_at [] i m different is = absurd (cc)
index_at (n ∷ members) zero m different is =
    let same : n ≡ m = cc in
    ap (λ k. if bytes_eq n.key k.key then 0 else index_of k.key members + 1) (sym same)
    ∙ ap (λ b. if b then 0 else index_of n.key members + 1) (bytes_same n.key)
index_at (n ∷ members) (suc i) m different is =
    ap (λ b. if b then 0 else index_of m.key members + 1)
    (other_bytes n.key m.key (all_at (λ other. n.key ≢ other.key) members i m different.0 is))
    ∙ omega (arith, index_at members i m different.1 is)

-- none of the first items is as `Q` says
abbrev pub NoneBefore : {A : Type 0} → (A → Type 0) → List A → ℕ → Type 0
NoneBefore {A} Q xs i = (k : ℕ) → k < i → (x : A) → slice_get xs k ≡ Some x → ¬ (Q x)

pub none_at_first : {A : Type 0} (Q : A → Type 0) (xs : List A) → NoneBefore Q xs 0
none_at_first Q xs k below x is q = absurd (omega arith)

below_next : (k i : ℕ) (T : Type 0) → k < i + 1 → (k < i → T) → (k ≡ i → T) → T
below_next k i T below earlier here = elim (cases_lt k i) [
  | inl less ↦ earlier less
  | inr not_less ↦ here
      (omega arith)
]

-- and neither is the next one
pub none_more : {A : Type 0} (Q : A → Type 0) (xs : List A) (i : ℕ) (y : A) → i < length xs → y ≡ get_or xs i y
    → NoneBefore Q xs i → ¬ (Q y) → NoneBefore Q xs (i + 1)
none_more Q xs i y within read none not k below x is q =
    below_next k i ⊥ below (λ less. none k less x is q)
    (λ same. not (let at : slice_get xs i ≡ Some x = subst (λ j. slice_get xs j ≡ Some x) same is in
    let there : slice_get xs i ≡ Some y = slice_get_read xs (length xs) i y refl within read in
    let equal : x ≡ y = cc in subst Q equal q))

pub none_at_all : {A : Type 0} (Q : A → Type 0) (xs : List A) (i k : ℕ) (x : A) → length xs ≤ i → NoneBefore Q xs i
    → slice_get xs k ≡ Some x → ¬ (Q x)
none_at_all Q xs i k x all none is = none k (omega (arith, slice_get_within xs k x is)) x is
