-- Words and keys that are compared one after the other.
use Rattle.std.proofs.Common.{◌≡◌, ◌≢◌, ℕ, zero, suc, ◌+◌, ◌<◌, Bool, true, false, ◌&&◌, if◌then◌else◌, List, [], ◌∷◌, length, Some, drop, get_or, nat_eq, refl, ap, ◌∙◌, arith, add-one}
use Rattle.std.specs.List.{list_all}
use Rattle.std.specs.Str.{bytes_eq}
use Rattle.helix_json.specs.declared.value.Member.{Member}
use Rattle.helix_places.specs.Members.{value_of}

eq_suc : (xs ys : List ℕ) (i : ℕ) → i < length xs → length xs ≡ length ys
    → bytes_eq (drop i xs) (drop i ys)
    ≡ (nat_eq (get_or xs i 0) (get_or ys i 0) && bytes_eq (drop (suc i) xs) (drop (suc i) ys))
eq_suc [] ys i within same = absurd (omega arith)
eq_suc (x ∷ xs) [] i within same = absurd (omega arith)
eq_suc (x ∷ xs) (y ∷ ys) zero within same = refl
eq_suc (x ∷ xs) (y ∷ ys) (suc i) within same = eq_suc xs ys i (omega arith) (omega arith)

pub eq_step : (xs ys : List ℕ) (i : ℕ) → i < length xs → length xs ≡ length ys
    → bytes_eq (drop i xs) (drop i ys)
    ≡ (nat_eq (get_or xs i 0) (get_or ys i 0) && bytes_eq (drop (i + 1) xs) (drop (i + 1) ys))
eq_step xs ys i within same = rw add-one (eq_suc xs ys i within same)

and_false : (b : Bool) → (b && false) ≡ false
and_false true = refl
and_false false = refl

pub other_lengths : (xs ys : List ℕ) → length xs ≢ length ys → bytes_eq xs ys ≡ false
other_lengths [] [] other = absurd (other refl)
other_lengths [] (y ∷ ys) other = refl
other_lengths (x ∷ xs) [] other = refl
other_lengths (x ∷ xs) (y ∷ ys) other =
    ap (λ b. nat_eq x y && b) (other_lengths xs ys (λ e. other (ap suc e))) ∙ and_false (nat_eq x y)

value_suc : (key : List ℕ) (members : List Member) (i : ℕ) (default : Member) → i < length members
    → value_of key (drop i members)
    ≡ (if bytes_eq (get_or members i default).key key then Some (get_or members i default).value
    else value_of key (drop (suc i) members))
value_suc key [] i default within = absurd (omega arith)
value_suc key (member ∷ members) zero default within = refl
value_suc key (member ∷ members) (suc i) default within = value_suc key members i default (omega arith)

pub value_step : (key : List ℕ) (members : List Member) (i : ℕ) (default : Member) → i < length members
    → value_of key (drop i members)
    ≡ (if bytes_eq (get_or members i default).key key then Some (get_or members i default).value
    else value_of key (drop (i + 1) members))
value_step key members i default within = rw add-one (value_suc key members i default within)

all_suc : (p : ℕ → Bool) (xs : List ℕ) (i : ℕ) → i < length xs
    → list_all p (drop i xs) ≡ (p (get_or xs i 0) && list_all p (drop (suc i) xs))
all_suc p [] i within = absurd (omega arith)
all_suc p (x ∷ xs) zero within = refl
all_suc p (x ∷ xs) (suc i) within = all_suc p xs i (omega arith)

pub all_step : (p : ℕ → Bool) (xs : List ℕ) (i : ℕ) → i < length xs
    → list_all p (drop i xs) ≡ (p (get_or xs i 0) && list_all p (drop (i + 1) xs))
all_step p xs i within = rw add-one (all_suc p xs i within)
