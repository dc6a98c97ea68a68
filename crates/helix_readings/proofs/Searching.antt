-- The search for the members of a set file, and places.
use Rattle.std.proofs.Common.{◌≡◌, ◌≢◌, ℕ, zero, suc, ◌+◌, ◌<◌, ◌≤◌, inl, inr, Bool, true, false, IsTrue, ◌↔◌, List, [], ◌∷◌, ◌++◌, length, reverse, take, get_or, refl, sym, ◌∙◌, ap, subst, arith, ⊎_elim}
use Rattle.std.proofs.lemmas.List.{reverse-append, reverse-reverse, take_more}
use Rattle.std.specs.List.{AllByRecursion}
use Rattle.helix_places.specs.declared.place.Step.{Step}
use Rattle.helix_values.specs.declared.cell.Cell.{Cell}
use Rattle.helix_readings.specs.Sets.{HasMembers}
use Rattle.helix_readings.specs.declared.sets.SetMembers.{SetMembers}

-- no set of the list has the place
abbrev pub NoneWith : List Step → List SetMembers → Type 0
NoneWith place sets = AllByRecursion (λ set. set.place ≢ place) sets

module _ (place : List Step) where
  one_more : (sets : List SetMembers) (set : SetMembers) → NoneWith place sets → set.place ≢ place
      → NoneWith place (sets ++ set ∷ [])
  one_more [] set none other = (other, tt)
  one_more (first ∷ sets) set none other = (none.0, one_more sets set none.1 other)

  -- what follows sets with other places decides
  passed : (sets more : List SetMembers) (members : List Cell) → NoneWith place sets
      → HasMembers more place members → HasMembers (sets ++ more) place members
  passed [] more members none has = has
  passed (first ∷ sets) more members none has = inr (none.0, passed sets more members none.1 has)

  no_members : (sets : List SetMembers) → NoneWith place sets → (members : List Cell)
      → ¬ (HasMembers sets place members)
  no_members [] none members has = has
  no_members (first ∷ sets) none members has =
      ⊎_elim (λ here. none.0 here.0) (λ later. no_members sets none.1 members later.1) has

  split : (sets : List SetMembers) (i : ℕ) (d : SetMembers) → i < length sets
      → (rest : List SetMembers) × (sets ≡ take i sets ++ get_or sets i d ∷ rest)
  split [] i d within = absurd (omega arith)
  split (first ∷ sets) zero d within = (sets, refl)
  split (first ∷ sets) (suc i) d within =
      let others = split sets i d (omega arith) in (others.0, ap (λ l. first ∷ l) others.1)

  module _ (sets : List SetMembers) (i : ℕ) (set : SetMembers) (within : i < length sets)
      (read : set ≡ get_or sets i set) (none : NoneWith place (take i sets))
    where
      pub found_members : (b : Bool) (members : List Cell) → (IsTrue b ↔ (set.place ≡ place)) → b ≡ true
          → members ≡ set.members → HasMembers sets place members
      found_members b members same is copied =
          let there = split sets i set within in
          let whole : sets ≡ take i sets ++ set ∷ there.0 =
          there.1 ∙ ap (λ s. take i sets ++ s ∷ there.0) (sym read) in
          let P : List SetMembers → Type 0 = λ l. HasMembers l place members in
          subst P (sym whole) (passed (take i sets) (set ∷ there.0) members none (inl (same.0 is, copied)))

      pub other_members : (b : Bool) → (IsTrue b ↔ (set.place ≡ place)) → b ≡ false
          → NoneWith place (take (i + 1) sets)
      other_members b same is =
          let more : take (i + 1) sets ≡ take i sets ++ set ∷ [] =
          take_more sets i set within ∙ ap (λ s. take i sets ++ s ∷ []) (sym read) in
          let other : set.place ≢ place = λ e. let both : true ≡ false = sym (same.1 e) ∙ is in cc in
          subst (NoneWith place) (sym more) (one_more (take i sets) set none other)

  take_all : {A : Type 0} (xs : List A) (i : ℕ) → length xs ≤ i → take i xs ≡ xs
  take_all [] zero all = refl
  take_all [] (suc i) all = refl
  take_all (x ∷ xs) zero all = absurd (omega arith)
  take_all (x ∷ xs) (suc i) all = ap (λ l. x ∷ l) (take_all xs i (omega arith))

  pub no_set : (sets : List SetMembers) (i : ℕ) → length sets ≤ i → NoneWith place (take i sets)
      → (members : List Cell) → ¬ (HasMembers sets place members)
  no_set sets i all none = no_members sets (subst (NoneWith place) (take_all sets i all) none)

pub take_whole : {A : Type 0} (xs : List A) (i : ℕ) → length xs ≤ i → take i xs ≡ xs
take_whole xs i all = take_all [] xs i all

-- two lists of steps, one step after the other
pub same_to_end : (xs ys : List Step) (i : ℕ) → length xs ≡ length ys → length xs ≤ i → take i xs ≡ take i ys
    → xs ≡ ys
same_to_end xs ys i long all same =
    sym (take_whole xs i all) ∙ (same ∙ take_whole ys i (omega (arith, long)))

pub same_further : (xs ys : List Step) (i : ℕ) (x y : Step) → length xs ≡ length ys → i < length xs
    → x ≡ get_or xs i x → y ≡ get_or ys i y → take i xs ≡ take i ys → x ≡ y → take (i + 1) xs ≡ take (i + 1) ys
same_further xs ys i x y long within x_is y_is same equal =
    take_more xs i x within ∙ (ap (λ s. take i xs ++ s ∷ []) (sym x_is) ∙ (ap (λ l. l ++ x ∷ []) same
    ∙ (ap (λ s. take i ys ++ s ∷ []) (equal ∙ y_is) ∙ sym (take_more ys i y (omega (arith, long))))))

get_same : (xs : List Step) (i : ℕ) (x y : Step) → i < length xs → get_or xs i x ≡ get_or xs i y
get_same [] i x y within = absurd (omega arith)
get_same (z ∷ xs) zero x y within = refl
get_same (z ∷ xs) (suc i) x y within = get_same xs i x y (omega arith)

pub different_at : (xs ys : List Step) (i : ℕ) (x y : Step) → i < length xs → x ≡ get_or xs i x
    → y ≡ get_or ys i y → x ≢ y → xs ≢ ys
different_at xs ys i x y within x_is y_is other same =
    other (x_is ∙ (get_same xs i x y within ∙ (ap (λ l. get_or l i y) same ∙ sym y_is)))

reverse_last : (xs : List Step) (x : Step) → reverse (xs ++ x ∷ []) ≡ x ∷ reverse xs
reverse_last xs x = reverse-append xs (x ∷ [])

-- one step more, from the inside out
pub step_more : (steps : List Step) (i : ℕ) (s copy last : Step) (inner : List Step) → i < length steps
    → s ≡ get_or steps i s → copy ≡ s → inner ≡ reverse (take i steps) ++ last ∷ []
    → copy ∷ inner ≡ reverse (take (i + 1) steps) ++ last ∷ []
step_more steps i s copy last inner within read copied is =
    let more : take (i + 1) steps ≡ take i steps ++ s ∷ [] =
    take_more steps i s within ∙ ap (λ t. take i steps ++ t ∷ []) (sym read) in
    ap (λ l. copy ∷ l) is ∙ (ap (λ t. t ∷ (reverse (take i steps) ++ last ∷ [])) copied
    ∙ ap (λ l. l ++ last ∷ []) (sym (ap reverse more ∙ reverse_last (take i steps) s)))

pub steps_end : (steps place : List Step) (i : ℕ) (last : Step) (inner : List Step) → length steps ≤ i
    → reverse steps ≡ place → inner ≡ reverse (take i steps) ++ last ∷ [] → inner ≡ place ++ last ∷ []
steps_end steps place i last inner all is made =
    made ∙ ap (λ l. l ++ last ∷ []) (ap reverse (take_whole steps i all) ∙ is)

pub same_reversed : (xs ys place other : List Step) (b : Bool) → reverse xs ≡ place → reverse ys ≡ other
    → (IsTrue b ↔ (xs ≡ ys)) → IsTrue b ↔ (place ≡ other)
same_reversed xs ys place other b first second same = (
  (λ is. sym first ∙ (ap reverse (same.0 is) ∙ second)),
  (λ e. same.1 (sym (reverse-reverse xs) ∙ (ap reverse (first ∙ (e ∙ sym second)) ∙ reverse-reverse ys))),
)
