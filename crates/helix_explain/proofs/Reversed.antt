-- Sets of numbers, ascending and descending.
use Rattle.std.proofs.Common.{◌≡◌, ℕ, zero, suc, ◌-◌, ◌<◌, ◌≤◌, ◌⊎◌, inl, inr, List, [], ◌∷◌, ◌++◌, reverse, sym, subst, arith}
use Rattle.std.specs.List.{AllByRecursion, Contains}
use Rattle.std.proofs.lemmas.List.Elements.{All-contains, All-from_recursion, Contains-append_left, Contains-push}
use Rattle.std.proofs.lemmas.Bool.Decides.{leb_tells}
use mathlib.Core.List.{reverse-cons}
use Rattle.helix_explain.specs.Sets.{AreNumbersAbove, AreNumbers, numbers_to}
use Rattle.helix_explain.specs.Inner.Stage.{AreDescending, set_of}

pub above_less : (low mid most : ℕ) (numbers : List ℕ) → low ≤ mid → AreNumbersAbove mid most numbers
    → AreNumbersAbove low most numbers
above_less low mid most [] less numbers = tt
above_less low mid most (n ∷ ns) less numbers =
    let first : mid < n = numbers.0 in (omega arith, numbers.1, numbers.2)

-- numbers, and then greater ones
pub numbers_append : (low mid most : ℕ) (a b : List ℕ) → low ≤ mid → mid ≤ most → AreNumbersAbove low mid a
    → AreNumbersAbove mid most b → AreNumbersAbove low most (a ++ b)
numbers_append low mid most [] b below within first second = above_less low mid most b below second
numbers_append low mid most (n ∷ a) b below within first second =
    let upper : n ≤ mid = first.1 in
    (first.0, omega arith, numbers_append n mid most a b upper within first.2 second)

-- all of them are numbers
pub all_numbers : (count : ℕ) → AreNumbers count (numbers_to count)
all_numbers zero = tt
all_numbers (suc n) = numbers_append 0 n (suc n) (numbers_to n) (suc n ∷ []) (omega arith) (omega arith) (all_numbers n)
    (omega arith, omega arith, tt)

-- a descending list goes further down
pub descending_push : (low mid bound : ℕ) (a : List ℕ) → low < mid → mid < bound → AreDescending mid bound a
    → AreDescending low bound (a ++ mid ∷ [])
descending_push low mid bound [] below within descending = (below, within, tt)
descending_push low mid bound (n ∷ a) below within descending =
    let first : mid < n = descending.0 in
    (omega arith, descending.1, descending_push low mid n a below first descending.2)

pub descending_less : (low mid bound : ℕ) (a : List ℕ) → low ≤ mid → AreDescending mid bound a
    → AreDescending low bound a
descending_less low mid bound [] below descending = tt
descending_less low mid bound (n ∷ a) below descending =
    let first : mid < n = descending.0 in
    (omega arith, descending.1, descending_less low mid n a below descending.2)

pub descending_bound : (low bound most : ℕ) (a : List ℕ) → bound ≤ most → AreDescending low bound a
    → AreDescending low most a
descending_bound low bound most [] within descending = tt
descending_bound low bound most (n ∷ a) within descending =
    let first : n < bound = descending.1 in (descending.0, omega arith, descending.2)

-- a descending list, and then a lower one
pub descending_append : (low mid bound : ℕ) (a b : List ℕ) → low ≤ mid → mid < bound → AreDescending mid bound a
    → AreDescending low (suc mid) b → AreDescending low bound (a ++ b)
descending_append low mid bound [] b below within first second =
    descending_bound low (suc mid) bound b (omega arith) second
descending_append low mid bound (n ∷ a) b below within first second =
    let lower : mid < n = first.0 in
    (omega arith, first.1, descending_append low mid n a b below lower first.2 second)

-- numbers the other way round descend
pub numbers_reverse : (low most : ℕ) (numbers : List ℕ) → AreNumbersAbove low most numbers
    → AreDescending low (suc most) (reverse numbers)
numbers_reverse low most [] ascending = tt
numbers_reverse low most (n ∷ ns) ascending =
    subst (λ l. AreDescending low (suc most) l) (sym (reverse-cons n ns))
    (descending_push low n (suc most) (reverse ns) ascending.0 (let upper : n ≤ most = ascending.1 in omega arith)
    (numbers_reverse n most ns ascending.2))

-- and descending numbers ascend
pub descending_reverse : (low bound most : ℕ) (numbers : List ℕ) → low ≤ most → bound ≤ suc most
    → AreDescending low bound numbers → AreNumbersAbove low most (reverse numbers)
descending_reverse low bound most [] below within descending = tt
descending_reverse low bound most (n ∷ ns) below within descending =
    let lower : low < n = descending.0 in
    let upper : n < bound = descending.1 in
    let last : AreNumbersAbove (n - 1) most (n ∷ []) = (omega arith, omega arith, tt) in
    subst (λ l. AreNumbersAbove low most l) (sym (reverse-cons n ns))
    (numbers_append low (n - 1) most (reverse ns) (n ∷ []) (omega arith) (omega arith)
    (descending_reverse low n (n - 1) ns (omega arith) (omega arith) descending.2) last)

-- the numbers up to one, and then chosen ones above it
pub set_numbers : (undecided count : ℕ) (chosen : List ℕ) → undecided ≤ count
    → AreDescending undecided (suc count) chosen → AreNumbers count (set_of undecided chosen)
set_numbers undecided count chosen within descending =
    numbers_append 0 undecided count (numbers_to undecided) (reverse chosen) (omega arith) within
    (all_numbers undecided)
    (descending_reverse undecided (suc count) count chosen within (omega arith) descending)

all_bounds : (floor low most : ℕ) (numbers : List ℕ) → floor ≤ low → AreNumbersAbove low most numbers
    → AllByRecursion (λ k. (floor < k) × (k ≤ most)) numbers
all_bounds floor low most [] below ascending = tt
all_bounds floor low most (n ∷ ns) below ascending =
    let first : low < n = ascending.0 in
    ((omega arith, ascending.1), all_bounds floor n most ns (omega arith) ascending.2)

-- a number of a set is within its bounds
pub number_bounds : (low most n : ℕ) (numbers : List ℕ) → AreNumbersAbove low most numbers → Contains numbers n
    → (low < n) × (n ≤ most)
number_bounds low most n numbers ascending there =
    All-contains (λ k. (low < k) × (k ≤ most)) numbers n
    (All-from_recursion (λ k. (low < k) × (k ≤ most)) numbers (all_bounds low low most numbers (omega arith) ascending))
    there

le_cases : (n most : ℕ) → n ≤ suc most → (n ≤ most) ⊎ (n ≡ suc most)
le_cases n most within = elim (leb_tells n most) [
  | inl less ↦ inl less.1
  | inr more ↦ let above : most < n = more.1 in inr (omega arith)
]

there_by : (most n : ℕ) → (n ≤ most → Contains (numbers_to most) n) → (n ≤ most) ⊎ (n ≡ suc most)
    → Contains (numbers_to most ++ suc most ∷ []) n
there_by most n earlier (inl less) = Contains-append_left (numbers_to most) (suc most ∷ []) n (earlier less)
there_by most n earlier (inr last) = subst (λ k. Contains (numbers_to most ++ suc most ∷ []) k) (sym last)
    (Contains-push (numbers_to most) (suc most))

-- the numbers up to one are all of them
pub number_there : (most n : ℕ) → 0 < n → n ≤ most → Contains (numbers_to most) n
number_there zero n positive within = absurd (omega arith)
number_there (suc most) n positive within =
    there_by most n (λ less. number_there most n positive less) (le_cases n most within)
