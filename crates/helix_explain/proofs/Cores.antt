-- Cores: the end of the search, and what is true of each.
use Rattle.std.proofs.Common.{◌≡◌, ◌↔◌, ℕ, suc, ◌-◌, ◌<◌, ◌≤◌, List, [], ◌∷◌, ◌++◌, reverse, Result, Ok, Err, IfOk, sym, ap, ◌∙◌, subst, arith, append_assoc}
use Rattle.std.proofs.lemmas.List.{append-nil, reverse-append, reverse-reverse}
use Rattle.helix_explain.specs.Sets.{AreNumbers, AreNumbersAbove, IsCore, IsNotAfter}
use Rattle.helix_explain.specs.Inner.Stage.{AreDescending, IsStage, set_of}
use Rattle.helix_explain.proofs.Ordered.{after_itself, not_after_rest, same_lists}
use Rattle.helix_explain.proofs.Reversed.{above_less, numbers_reverse, set_numbers}
use Rattle.helix_explain.proofs.Stages.{same_stage}
use mathlib.Core.List.{reverse-cons}

core_first : (Empties : List ℕ → Type 0) (count : ℕ) (chosen : List ℕ) → IsStage Empties count 0 chosen
    → (other : List ℕ) → AreNumbers count other → Empties other → IsNotAfter (reverse (reverse chosen)) (reverse other)
core_first Empties count chosen stage other numbers is =
    subst (λ l. IsNotAfter l (reverse other)) (sym (reverse-reverse chosen))
    (stage.first (reverse other) [] (numbers_reverse 0 count other numbers) tt
    (subst Empties (sym (ap reverse (append-nil (reverse other)) ∙ reverse-reverse other)) is))

-- where all numbers are decided, the chosen ones are the core
pub decided : (Empties : List ℕ → Type 0) (count : ℕ) (chosen : List ℕ) → IsStage Empties count 0 chosen
    → IsCore Empties count (set_of 0 chosen)
decided Empties count chosen stage = record {
  set = set_numbers 0 count chosen (omega arith) stage.descending;
  empties = stage.empties;
  first = core_first Empties count chosen stage;
}

-- the same of the profile as it was, where the list is read off
pub found : (P Q : List ℕ → Type 0) (count undecided : ℕ) (chosen numbers : List ℕ) → undecided ≡ 0
    → ((l : List ℕ) → Q l ↔ P l) → IsStage P count undecided chosen → numbers ≡ set_of 0 chosen → IsCore Q count numbers
found P Q count undecided chosen numbers none same stage is =
    subst (λ l. IsCore Q count l) (sym is)
    (decided Q count chosen (same_stage P Q count 0 chosen same (subst (λ k. IsStage P count k chosen) none stage)))

pub found_if : {E : Type 0} (P Q : List ℕ → Type 0) (count after undecided : ℕ) (chosen list : List ℕ)
    (result : Result (List ℕ) E) → undecided ≡ 0 → ((l : List ℕ) → P l ↔ Q l) → after ≡ count → list ≡ chosen
    → IsStage P after undecided chosen → IfOk result (λ l. l ≡ set_of 0 list)
    → IfOk result (λ l. IsCore Q count l)
found_if P Q count after undecided chosen list (Ok numbers) none same same_count same_list stage is =
    found P Q count undecided chosen numbers none (λ l. ((same l).1, (same l).0))
    (subst (λ k. IsStage P k undecided chosen) same_count stage) (is ∙ ap (λ l. set_of 0 l) same_list)
found_if P Q count after undecided chosen list (Err error) none same same_count same_list stage is = tt

-- the numbers of a set before one of it
cut_before : (low most n : ℕ) (a b : List ℕ) → AreNumbersAbove low most (a ++ n ∷ b)
    → (low ≤ n - 1) × (0 < n) × AreNumbersAbove low (n - 1) a
cut_before low most n [] b numbers = let first : low < n = numbers.0 in (omega arith, omega arith, tt)
cut_before low most n (m ∷ a) b numbers =
    let first : low < m = numbers.0 in
    let rest = cut_before m most n a b numbers.2 in
    let less : m ≤ n - 1 = rest.0 in
    (omega arith, rest.1, (first, less, rest.2))

before_it : (low most n : ℕ) (a b : List ℕ) → AreNumbersAbove low most (a ++ n ∷ b) → AreDescending low n (reverse a)
before_it low most n a b numbers =
    let cut = cut_before low most n a b numbers in
    let positive : 0 < n = cut.1 in
    let same : suc (n - 1) ≡ n = omega arith in
    subst (λ k. AreDescending low k (reverse a)) same (numbers_reverse low (n - 1) a cut.2)

-- a set without one of its numbers is one
without_it : (low most n : ℕ) (a b : List ℕ) → AreNumbersAbove low most (a ++ n ∷ b) → AreNumbersAbove low most (a ++ b)
without_it low most n [] b numbers =
    let first : low < n = numbers.0 in above_less low n most b (omega arith) numbers.2
without_it low most n (m ∷ a) b numbers = (numbers.0, numbers.1, without_it m most n a b numbers.2)

reversed : (n : ℕ) (a b : List ℕ) → reverse (a ++ n ∷ b) ≡ reverse b ++ n ∷ reverse a
reversed n a b = reverse-append a (n ∷ b)
    ∙ (ap (λ l. l ++ reverse a) (reverse-cons n b) ∙ append_assoc (reverse b) (n ∷ []) (reverse a))

-- a set that leaves out one number of a core doesn't empty
pub irreducible : (Empties : List ℕ → Type 0) (count n : ℕ) (a b : List ℕ) → IsCore Empties count (a ++ n ∷ b)
    → ¬ Empties (a ++ b)
irreducible Empties count n a b core is =
    after_itself n (reverse a) (before_it 0 count n a b core.set)
    (not_after_rest (reverse b) (n ∷ reverse a) (reverse a)
    (subst (λ l. IsNotAfter (reverse b ++ n ∷ reverse a) l) (reverse-append a b)
    (subst (λ l. IsNotAfter l (reverse (a ++ b))) (reversed n a b)
    (core.first (a ++ b) (without_it 0 count n a b core.set) is))))

-- there is one core
pub one_core : (Empties : List ℕ → Type 0) (count : ℕ) (a b : List ℕ) → IsCore Empties count a → IsCore Empties count b
    → a ≡ b
one_core Empties count a b first second =
    sym (reverse-reverse a)
    ∙ (ap reverse (same_lists (reverse a) (reverse b) (first.first b second.set second.empties)
    (second.first a first.set first.empties)) ∙ reverse-reverse b)
