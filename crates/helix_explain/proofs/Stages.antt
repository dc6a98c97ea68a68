-- The search for a core, a number at a time.
use Rattle.std.proofs.Common.{◌≡◌, ℕ, suc, ◌-◌, ◌<◌, ◌≤◌, ◌↔◌, inl, inr, Bool, true, false, List, [], ◌∷◌, ◌++◌, reverse, refl, sym, ap, ◌∙◌, subst, arith, append_assoc}
use Rattle.std.specs.List.{Contains}
use Rattle.std.proofs.lemmas.List.{append-nil, reverse-append}
use Rattle.std.proofs.lemmas.List.Elements.{Contains-append_cases, Contains-append_left, Contains-append_right}
use Rattle.std.proofs.lemmas.Bool.Decides.{leb_tells}
use Rattle.helix_explain.specs.Sets.{AreNumbers, IsNotAfter, numbers_to}
use Rattle.helix_explain.specs.Inner.Stage.{AreDescending, IsStage, set_of}
use Rattle.helix_explain.proofs.Ordered.{not_after_further, both_further, first_further}
use Rattle.helix_explain.proofs.Reversed.{descending_append, descending_less, descending_bound, descending_push, descending_reverse, number_bounds, number_there, set_numbers}

-- a set that has all numbers of one that empties does too
abbrev pub IsClosed : (List ℕ → Type 0) → ℕ → Type 0
IsClosed Empties count = (a b : List ℕ) → AreNumbers count a → AreNumbers count b
    → ((n : ℕ) → Contains a n → Contains b n) → Empties a → Empties b

-- nothing is decided yet
pub begun : (Empties : List ℕ → Type 0) (count : ℕ) → Empties (numbers_to count) → IsStage Empties count count []
begun Empties count empties = record {
  descending = tt;
  empties = subst Empties (sym (append-nil (numbers_to count))) empties;
  first = λ high low above below is. tt;
}

-- the same of two profiles that the same sets empty
pub same_stage : (P Q : List ℕ → Type 0) (count undecided : ℕ) (chosen : List ℕ)
    → ((numbers : List ℕ) → Q numbers ↔ P numbers) → IsStage P count undecided chosen → IsStage Q count undecided chosen
same_stage P Q count undecided chosen same stage = record {
  descending = stage.descending;
  empties = (same (set_of undecided chosen)).1 stage.empties;
  first = λ high low above below is. stage.first high low above below ((same (reverse (high ++ low))).0 is);
}

-- descending numbers above j end with j + 1, or are all above that
data Ends (j bound : ℕ) (numbers : List ℕ) : Type 0 where
  above : AreDescending (suc j) bound numbers → Ends j bound numbers
  ended : (higher : List ℕ) → numbers ≡ higher ++ suc j ∷ [] → AreDescending (suc j) bound higher → Ends j bound numbers

nothing_between : (j : ℕ) (ms : List ℕ) → AreDescending j (suc j) ms → ms ≡ []
nothing_between j [] rest = refl
nothing_between j (m ∷ ms) rest =
    let lower : j < m = rest.0 in let upper : m < suc j = rest.1 in absurd (omega arith)

more_ends : (j bound n : ℕ) (ns : List ℕ) → suc j < n → n < bound → Ends j n ns → Ends j bound (n ∷ ns)
more_ends j bound n ns more within (above rest) = above (more, within, rest)
more_ends j bound n ns more within (ended higher is rest) =
    ended (n ∷ higher) (ap (λ l. n ∷ l) is) (more, within, rest)

last_ends : (j bound n : ℕ) (ns : List ℕ) → n ≡ suc j → AreDescending j n ns → Ends j bound (n ∷ ns)
last_ends j bound n ns is rest =
    ended [] (ap (λ k. k ∷ ns) is
    ∙ ap (λ l. suc j ∷ l) (nothing_between j ns (subst (λ k. AreDescending j k ns) is rest))) tt

ends : (j bound : ℕ) (numbers : List ℕ) → AreDescending j bound numbers → Ends j bound numbers
ends j bound [] descending = above tt
ends j bound (n ∷ ns) descending =
    elim (leb_tells (suc (suc j)) n) [
      | inl more ↦ more_ends j bound n ns more.1 descending.1 (ends j n ns descending.2)
      | inr less ↦ let lower : j < n = descending.0 in let upper : n < suc (suc j) = less.1 in
          last_ends j bound n ns (omega arith) descending.2
    ]

-- the set stays the same where its greatest undecided number is chosen
kept_set : (j : ℕ) (chosen : List ℕ) → set_of (suc j) chosen ≡ set_of j (chosen ++ suc j ∷ [])
kept_set j chosen = append_assoc (numbers_to j) (suc j ∷ []) (reverse chosen)
    ∙ ap (λ l. numbers_to j ++ l) (sym (reverse-append chosen (suc j ∷ [])))

module _ (Empties : List ℕ → Type 0) (count j : ℕ) (chosen : List ℕ) (within : suc j ≤ count)
    (stage : IsStage Empties count (suc j) chosen) where
  -- a set with the number, and higher ones
  with_number : (higher low : List ℕ) → AreDescending (suc j) (suc count) higher → AreDescending 0 (suc j) low
      → Empties (reverse ((higher ++ suc j ∷ []) ++ low)) → IsNotAfter chosen higher
  with_number higher low more below is =
      stage.first higher (suc j ∷ low) more (omega arith, omega arith, below)
      (subst (λ l. Empties (reverse l)) (append_assoc higher (suc j ∷ []) low) is)

  -- a set without the number
  without_number : (high low : List ℕ) → AreDescending (suc j) (suc count) high → AreDescending 0 (suc j) low
      → Empties (reverse (high ++ low)) → IsNotAfter chosen high
  without_number high low more below is =
      stage.first high low more (descending_bound 0 (suc j) (suc (suc j)) low (omega arith) below) is

  left_first : (high low : List ℕ) → AreDescending 0 (suc j) low → Empties (reverse (high ++ low))
      → Ends j (suc count) high → IsNotAfter chosen high
  left_first high low below is (above more) = without_number high low more below is
  left_first high low below is (ended higher same more) =
      subst (λ l. IsNotAfter chosen l) (sym same) (not_after_further chosen higher (suc j ∷ [])
      (with_number higher low more below (subst (λ l. Empties (reverse (l ++ low))) same is)))

  -- the number is left out where the rest empties
  pub left_out : Empties (set_of j chosen) → IsStage Empties count j chosen
  left_out empties = record {
    descending = descending_less j (suc j) (suc count) chosen (omega arith) stage.descending;
    empties = empties;
    first = λ high low more below is. left_first high low below is (ends j (suc count) high more);
  }

  -- what is in a set of chosen numbers and lower ones is in the rest with the chosen numbers
  in_rest : (low : List ℕ) → AreDescending 0 (suc j) low → (n : ℕ) → Contains (reverse (chosen ++ low)) n
      → Contains (set_of j chosen) n
  in_rest low below n there =
      elim (Contains-append_cases (reverse low) (reverse chosen) n
      (subst (λ l. Contains l n) (reverse-append chosen low) there)) [
        | inl lower ↦
            let bounds = number_bounds 0 j n (reverse low)
            (descending_reverse 0 (suc j) j low (omega arith) (omega arith) below) lower in
            Contains-append_left (numbers_to j) (reverse chosen) n (number_there j n bounds.0 bounds.1)
        | inr higher ↦ Contains-append_right (numbers_to j) (reverse chosen) n higher
      ]

  -- such a set doesn't empty where the rest doesn't
  not_chosen_alone : IsClosed Empties count → ¬ Empties (set_of j chosen) → (low : List ℕ)
      → AreDescending 0 (suc j) low → ¬ Empties (reverse (chosen ++ low))
  not_chosen_alone closed not_rest low below is =
      not_rest (closed (reverse (chosen ++ low)) (set_of j chosen)
      (descending_reverse 0 (suc count) count (chosen ++ low) (omega arith) (omega arith)
      (descending_append 0 j (suc count) chosen low (omega arith) (omega arith)
      (descending_less j (suc j) (suc count) chosen (omega arith) stage.descending) below))
      (set_numbers j count chosen (omega arith)
      (descending_less j (suc j) (suc count) chosen (omega arith) stage.descending))
      (in_rest low below) is)

  kept_first : IsClosed Empties count → ¬ Empties (set_of j chosen) → (high low : List ℕ)
      → AreDescending 0 (suc j) low → Empties (reverse (high ++ low)) → Ends j (suc count) high
      → IsNotAfter (chosen ++ suc j ∷ []) high
  kept_first closed not_rest high low below is (above more) =
      first_further chosen high (suc j) (suc count) more (without_number high low more below is)
      (λ same. not_chosen_alone closed not_rest low below (subst (λ l. Empties (reverse (l ++ low))) (sym same) is))
  kept_first closed not_rest high low below is (ended higher same more) =
      subst (λ l. IsNotAfter (chosen ++ suc j ∷ []) l) (sym same)
      (both_further chosen higher (suc j) (suc count) more
      (with_number higher low more below (subst (λ l. Empties (reverse (l ++ low))) same is)))

  -- the number stays where the rest doesn't empty
  pub kept : IsClosed Empties count → ¬ Empties (set_of j chosen) → IsStage Empties count j (chosen ++ suc j ∷ [])
  kept closed not_rest = record {
    descending = descending_push j (suc j) (suc count) chosen (omega arith) (omega arith) stage.descending;
    empties = subst Empties (kept_set j chosen) stage.empties;
    first = λ high low more below is. kept_first closed not_rest high low below is (ends j (suc count) high more);
  }

pub true_or_false : (b : Bool) → b ≡ true → b ≡ false → ⊥
true_or_false b is_true is_false = cc

-- what is asked is a set
pub asked_set : (Empties : List ℕ → Type 0) (count number : ℕ) (chosen set : List ℕ) → number ≤ count
    → IsStage Empties count number chosen → set ≡ set_of (number - 1) chosen → AreNumbers count set
asked_set Empties count number chosen set within stage is =
    subst (λ l. AreNumbers count l) (sym is)
    (set_numbers (number - 1) count chosen (omega arith)
    (descending_less (number - 1) number (suc count) chosen (omega arith) stage.descending))

module _ (P Q : List ℕ → Type 0) (count after number : ℕ) (chosen set : List ℕ) (positive : 0 < number)
    (within : number ≤ count) (stage : IsStage P count number chosen) (is : set ≡ set_of (number - 1) chosen)
    (same : (numbers : List ℕ) → Q numbers ↔ P numbers) (same_count : after ≡ count) where
  before : IsStage P count (suc (number - 1)) chosen
  before = subst (λ k. IsStage P count k chosen) (let e : number ≡ suc (number - 1) = omega arith in e) stage

  -- the set that was asked empties
  pub where_empty : P set → IsStage Q after (number - 1) chosen
  where_empty empties = subst (λ k. IsStage Q k (number - 1) chosen) (sym same_count)
      (same_stage P Q count (number - 1) chosen same
      (left_out P count (number - 1) chosen (omega arith) before (subst P is empties)))

  -- it doesn't
  pub where_not : IsClosed P count → ¬ P set → IsStage Q after (number - 1) (chosen ++ number ∷ [])
  where_not closed not_empty = subst (λ k. IsStage Q k (number - 1) (chosen ++ number ∷ [])) (sym same_count)
      (same_stage P Q count (number - 1) (chosen ++ number ∷ []) same
      (subst (λ k. IsStage P count (number - 1) (chosen ++ k ∷ []))
      (let e : suc (number - 1) ≡ number = omega arith in e)
      (kept P count (number - 1) chosen (omega arith) before closed (λ empties. not_empty (subst P (sym is) empties)))))
