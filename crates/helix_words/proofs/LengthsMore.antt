-- The lengths of words, one after the other, and the search in them.
use Rattle.std.proofs.Common.{◌≡◌, ◌⊎◌, ◌↔◌, inl, inr, ⊎_elim, ℕ, zero, suc, ◌+◌, ◌-◌, ◌<◌, ◌≤◌, List, [], ◌∷◌, ◌++◌, length, get_or, slice_index, slice_get, Option, Some, None, IfSome, IfNone, All, Contains, IsTrue, false, nat_eq, eqb-true, eq-eqb, sym, ap, ◌∙◌, subst, arith}
use Rattle.std.specs.List.Sorted.{IsStrictlyIncreasing}
use Rattle.std.proofs.lemmas.Bool.{cases_lt}
use Rattle.std.proofs.lemmas.List.{get_or_append_left, get_or_push, length_push, get_or_default}
use Rattle.std.proofs.lemmas.List.Elements.{All-nil, All-push, All-weaker, Contains-append_left, Contains-push, Contains-push_cases, Contains-get_or}
use Rattle.std.proofs.lemmas.List.Kept.{AllPairs-from_increasing}
use Rattle.std.proofs.lemmas.Option.{slice_get-get_or, slice_get_past}
use Rattle.helix_words.specs.Words.{WordSet}
use Rattle.helix_words.specs.Inner.Lengths.{AreLengths, IsLeastOf}
use Rattle.helix_words.specs.Inner.Tables.{IsLengthOf, IsLengthFrom, HasNoLengthFrom}

-- numbers in order up to a bound
pub record AreLengthsBelow (IsLength : ℕ → Type 0) (bound : ℕ) (lengths : List ℕ) : Type 0 where
  pub ascending : IsStrictlyIncreasing lengths
  pub below : All (λ n. n < bound) lengths
  pub are : (count : ℕ) → Contains lengths count ↔ (IsLength count × (count < bound))

module _ (IsLength : ℕ → Type 0) where
  pub lengths_none : (bound : ℕ) → ((count : ℕ) → IsLength count → bound ≤ count) → AreLengthsBelow IsLength bound []
  lengths_none bound above = record {
    ascending = λ k less. absurd (omega (arith, less));
    below = All-nil (λ n. n < bound);
    are = λ count. (
      (λ has. absurd (omega (arith, has.1))),
      (λ is. absurd (omega (arith, above count is.0, is.1))),
    );
  }

  module _ (bound : ℕ) (lengths : List ℕ) (are : AreLengthsBelow IsLength bound lengths) where
    -- one more length
    pub lengths_push : IsLength bound → AreLengthsBelow IsLength (bound + 1) (lengths ++ bound ∷ [])
    lengths_push is = record {
      ascending = λ k less. by k (omega (arith, less, length_push lengths bound)) (cases_lt (k + 1) (length lengths));
      below = All-push (λ n. n < bound + 1) lengths bound
          (All-weaker (λ n. n < bound) (λ n. n < bound + 1) (λ n less. omega (arith, less)) lengths are.below)
          (omega arith);
      are = λ count. (
        (λ has. ⊎_elim
            (λ earlier. let part = (are.are count).0 earlier in (part.0, omega (arith, part.1)))
            (λ here. (subst IsLength here is, omega (arith, here)))
            (Contains-push_cases lengths bound count has)),
        (λ both. elim (cases_lt count bound) [
          | inl before ↦ Contains-append_left lengths (bound ∷ []) count ((are.are count).1 (both.0, before))
          | inr at ↦ (let same : bound ≡ count = omega (arith, at, both.1) in
              subst (Contains (lengths ++ bound ∷ [])) same (Contains-push lengths bound))
        ]),
      );
    }
      where
        by : (k : ℕ) → k + 1 ≤ length lengths → (k + 1 < length lengths) ⊎ (length lengths ≤ k + 1)
            → slice_index (lengths ++ bound ∷ []) k < slice_index (lengths ++ bound ∷ []) (k + 1)
        by k low (inl before) = omega (
          arith,
          get_or_append_left lengths (bound ∷ []) 0 k (omega (arith, low)),
          get_or_append_left lengths (bound ∷ []) 0 (k + 1) before,
          are.ascending k before,
        )
        by k low (inr end) = omega (
          arith,
          get_or_append_left lengths (bound ∷ []) 0 k (omega (arith, low)),
          get_or_push lengths bound 0 (k + 1) (omega (arith, low, end)),
          are.below k 0 (omega (arith, low)),
        )

    -- one that isn't a length
    pub lengths_skip : ¬ (IsLength bound) → AreLengthsBelow IsLength (bound + 1) lengths
    lengths_skip not = record {
      ascending = are.ascending;
      below = All-weaker (λ n. n < bound) (λ n. n < bound + 1) (λ n less. omega (arith, less)) lengths are.below;
      are = λ count. (
        (λ has. let part = (are.are count).0 has in (part.0, omega (arith, part.1))),
        (λ both. elim (cases_lt count bound) [
          | inl before ↦ (are.are count).1 (both.0, before)
          | inr at ↦ (let same : count ≡ bound = omega (arith, at, both.1) in absurd (not (subst IsLength same both.0)))
        ]),
      );
    }

    -- after the last one
    pub lengths_all : ((count : ℕ) → IsLength count → count < bound) → AreLengths IsLength lengths
    lengths_all below = record {
      ascending = are.ascending;
      are = λ count. ((λ has. ((are.are count).0 has).0), (λ is. (are.are count).1 (is, below count is)));
    }

module _ (xs : List ℕ) (ascending : IsStrictlyIncreasing xs) where
  pub rising : (i j : ℕ) → i ≤ j → j < length xs → get_or xs i 0 ≤ get_or xs j 0
  rising i j low within = elim (cases_lt i j) [
    | inl less ↦ (let rise = AllPairs-from_increasing xs ascending i j 0 less within in omega (arith, rise))
    | inr same ↦ (let is : i ≡ j = omega (arith, low, same) in omega (arith, ap (λ k. get_or xs k 0) is))
  ]

  -- a number that is found is the least from itself on
  pub least_found : (from i : ℕ) → i < length xs → get_or xs i 0 ≡ from → IsLeastOf xs from (Some from)
  least_found from i within at = record {
    some = ((i, within, get_or_default xs i from 0 within ∙ at), omega arith, (λ other has high. high));
    none = tt;
  }

  -- the number where it would be inserted is the least from it on
  pub least_inserted : (from i : ℕ) → ((k : ℕ) → k < i → get_or xs k 0 < from)
      → ((k : ℕ) → i ≤ k → k < length xs → from < get_or xs k 0) → IsLeastOf xs from (slice_get xs i)
  least_inserted from i before after = elim (cases_lt i (length xs)) [
    | inl within ↦ subst (IsLeastOf xs from) (sym (slice_get-get_or xs i 0 within)) (record {
      some = (
        Contains-get_or xs i 0 within,
        (let above = after i (omega arith) within in omega (arith, above)),
        least
            within,
      );
      none = tt;
    })
    | inr past ↦ subst (IsLeastOf xs from) (sym (slice_get_past xs i past)) (record { some = tt; none = none past })
  ]
    where
      from_there : (other k : ℕ) → k < length xs → get_or xs k other ≡ other → from ≤ other → i ≤ k
      from_there other k within at high = elim (cases_lt k i) [
        | inl less ↦ (let low = before k less in
            absurd (omega (arith, low, get_or_default xs k 0 other within, at, high)))
        | inr there ↦ there
      ]

      least : i < length xs → (other : ℕ) → Contains xs other → from ≤ other → get_or xs i 0 ≤ other
      least within other has high =
          let there = from_there other has.0 has.1 has.2 high in
          let rise = rising i has.0 there has.1 in
          omega (arith, rise, get_or_default xs has.0 0 other has.1, has.2)

      none : length xs ≤ i → (other : ℕ) → Contains xs other → ¬ (from ≤ other)
      none past other has high =
          let there = from_there other has.0 has.1 has.2 high in omega (arith, there, past, has.1)

  -- the last number is the greatest
  pub last_greatest : (other : ℕ) → Contains xs other → (last : ℕ) → slice_get xs (length xs - 1) ≡ Some last
      → other ≤ last
  last_greatest other has last is =
      let within : length xs - 1 < length xs = omega (arith, has.1) in
      let same : Some (get_or xs (length xs - 1) 0) ≡ Some last = sym (slice_get-get_or xs (length xs - 1) 0 within)
      ∙ is in
      let at : get_or xs (length xs - 1) 0 ≡ last = cc in
      let rise = rising has.0 (length xs - 1) (omega (arith, has.1)) within in
      omega (arith, rise, at, get_or_default xs has.0 0 other has.1, has.2)

-- a number is a length where it is the least one from itself on
module _ (words : WordSet) (count : ℕ) where
  pub has_by_least : (least : ℕ) → IsLengthFrom words count least → IsTrue (nat_eq least count) ↔ IsLengthOf words count
  has_by_least least is = (
    (λ same. subst (IsLengthOf words) (eqb-true least count same) is.is_length),
    (λ allowed. let low = is.least count allowed (omega arith) in eq-eqb least count (omega (arith, low, is.high))),
  )

  pub has_by_none : HasNoLengthFrom words count → IsTrue false ↔ IsLengthOf words count
  has_by_none none = ((λ same. cc), (λ allowed. absurd (none count allowed (omega arith))))

-- what is found among the lengths of words
module _ (words : WordSet) (lengths : List ℕ) (are : AreLengths (IsLengthOf words) lengths)
    (short : words.longest ≤ 1000)
    (start : 0 < length words.automaton.moves) (from : ℕ) (answer : Option ℕ) (is : IsLeastOf lengths from answer) where
  pub length_found : IfSome answer (IsLengthFrom words from)
  length_found = by answer is
    where
      by : (answer : Option ℕ) → IsLeastOf lengths from answer → IfSome answer (IsLengthFrom words from)
      by None is = tt
      by (Some count) is =
          let allowed = (are.are count).0 is.some.0 in record {
            start = start;
            is_length = allowed;
            few = omega (arith, allowed.not_long, short);
            high = is.some.1;
            least = λ other other_is high. is.some.2 other ((are.are other).1 other_is) high;
          }

  pub length_missing : IfNone answer (HasNoLengthFrom words from)
  length_missing = by answer is
    where
      by : (answer : Option ℕ) → IsLeastOf lengths from answer → IfNone answer (HasNoLengthFrom words from)
      by None is = λ other other_is high. is.none other ((are.are other).1 other_is) high
      by (Some count) is = tt

-- what stands at an index is listed
pub last_listed : (xs : List ℕ) (k x : ℕ) → slice_get xs k ≡ Some x → Contains xs x
last_listed [] k x is = cc
last_listed (y ∷ ys) zero x is = let same : y ≡ x = cc in (0, omega arith, same)
last_listed (y ∷ ys) (suc k) x is =
    let (j, within, at) = last_listed ys k x is in (suc j, omega (arith, within), at)

-- where there is no last number, none is listed
pub last_none : (xs : List ℕ) → slice_get xs (length xs - 1) ≡ None → (x : ℕ) → ¬ (Contains xs x)
last_none xs is x has =
    let some = slice_get-get_or xs (length xs - 1) 0 (omega (arith, has.1)) in cc
