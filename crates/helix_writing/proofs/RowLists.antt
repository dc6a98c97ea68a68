-- The rows of a run are one list: next rows after its start begin it.
use Rattle.std.proofs.Common.{◌≡◌, ℕ, suc, ◌≤◌, Bool, true, false, List, [], ◌∷◌, ◌++◌, length, Option, None, Some, inl, inr, ◌⊎◌, refl, sym, ◌∙◌, ap, subst, arith, length-append, append-nil}
use Rattle.std.specs.declared.cmp.Ordering.{Ordering}
use Rattle.std.specs.declared.cmp.Ordering.TheVariants.{Less, Equal, Greater}
use Rattle.std.specs.Ordering.{ordering_reverse}
use Rattle.helix_profile.specs.Answer.{IsAbove, IsAmong, IsAscending, IsPrefixOf, IsRestOf, ReachesTo}
use Rattle.helix_profile.specs.AnswerLaws.{rest_is_prefix}
use Rattle.helix_profile.specs.AscendingLaws.{below_each, not_back}
use Rattle.helix_profile.specs.Content.{Content}
use Rattle.helix_profile.specs.Good.{IsGood}
use Rattle.helix_rows.specs.Parts.{IsNextRow}
use Rattle.helix_values.proofs.TotalOrder.{row_cmp_total, row_cmp-IsAntisymmetric}
use Rattle.helix_values.specs.Order.{row_cmp, RowLess}
use Rattle.helix_values.specs.declared.cell.Cell.{Cell}
use Rattle.helix_walk.specs.NextRows.{AreNextRows, end_of}
use Rattle.helix_writing.specs.GoodRows.{NoneAbove}
use Rattle.helix_writing.specs.Rows.{AreRows}

tied : (o p : Ordering) → p ≡ ordering_reverse o → ¬ (o ≡ Less) → ¬ (p ≡ Less) → o ≡ Equal
tied Less p back not_below not_above = absurd (not_below refl)
tied Equal p back not_below not_above = refl
tied Greater p back not_below not_above = absurd (not_above back)

-- of two rows neither of which is below the other, both are one
one_row : (a b : List Cell) → ¬ RowLess a b → ¬ RowLess b a → a ≡ b
one_row a b not_below not_above =
    row_cmp-IsAntisymmetric a b (tied (row_cmp a b) (row_cmp b a) (row_cmp_total.antisymm b a) not_below not_above)

-- what is below the first row of an ascending list is below its last one
reached_below : (row first : List Cell) (rows : List (List Cell)) → RowLess row first → IsAscending (first ∷ rows)
    → ReachesTo (first ∷ rows) row
reached_below row first [] below ascending = λ back. not_back row_cmp_total row first below back
reached_below row first (second ∷ rows) below ascending =
    reached_below row second rows (row_cmp_total.trans row first second below ascending.0.0) ascending.1

-- a row above one that is above the start
further_from : (start : Option (List Cell)) (row other : List Cell) → IsAbove start row → RowLess row other
    → IsAbove start other
further_from None row other is above = tt
further_from (Some first) row other is above = row_cmp_total.trans first row other is above

module _ (Good : List Cell → Type 0) where
  -- the first row of a prefix is the next one, and the others are a prefix above it
  first_next : (start : Option (List Cell)) (row : List Cell) (rows : List (List Cell))
      → IsPrefixOf Good start (row ∷ rows) → IsNextRow Good start row
  first_next start row rows prefix = record {
    is_in = (prefix.good row (inl refl)).0;
    above = (prefix.good row (inl refl)).1;
    least = λ other good above below. not_first other below
        (prefix.none_left_out other good above (reached_below other row rows below prefix.ascending));
  }
    where
      not_first : (other : List Cell) → RowLess other row → IsAmong (row ∷ rows) other → ⊥
      not_first other below (inl same) =
          not_back row_cmp_total other row below (subst (RowLess row) (sym (sym same)) (subst (λ r. RowLess r row)
          (sym same) below))
      not_first other below (inr later) =
          not_back row_cmp_total other row below (below_each row rows other prefix.ascending.0 later)

  -- a row above the first one is reached by the others where it is reached by all
  later_prefix : (start : Option (List Cell)) (row : List Cell) (rows : List (List Cell))
      → IsPrefixOf Good start (row ∷ rows) → IsPrefixOf Good (Some row) rows
  later_prefix start row rows prefix = record {
    ascending = prefix.ascending.1;
    good = λ other among. ((prefix.good other (inr among)).0, below_each row rows other prefix.ascending.0 among);
    none_left_out = λ other good above reaches. after_first other above
        (prefix.none_left_out other good (further_from start row other above_start above) (on_all rows other reaches));
  }
    where
      above_start : IsAbove start row
      above_start = (prefix.good row (inl refl)).1

      on_all : (rows : List (List Cell)) (other : List Cell) → ReachesTo rows other → ReachesTo (row ∷ rows) other
      on_all [] other reaches = absurd reaches
      on_all (next ∷ rows) other reaches = reaches

      after_first : (other : List Cell) → RowLess row other → IsAmong (row ∷ rows) other → IsAmong rows other
      after_first other above (inl same) =
          absurd (not_back row_cmp_total row other above (subst (λ r. RowLess r row) same (subst (RowLess row)
          (sym same) above)))
      after_first other above (inr later) = later

  pub next_of_prefix : (start : Option (List Cell)) (rows : List (List Cell)) → IsPrefixOf Good start rows
      → AreNextRows Good start rows
  next_of_prefix start [] prefix = tt
  next_of_prefix start (row ∷ rows) prefix =
      (first_next start row rows prefix, next_of_prefix (Some row) rows (later_prefix start row rows prefix))

  one_next : (start : Option (List Cell)) (a b : List Cell) → IsNextRow Good start a → IsNextRow Good start b → a ≡ b
  one_next start a b first second =
      one_row a b (second.least a first.is_in first.above) (first.least b second.is_in second.above)

  -- the same of a rest
  later_rest : (start : Option (List Cell)) (row : List Cell) (rows : List (List Cell))
      → IsRestOf Good start (row ∷ rows) → IsRestOf Good (Some row) rows
  later_rest start row rows rest = record {
    ascending = rest.ascending.1;
    members = λ other. (
      (λ among. ((later.good other among).0, (later.good other among).1)),
      (λ good. later_among other good.0 good.1 ((rest.members other).1 (good.0, above_start other good.1))),
    );
  }
    where
      later : IsPrefixOf Good (Some row) rows
      later = later_prefix start row rows (rest_is_prefix Good start (row ∷ rows) rest)

      above_start : (other : List Cell) → RowLess row other → IsAbove start other
      above_start other above = further_from start row other ((rest.members row).0 (inl refl)).1 above

      later_among : (other : List Cell) → Good other → RowLess row other → IsAmong (row ∷ rows) other
          → IsAmong rows other
      later_among other good above (inl same) =
          absurd (not_back row_cmp_total other other (subst (λ r. RowLess r other) same above)
          (subst (λ r. RowLess r other) same above))
      later_among other good above (inr among) = among

  pub none_after : (start : Option (List Cell)) (rows : List (List Cell)) → IsRestOf Good start rows
      → (row : List Cell) → Good row → ¬ IsAbove (end_of start rows) row
  none_after start [] rest row good = λ above. (rest.members row).1 (good, above)
  none_after start (first ∷ rows) rest row good =
      none_after (Some first) rows (later_rest start first rows rest) row good

  -- next rows begin other ones that don't end before them
  pub begins : (start : Option (List Cell)) (rows all : List (List Cell)) → AreNextRows Good start rows
      → AreNextRows Good start all
      → ((row : List Cell) → Good row → ¬ IsAbove (end_of start all) row) ⊎ (length rows ≤ length all)
      → (rest : List (List Cell)) × (all ≡ rows ++ rest)
  begins start [] all next are early = (all, refl)
  begins start (row ∷ rows) [] next are (inl none) = absurd (none row next.0.is_in next.0.above)
  begins start (row ∷ rows) [] next are (inr few) = absurd (omega (arith, few))
  begins start (row ∷ rows) (first ∷ all) next are early =
      let same : first ≡ row = one_next start first row are.0 next.0 in
      let later : (rest : List (List Cell)) × (all ≡ rows ++ rest) = begins (Some row) rows all next.1
      (subst (λ r. AreNextRows Good (Some r) all) same are.1)
      (subst (λ r. ((row : List Cell) → Good row → ¬ IsAbove (end_of (Some r) all) row) ⊎ (length rows ≤ length all))
      same (shorter early)) in
      (later.0, ap (λ r. r ∷ all) same ∙ ap (λ rs. row ∷ rs) later.1)
    where
      shorter : ((row : List Cell) → Good row → ¬ IsAbove (end_of (Some first) all) row)
          ⊎ (suc (length rows) ≤ suc (length all))
          → ((row : List Cell) → Good row → ¬ IsAbove (end_of (Some first) all) row) ⊎ (length rows ≤ length all)
      shorter (inl none) = inl none
      shorter (inr few) = inr (omega (arith, few))

  -- what follows next rows is the next one
  pub next_after : (start : Option (List Cell)) (rows : List (List Cell)) (row : List Cell) (rest : List (List Cell))
      → AreNextRows Good start (rows ++ row ∷ rest) → IsNextRow Good (end_of start rows) row
  next_after start [] row rest are = are.0
  next_after start (first ∷ rows) row rest are = next_after (Some first) rows row rest are.1

module _ (profile : Content) (start : Option (List Cell)) (limit : ℕ) where
  pub are_next : (all : List (List Cell)) (cut : Bool) → AreRows profile start limit all cut
      → AreNextRows (IsGood profile) start all
  are_next all true are = next_of_prefix (IsGood profile) start all are.prefix
  are_next all false are =
      next_of_prefix (IsGood profile) start all (rest_is_prefix (IsGood profile) start all are.rest)

  pub no_more : (all : List (List Cell)) (cut : Bool) → AreRows profile start limit all cut → length all ≤ limit
  no_more all true are = omega (arith, are.full)
  no_more all false are = are.few

  -- next rows, no more than the limit, begin the rows of the run
  pub rows_begin : (rows all : List (List Cell)) (cut : Bool) → AreRows profile start limit all cut
      → AreNextRows (IsGood profile) start rows → length rows ≤ limit
      → (rest : List (List Cell)) × (all ≡ rows ++ rest)
  rows_begin rows all true are next few =
      begins (IsGood profile) start rows all next (are_next all true are) (inr (omega (arith, few, are.full)))
  rows_begin rows all false are next few =
      begins (IsGood profile) start rows all next (are_next all false are)
      (inl (none_after (IsGood profile) start all are.rest))

  ended : (rows all rest : List (List Cell)) (cut : Bool) → AreRows profile start limit all cut → all ≡ rows ++ rest
      → NoneAbove profile (end_of start rows) ⊎ (length rows ≡ limit) → all ≡ rows
  ended rows all [] cut are is end = is ∙ append-nil rows
  ended rows all (row ∷ rest) cut are is (inl none) =
      let next : IsNextRow (IsGood profile) (end_of start rows) row = next_after (IsGood profile) start rows row rest
      (subst (AreNextRows (IsGood profile) start) is (are_next all cut are)) in
      absurd (none row next.is_in next.above)
  ended rows all (row ∷ rest) cut are is (inr full) =
      absurd (omega (arith, full, no_more all cut are, ap length is, length-append rows (row ∷ rest)))

  -- and where no further one is there, or they are as many as the limit, they are the rows of the run
  pub rows_are : (rows all : List (List Cell)) (cut : Bool) → AreRows profile start limit all cut
      → AreNextRows (IsGood profile) start rows → length rows ≤ limit
      → NoneAbove profile (end_of start rows) ⊎ (length rows ≡ limit) → all ≡ rows
  rows_are rows all cut are next few end =
      let (rest, is) = rows_begin rows all cut are next few in ended rows all rest cut are is end

  end_is : (rows : List (List Cell)) (cut : Bool) → AreRows profile start limit rows cut
      → NoneAbove profile (end_of start rows) ⊎ (length rows ≡ limit)
  end_is rows true are = inr are.full
  end_is rows false are = inl (none_after (IsGood profile) start rows are.rest)

  -- they are one list
  pub one_list : (rows all : List (List Cell)) (cut other : Bool) → AreRows profile start limit rows cut
      → AreRows profile start limit all other → all ≡ rows
  one_list rows all cut other are others =
      rows_are rows all other others (are_next rows cut are) (no_more rows cut are) (end_is rows cut are)
