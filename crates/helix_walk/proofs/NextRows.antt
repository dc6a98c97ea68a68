-- Lists of rows of which each is the next one are prefixes, and rests where no row is above their end.
use Rattle.std.proofs.Common.{◌≡◌, ◌↔◌, List, [], ◌∷◌, ◌++◌, Option, Some, inl, inr, refl, subst, append_assoc}
use Rattle.std.specs.declared.cmp.Ordering.{Ordering}
use Rattle.std.specs.declared.cmp.Ordering.TheVariants.{Less, Equal, Greater}
use Rattle.std.specs.Ordering.{ordering_reverse}
use Rattle.helix_profile.specs.Answer.{IsAmong, IsAbove, IsPrefixOf, IsRestOf}
use Rattle.helix_profile.specs.AnswerLaws.{prefix_goes_on, rest_goes_on}
use Rattle.helix_rows.specs.Parts.{IsNextRow}
use Rattle.helix_values.proofs.TotalOrder.{row_cmp_total, row_cmp-IsAntisymmetric}
use Rattle.helix_values.specs.Order.{row_cmp, RowLess}
use Rattle.helix_values.specs.declared.cell.Cell.{Cell}
use Rattle.helix_walk.specs.NextRows.{AreNextRows, end_of}

tied : (o p : Ordering) → p ≡ ordering_reverse o → ¬ (o ≡ Less) → ¬ (p ≡ Less) → o ≡ Equal
tied Less p back not_below not_above = absurd (not_below refl)
tied Equal p back not_below not_above = refl
tied Greater p back not_below not_above = absurd (not_above back)

-- of two rows neither of which is below the other, both are one
one_row : (a b : List Cell) → ¬ RowLess a b → ¬ RowLess b a → a ≡ b
one_row a b not_below not_above =
    row_cmp-IsAntisymmetric a b (tied (row_cmp a b) (row_cmp b a) (row_cmp_total.antisymm b a) not_below not_above)

module _ (Good : List Cell → Type 0) where
  one_prefix : (start : Option (List Cell)) (row : List Cell) → IsNextRow Good start row
      → IsPrefixOf Good start (row ∷ [])
  one_prefix start row next = record {
    ascending = (tt, tt);
    good = only_good;
    none_left_out = λ other good above reaches. inl (one_row row other reaches (next.least other good above));
  }
    where
      only_good : (other : List Cell) → IsAmong (row ∷ []) other → Good other × IsAbove start other
      only_good other (inl here) = subst (λ r. Good r × IsAbove start r) here (next.is_in, next.above)
      only_good other (inr none) = absurd none

  none_prefix : (start : Option (List Cell)) → IsPrefixOf Good start []
  none_prefix start = record {
    ascending = tt;
    good = λ row among. absurd among;
    none_left_out = λ row good above reaches. reaches;
  }

  none_rest : (start : Option (List Cell)) → ((row : List Cell) → Good row → ¬ IsAbove start row)
      → IsRestOf Good start []
  none_rest start none = record {
    ascending = tt;
    members = λ row. ((λ among. absurd among), (λ good. none row good.0 good.1));
  }

  pub next_prefix : (start : Option (List Cell)) (rows : List (List Cell)) → AreNextRows Good start rows
      → IsPrefixOf Good start rows
  next_prefix start [] next = none_prefix start
  next_prefix start (row ∷ rows) next =
      prefix_goes_on row_cmp_total Good start [] row (one_prefix start row next.0) rows
      (next_prefix (Some row) rows next.1)

  pub next_rest : (start : Option (List Cell)) (rows : List (List Cell)) → AreNextRows Good start rows
      → ((row : List Cell) → Good row → ¬ IsAbove (end_of start rows) row) → IsRestOf Good start rows
  next_rest start [] next none = none_rest start none
  next_rest start (row ∷ rows) next none =
      rest_goes_on row_cmp_total Good start [] row (one_prefix start row next.0) rows
      (next_rest (Some row) rows next.1 none)

  pub next_joined : (start : Option (List Cell)) (rows more : List (List Cell)) → AreNextRows Good start rows
      → AreNextRows Good (end_of start rows) more → AreNextRows Good start (rows ++ more)
  next_joined start [] more next later = later
  next_joined start (row ∷ rows) more next later = (next.0, next_joined (Some row) rows more next.1 later)

-- A fact of lists and their ends holds of each list that has a row, where it holds of those with a last one.
by_last : (Fact : List (List Cell) → Option (List Cell) → Type 0)
    → ((rows : List (List Cell)) (last : List Cell) → Fact (rows ++ last ∷ []) (Some last))
    → (before : List (List Cell)) (row : List Cell) (rows : List (List Cell))
    → Fact (before ++ row ∷ rows) (end_of (Some row) rows)
by_last Fact each before row [] = each before row
by_last Fact each before row (next ∷ rows) =
    subst (λ all. Fact all (end_of (Some next) rows)) (append_assoc before (row ∷ []) (next ∷ rows))
    (by_last Fact each (before ++ row ∷ []) next rows)

module _ (Good : List Cell → Type 0) where
  pub prefix_joined : (start : Option (List Cell)) (rows more : List (List Cell)) → IsPrefixOf Good start rows
      → IsPrefixOf Good (end_of start rows) more → IsPrefixOf Good start (rows ++ more)
  prefix_joined start [] more prefix next = next
  prefix_joined start (row ∷ rows) more prefix next =
      by_last (λ all end. IsPrefixOf Good start all → IsPrefixOf Good end more → IsPrefixOf Good start (all ++ more))
      (λ before last first later. prefix_goes_on row_cmp_total Good start before last first more later) [] row rows
      prefix next

  pub rest_joined : (start : Option (List Cell)) (rows more : List (List Cell)) → IsPrefixOf Good start rows
      → IsRestOf Good (end_of start rows) more → IsRestOf Good start (rows ++ more)
  rest_joined start [] more prefix rest = rest
  rest_joined start (row ∷ rows) more prefix rest =
      by_last (λ all end. IsPrefixOf Good start all → IsRestOf Good end more → IsRestOf Good start (all ++ more))
      (λ before last first later. rest_goes_on row_cmp_total Good start before last first more later) [] row rows
      prefix rest

-- the next row of a set is that of any set of the same rows
pub next_of_same : (Good Other : List Cell → Type 0) → ((row : List Cell) → Good row ↔ Other row)
    → (start : Option (List Cell)) (row : List Cell) → IsNextRow Good start row → IsNextRow Other start row
next_of_same Good Other same start row next = record {
  is_in = (same row).0 next.is_in;
  above = next.above;
  least = λ other is. next.least other ((same other).1 is);
}
