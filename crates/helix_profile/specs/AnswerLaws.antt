-- How answer lists, rests and prefixes of any set of rows hang together: lemmas for this crate and those above.
use Rattle.std.proofs.Common.{◌≡◌, List, [], ◌∷◌, ◌++◌, Option, None, Some, inl, ◌↔◌, refl, sym, ◌∙◌, ap, subst, ⊎_elim}
use Rattle.std.proofs.lemmas.List.{append-nil}
use Rattle.std.specs.Cmp.{IsTotalOrder}
use Rattle.helix_values.specs.Order.{row_cmp, RowLess}
use Rattle.helix_values.specs.declared.cell.Cell.{Cell}
use Rattle.helix_profile.specs.Answer.{IsAmong, IsAbove, ReachesTo, IsAnswerOf, IsRestOf, IsPrefixOf}
use Rattle.helix_profile.specs.AscendingLaws.{above_or_not, one_list, among_left, among_right, among_either, ascending_joined, up_to_last, reaches_by_end}

module _ (order : IsTotalOrder row_cmp) (Good : List Cell → Type 0) where
  pub one_answer : (rows others : List (List Cell)) → IsAnswerOf Good rows → IsAnswerOf Good others → rows ≡ others
  one_answer rows others answer other = one_list order rows others answer.ascending other.ascending
      (λ row among. (other.members row).1 ((answer.members row).0 among))
      (λ row among. (answer.members row).1 ((other.members row).0 among))

  pub one_rest : (start : Option (List Cell)) (rows others : List (List Cell)) → IsRestOf Good start rows
      → IsRestOf Good start others → rows ≡ others
  one_rest start rows others rest other = one_list order rows others rest.ascending other.ascending
      (λ row among. (other.members row).1 ((rest.members row).0 among))
      (λ row among. (rest.members row).1 ((other.members row).0 among))

  -- above a row that is above the start
  further : (start : Option (List Cell)) (last row : List Cell) → IsAbove start last → RowLess last row
      → IsAbove start row
  further None last row above later = tt
  further (Some first) last row above later = order.trans first last row above later

  module _ (start : Option (List Cell)) (rows : List (List Cell)) (last : List Cell)
      (prefix : IsPrefixOf Good start (rows ++ last ∷ [])) where
    last_above : IsAbove start last
    last_above = (prefix.good last (among_right rows (last ∷ []) last (inl refl))).1

    -- each row of the prefix is below what is above its last row
    below : (row other : List Cell) → IsAmong (rows ++ last ∷ []) row → RowLess last other → RowLess row other
    below row other among later = ⊎_elim
        (λ same. subst (λ r. RowLess r other) (sym same) later)
        (λ earlier. order.trans row last other earlier later)
        (up_to_last rows last row prefix.ascending among)

    reached : (row : List Cell) → ¬ RowLess last row → ReachesTo (rows ++ last ∷ []) row
    reached row not = subst (λ T. T) (sym (reaches_by_end rows last [] row)) not

    -- a row above the last one is reached by what follows
    on_more : (more : List (List Cell)) (row : List Cell) → RowLess last row
        → ReachesTo ((rows ++ last ∷ []) ++ more) row → ReachesTo more row
    on_more [] row later reaches =
        absurd (subst (λ T. T) (ap (λ rs. ReachesTo rs row) (append-nil (rows ++ last ∷ []))
        ∙ reaches_by_end rows last [] row) reaches later)
    on_more (first ∷ more) row later reaches =
        subst (λ T. T) (reaches_by_end (rows ++ last ∷ []) first more row) reaches

    pub prefix_goes_on : (more : List (List Cell)) → IsPrefixOf Good (Some last) more
        → IsPrefixOf Good start ((rows ++ last ∷ []) ++ more)
    prefix_goes_on more next = record {
      ascending = ascending_joined (rows ++ last ∷ []) more prefix.ascending next.ascending
          (λ row other left right. below row other left (next.good other right).1);
      good = λ row among. ⊎_elim (prefix.good row) (λ right. (
        (next.good row right).0,
        further start last row last_above (next.good row right).1,
      )) (among_either (rows ++ last ∷ []) more row among);
      none_left_out = λ row good above reaches. ⊎_elim
          (λ later. among_right (rows ++ last ∷ []) more row
          (next.none_left_out row good later (on_more more row later reaches)))
          (λ not. among_left (rows ++ last ∷ []) more row (prefix.none_left_out row good above (reached row not)))
          (above_or_not last row);
    }

    pub rest_goes_on : (more : List (List Cell)) → IsRestOf Good (Some last) more
        → IsRestOf Good start ((rows ++ last ∷ []) ++ more)
    rest_goes_on more rest = record {
      ascending = ascending_joined (rows ++ last ∷ []) more prefix.ascending rest.ascending
          (λ row other left right. below row other left ((rest.members other).0 right).1);
      members = λ row. (
        (λ among. ⊎_elim (prefix.good row) (λ right. (
          ((rest.members row).0 right).0,
          further start last row last_above ((rest.members row).0 right).1,
        ))
            (among_either (rows ++ last ∷ []) more row among)),
        (λ good. ⊎_elim
            (λ later. among_right (rows ++ last ∷ []) more row ((rest.members row).1 (good.0, later)))
            (λ not. among_left (rows ++ last ∷ []) more row (prefix.none_left_out row good.0 good.1 (reached row not)))
            (above_or_not last row)),
      );
    }

-- the answer list is the rest above nothing
pub answer_is_rest : (Good : List Cell → Type 0) (rows : List (List Cell))
    → IsAnswerOf Good rows ↔ IsRestOf Good None rows
answer_is_rest Good rows = (
  (λ answer. record {
    ascending = answer.ascending;
    members = λ row. ((λ among. ((answer.members row).0 among, tt)), (λ good. (answer.members row).1 good.0));
  }),
  (λ rest. record {
    ascending = rest.ascending;
    members = λ row. ((λ among. ((rest.members row).0 among).0), (λ good. (rest.members row).1 (good, tt)));
  }),
)

-- the whole rest is a prefix
pub rest_is_prefix : (Good : List Cell → Type 0) (start : Option (List Cell)) (rows : List (List Cell))
    → IsRestOf Good start rows → IsPrefixOf Good start rows
rest_is_prefix Good start rows rest = record {
  ascending = rest.ascending;
  good = λ row. (rest.members row).0;
  none_left_out = λ row good above reaches. (rest.members row).1 (good, above);
}
