-- Of the paths that a search finds, one holds where the literals so far, the tree and what comes after it hold, and
-- none does elsewhere.
use Rattle.std.proofs.Common.{◌≡◌, ◌+◌, Bool, true, false, not, ◌&&◌, List, [], ◌∷◌, ◌++◌, refl, ap, ◌∙◌}
use Rattle.helix_profile.specs.Satisfaction.{cell_at, is_null}
use Rattle.helix_profile.specs.declared.relation.Relation.{Relation}
use Rattle.helix_tree.specs.TreeLaws.{dec_literal}
use Rattle.helix_tree.specs.declared.literal.Literal.{Literal}
use Rattle.helix_tree.specs.declared.literal.Literal.TheVariants.{Null, NotNull, Plain, Joined}
use Rattle.helix_tree.specs.declared.tree.Tree.{Tree, Lit, All', Any', Row_of-Tree, end_of-Tree, more_of-Tree}
use Rattle.helix_values.specs.declared.cell.Cell.{Cell}
use Rattle.helix_options.proofs.Refuting.{Fits, Says, standing_says}
use Rattle.helix_options.proofs.Truth.{literal_true, path_true, tree_true, each_true, some_true, decided-true, true-decided, signed-true, negation-true, path_true-append}
use Rattle.helix_options.specs.Inner.Literals.{signed, standing_of}
use Rattle.helix_options.specs.Inner.Search.{Found, nothing, both, one_step, with_literal, with_relation, with_open, tree_standing, search, search_each, search_some}
use Rattle.helix_options.proofs.Counting.{bit, holding, holding-append, Counts, chosen, three_ways, true_is, false_is, some_chosen}

module _ (nullable : List Bool) (row : List Cell) (fits : Fits nullable row) where
  pushed : (literal : Literal) (literals : List Literal) (fact : Bool) (rest : List Literal → Found)
      → Counts row fact rest
      → holding row (rest (literals ++ literal ∷ [])).paths
      ≡ bit (path_true row literals && (literal_true row literal && fact))
  pushed literal literals fact rest counts = counts (literals ++ literal ∷ [])
      ∙ ap (λ v. bit (v && fact)) (path_true-append row literals (literal ∷ []))
      ∙ ap bit (regroup (path_true row literals) (literal_true row literal) fact)
    where
      regroup : (a b c : Bool) → ((a && (b && true)) && c) ≡ (a && (b && c))
      regroup true true c = refl
      regroup true false c = refl
      regroup false b c = refl

  literal_counts : (literal : Literal) (literals : List Literal) (fact : Bool) (rest : List Literal → Found)
      → Counts row fact rest
      → holding row (with_literal nullable literal literals rest).paths
      ≡ bit (path_true row literals && (literal_true row literal && fact))
  literal_counts literal literals fact rest counts =
      chosen (standing_of nullable literal true literals) (path_true row literals) (literal_true row literal) fact
      (standing_says nullable row fits literal true literals) _ _ _ refl refl refl
      (one_step (rest literals)) (one_step nothing) (one_step (rest (literals ++ literal ∷ []))) row
      (counts literals) refl (pushed literal literals fact rest counts)

  relation_counts : (relation : Relation) (sign : Bool) (literals : List Literal) (fact : Bool)
      (rest : List Literal → Found) → Counts row fact rest
      → holding row (with_relation nullable relation sign literals rest).paths
      ≡ bit (path_true row literals && (literal_true row (Joined relation sign false) && fact))
  relation_counts relation sign literals fact rest counts =
      holding-append row (with_literal nullable (Null relation.left) literals rest).paths
      (both (with_literal nullable (Null relation.right) literals not_left)
      (with_literal nullable (Joined relation sign true) literals rest)).paths
      ∙ ((λ i. literal_counts (Null relation.left) literals fact rest counts i
      + (holding-append row (with_literal nullable (Null relation.right) literals not_left).paths
      (with_literal nullable (Joined relation sign true) literals rest).paths
      ∙ (λ j. literal_counts (Null relation.right) literals (literal_true row (NotNull relation.left) && fact) not_left
      (λ more. literal_counts (NotNull relation.left) more fact rest counts) j
      + literal_counts (Joined relation sign true) literals fact rest counts j)) i)
      ∙ three_ways (is_null (cell_at row relation.left)) (is_null (cell_at row relation.right)) _
      (literal_true row (Null relation.left)) (literal_true row (NotNull relation.left))
      (literal_true row (Null relation.right)) (literal_true row (Joined relation sign false))
      (literal_true row (Joined relation sign true)) (path_true row literals) fact
      (true_is _ (dec_literal (Null relation.left) row)) (false_is _ (dec_literal (NotNull relation.left) row))
      (true_is _ (dec_literal (Null relation.right) row)) (
        decided-true (dec_literal (Joined relation sign false) row),
        true-decided
            (dec_literal (Joined relation sign false) row),
      ) (
        decided-true (dec_literal (Joined relation sign true) row),
        true-decided
            (dec_literal (Joined relation sign true) row),
      ))
    where
      not_left : List Literal → Found
      not_left = λ more. with_literal nullable (NotNull relation.left) more rest

  open_counts : (literal : Literal) (literals : List Literal) (fact : Bool) (rest : List Literal → Found)
      → Counts row fact rest
      → holding row (with_open nullable literal literals rest).paths
      ≡ bit (path_true row literals && (literal_true row literal && fact))
  open_counts (Null field) literals fact rest counts = pushed (Null field) literals fact rest counts
  open_counts (NotNull field) literals fact rest counts = pushed (NotNull field) literals fact rest counts
  open_counts (Plain atom sign strict) literals fact rest counts =
      pushed (Plain atom sign strict) literals fact rest counts
  open_counts (Joined relation sign true) literals fact rest counts =
      pushed (Joined relation sign true) literals fact rest counts
  open_counts (Joined relation sign false) literals fact rest counts =
      relation_counts relation sign literals fact rest counts

  some_says : (tree : Tree) (sign : Bool) (literals : List Literal)
      → Says (tree_standing nullable tree sign literals) (path_true row literals) (tree_true row tree sign)
  some_says (Lit literal) sign literals = standing_says nullable row fits literal sign literals
  some_says (All' shape parts) sign literals = tt
  some_says (Any' shape parts) sign literals = tt

  mutual
    pub search_counts : (tree : Tree) (sign : Bool) (literals : List Literal) (fact : Bool)
        (rest : List Literal → Found) → Counts row fact rest
        → holding row (search nullable tree sign literals rest).paths
        ≡ bit (path_true row literals && (tree_true row tree sign && fact))
    search_counts (Lit literal) sign literals fact rest counts =
        chosen (standing_of nullable literal sign literals) (path_true row literals) (tree_true row (Lit literal) sign)
        fact (standing_says nullable row fits literal sign literals) _ _ _ refl refl refl
        (one_step (rest literals)) (one_step nothing) (with_open nullable (signed literal sign) literals rest) row
        (counts literals) refl
        (open_counts (signed literal sign) literals fact rest counts
        ∙ ap (λ v. bit (path_true row literals && (v && fact))) (signed-true row literal sign))
    search_counts (All' shape parts) true literals fact rest counts = each_counts parts true literals fact rest counts
    search_counts (All' shape parts) false literals fact rest counts = some_counts parts false literals fact rest counts
    search_counts (Any' shape parts) true literals fact rest counts = some_counts parts true literals fact rest counts
    search_counts (Any' shape parts) false literals fact rest counts = each_counts parts false literals fact rest counts

    each_counts : {m : _} (parts : Row_of-Tree m) (sign : Bool) (literals : List Literal) (fact : Bool)
        (rest : List Literal → Found) → Counts row fact rest
        → holding row (search_each nullable parts sign literals rest).paths
        ≡ bit (path_true row literals && (each_true row parts sign && fact))
    each_counts end_of-Tree sign literals fact rest counts = counts literals
    each_counts (more_of-Tree part parts) sign literals fact rest counts =
        search_counts part sign literals (each_true row parts sign && fact)
        (λ more. search_each nullable parts sign more rest)
        (λ more. each_counts parts sign more fact rest counts)
        ∙ ap bit (regroup (path_true row literals) (tree_true row part sign) (each_true row parts sign) fact)
      where
        regroup : (p a b c : Bool) → (p && (a && (b && c))) ≡ (p && ((a && b) && c))
        regroup true true b c = refl
        regroup true false b c = refl
        regroup false a b c = refl

    some_counts : {m : _} (parts : Row_of-Tree m) (sign : Bool) (literals : List Literal) (fact : Bool)
        (rest : List Literal → Found) → Counts row fact rest
        → holding row (search_some nullable parts sign literals rest).paths
        ≡ bit (path_true row literals && (some_true row parts sign && fact))
    some_counts end_of-Tree sign literals fact rest counts = none (path_true row literals)
      where
        none : (p : Bool) → 0 ≡ bit (p && false)
        none true = refl
        none false = refl
    some_counts (more_of-Tree part parts) sign literals fact rest counts =
        some_chosen (tree_standing nullable part sign literals) (path_true row literals) (tree_true row part sign)
        (some_true row parts sign) fact (some_says part sign literals) (rest literals)
        (one_step (search_some nullable parts sign literals rest))
        (both (search nullable part sign literals rest)
        (one_step (search_some nullable parts sign literals (λ more. search nullable part (not sign) more rest)))) row
        (counts literals) (some_counts parts sign literals fact rest counts)
        (holding-append row (search nullable part sign literals rest).paths
        (search_some nullable parts sign literals (λ more. search nullable part (not sign) more rest)).paths
        ∙ (λ i. search_counts part sign literals fact rest counts i
        + (some_counts parts sign literals (tree_true row part (not sign) && fact)
        (λ more. search nullable part (not sign) more rest)
        (λ more. search_counts part (not sign) more fact rest counts)
        ∙ ap (λ v. bit (path_true row literals && (some_true row parts sign && (v && fact))))
        (negation-true row part sign)) i))
