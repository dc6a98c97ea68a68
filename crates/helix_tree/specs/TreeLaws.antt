-- Trees over the lists of their parts, trees of constraints, and the exact complement of a tree: lemmas for this crate
-- and those above.
use Rattle.std.proofs.Common.{◌≡◌, ◌↔◌, ◌⊎◌, inl, inr, ⊎_elim, Bool, true, false, not, MatchBool, List, [], ◌∷◌, refl}
use Rattle.helix_values.specs.declared.cell.Cell.{Cell}
use Rattle.helix_profile.specs.Satisfaction.{cell_at, is_null, Signed, TestSatisfied, Satisfies, EachSatisfied, SomeSatisfied}
use Rattle.helix_profile.specs.declared.constraint.Constraint.{Constraint, Atom, Related, Not', AllOf', AnyOf', If', Row_of-Constraint, end_of-Constraint, more_of-Constraint, None', Some'}
use Rattle.helix_profile.specs.declared.test.Test.{Test}
use Rattle.helix_profile.specs.declared.test.Test.TheVariants as test
use Rattle.helix_tree.specs.DecisionLaws.{dec_true, dec_false, dec_both, dec_either, dec_not, dec_match}
use Rattle.helix_tree.specs.TestDecisionLaws.{dec_holds, dec_related}
use Rattle.helix_tree.specs.Tree.{AtNull, HoldsAt, LiteralHolds, TreeHolds, EachPartHolds, SomePartHolds, AllHold, AnyHold}
use Rattle.helix_tree.specs.TreeOf.{literal_of, joined_tree, signed_tree, signed_trees, opposite, strict_negation, strict_negations}
use Rattle.helix_tree.specs.declared.literal.Literal.{Literal}
use Rattle.helix_tree.specs.declared.literal.Literal.TheVariants as literal
use Rattle.helix_tree.specs.declared.tree.Tree.{Tree, Lit, All', Any', Row_of-Tree, end_of-Tree, more_of-Tree}
use Rattle.helix_tree.specs.declared.tree.Tree.TheViews.{All, Any}

-- the parts of a tree are those of a list
pub All-parts : (trees : List Tree) (row : List Cell) → TreeHolds (All trees) row ↔ AllHold trees row
unfolding Rattle.helix_tree.specs.declared.tree.Tree.TheBlock.hidden-the_row-Tree-0 denote.Hole.Carrier.hidden
All-parts [] row = ((λ h. h), (λ h. h))
All-parts (tree ∷ trees) row = let others = All-parts trees row in
    ((λ h. (h.0, others.0 h.1)), (λ h. (h.0, others.1 h.1)))

pub Any-parts : (trees : List Tree) (row : List Cell) → TreeHolds (Any trees) row ↔ AnyHold trees row
unfolding Rattle.helix_tree.specs.declared.tree.Tree.TheBlock.hidden-the_row-Tree-0 denote.Hole.Carrier.hidden
Any-parts [] row = ((λ h. h), (λ h. h))
Any-parts (tree ∷ trees) row = let others = Any-parts trees row in
    (⊎_elim inl (λ h. inr (others.0 h)), ⊎_elim inl (λ h. inr (others.1 h)))

joined : (trees : List Tree) (row : List Cell) → TreeHolds (joined_tree trees) row ↔ AllHold trees row
joined [] row = All-parts [] row
joined (tree ∷ []) row = ((λ h. (h, tt)), (λ h. h.0))
joined (tree ∷ other ∷ trees) row = All-parts (tree ∷ other ∷ trees) row

-- one equivalence after another
abbrev after : {A B C : Type 0} → (A ↔ B) → (B ↔ C) → A ↔ C
after one two = ((λ a. two.0 (one.0 a)), (λ c. one.1 (two.1 c)))

-- The tree of a constraint holds where the constraint is satisfied.

literal_means : (field : _) (t : Test) (row : List Cell) (sign : Bool)
    → LiteralHolds (literal_of field t sign) row ↔ TestSatisfied t (cell_at row field) sign
literal_means field (test.IsNull true) row true = ((λ h. h), (λ h. h))
literal_means field (test.IsNull true) row false = ((λ h. h), (λ h. h))
literal_means field (test.IsNull false) row true = ((λ h. h), (λ h. h))
literal_means field (test.IsNull false) row false = ((λ h. h), (λ h. h))
literal_means field plain row sign = ((λ h. h), (λ h. h))

-- the parts of a `not` and of an `if`
join_mean : {m : _} (parts : Row_of-Constraint m) (row : List Cell) (sign : Bool)
    → (AllHold (signed_trees parts sign) row ↔ EachSatisfied parts row sign)
    → TreeHolds (joined_tree (signed_trees parts sign)) row ↔ EachSatisfied parts row sign
join_mean parts row sign mean = after (joined (signed_trees parts sign) row) mean

mutual
  pub tree_means : (c : Constraint) (row : List Cell) (sign : Bool)
      → TreeHolds (signed_tree c sign) row ↔ Satisfies c row sign
  tree_means (Atom atom) row sign = literal_means atom.field atom.test row sign
  tree_means (Related relation) row sign = ((λ h. h), (λ h. h))
  tree_means (Not' pointer negated) row true = join_mean negated row false (all_mean negated row false)
  tree_means (Not' pointer negated) row false = join_mean negated row true (all_mean negated row true)
  tree_means (AllOf' shape parts) row true = after (All-parts (signed_trees parts true) row) (all_mean parts row true)
  tree_means (AllOf' shape parts) row false =
      after (Any-parts (signed_trees parts false) row) (any_mean parts row false)
  tree_means (AnyOf' shape parts) row true = after (Any-parts (signed_trees parts true) row) (any_mean parts row true)
  tree_means (AnyOf' shape parts) row false =
      after (All-parts (signed_trees parts false) row) (all_mean parts row false)
  tree_means (If' pointer condition other_pointer consequent None') row true =
      let met = join_mean condition row true (all_mean condition row true) in
      let unmet = join_mean condition row false (all_mean condition row false) in
      let then = join_mean consequent row true (all_mean consequent row true) in
      let both = All-parts (joined_tree (signed_trees condition true) ∷ joined_tree (signed_trees consequent true) ∷ [])
      row in
      after (Any-parts (All (joined_tree (signed_trees condition true) ∷ joined_tree (signed_trees consequent true) ∷
      [])
      ∷ joined_tree (signed_trees condition false) ∷ []) row) (
        ⊎_elim (λ h. let parts = both.0 h in inl (met.0 parts.0, then.0 parts.1.0))
            (⊎_elim (λ h. inr (unmet.0 h, tt)) (λ none. absurd none)),
        ⊎_elim (λ h. inl (both.1 (met.1 h.0, (then.1 h.1, tt)))) (λ h. inr (inl (unmet.1 h.0))),
      )
  tree_means (If' pointer condition other_pointer consequent None') row false =
      let met = join_mean condition row true (all_mean condition row true) in
      let then = join_mean consequent row false (all_mean consequent row false) in
      after (All-parts (joined_tree (signed_trees condition true) ∷ joined_tree (signed_trees consequent false) ∷ [])
      row)
      ((λ h. inl (met.0 h.0, then.0 h.1.0)), ⊎_elim (λ h. (met.1 h.0, (then.1 h.1, tt))) (λ none. absurd none.1))
  tree_means (If' pointer condition other_pointer consequent (Some' else_pointer other)) row sign =
      let met = join_mean condition row true (all_mean condition row true) in
      let unmet = join_mean condition row false (all_mean condition row false) in
      let then = join_mean consequent row sign (all_mean consequent row sign) in
      let otherwise = join_mean other row sign (all_mean other row sign) in
      let both = All-parts (joined_tree (signed_trees condition true) ∷ joined_tree (signed_trees consequent sign) ∷ [])
      row in
      let rest = All-parts (joined_tree (signed_trees condition false) ∷ joined_tree (signed_trees other sign) ∷ [])
      row in
      after (Any-parts (All (joined_tree (signed_trees condition true) ∷ joined_tree (signed_trees consequent sign) ∷
      [])
      ∷ All (joined_tree (signed_trees condition false) ∷ joined_tree (signed_trees other sign) ∷ []) ∷ []) row) (
        ⊎_elim (λ h. let parts = both.0 h in inl (met.0 parts.0, then.0 parts.1.0))
            (⊎_elim (λ h. let parts = rest.0 h in inr (unmet.0 parts.0, otherwise.0 parts.1.0)) (λ none. absurd none)),
        ⊎_elim (λ h. inl (both.1 (met.1 h.0, (then.1 h.1, tt))))
            (λ h. inr (inl (rest.1 (unmet.1 h.0, (otherwise.1 h.1, tt))))),
      )

  all_mean : {m : _} (parts : Row_of-Constraint m) (row : List Cell) (sign : Bool)
      → AllHold (signed_trees parts sign) row ↔ EachSatisfied parts row sign
  all_mean end_of-Constraint row sign = ((λ h. h), (λ h. h))
  all_mean (more_of-Constraint part parts) row sign =
      let first = tree_means part row sign in
      let others = all_mean parts row sign in
      ((λ h. (first.0 h.0, others.0 h.1)), (λ h. (first.1 h.0, others.1 h.1)))

  any_mean : {m : _} (parts : Row_of-Constraint m) (row : List Cell) (sign : Bool)
      → AnyHold (signed_trees parts sign) row ↔ SomeSatisfied parts row sign
  any_mean end_of-Constraint row sign = ((λ h. h), (λ h. h))
  any_mean (more_of-Constraint part parts) row sign =
      let first = tree_means part row sign in
      let others = any_mean parts row sign in
      (⊎_elim (λ h. inl (first.0 h)) (λ h. inr (others.0 h)), ⊎_elim (λ h. inl (first.1 h)) (λ h. inr (others.1 h)))

-- A literal holds or doesn't, and so with a tree.

dec_at_null : (strict : Bool) → Dec (AtNull strict)
dec_at_null true = no (λ none. none)
dec_at_null false = yes tt

dec_at : (strict : Bool) (c : Cell) (Fact : Type 0) → Dec Fact → Dec (HoldsAt strict c Fact)
dec_at strict c Fact fact = dec_match (is_null c) (AtNull strict) Fact (dec_at_null strict) fact

dec_signed : (sign : Bool) (Fact : Type 0) → Dec Fact → Dec (Signed sign Fact)
dec_signed sign Fact fact = dec_match sign Fact (¬ Fact) fact (dec_not fact)

pub dec_literal : (l : Literal) (row : List Cell) → Dec (LiteralHolds l row)
dec_literal (literal.Null field) row = dec_true (is_null (cell_at row field))
dec_literal (literal.NotNull field) row = dec_false (is_null (cell_at row field))
dec_literal (literal.Plain atom sign strict) row =
    dec_at strict (cell_at row atom.field) _ (dec_signed sign _ (dec_holds atom.test (cell_at row atom.field)))
dec_literal (literal.Joined relation sign strict) row =
    dec_at strict (cell_at row relation.left) _ (dec_at strict (cell_at row relation.right) _
    (dec_signed sign _ (dec_related relation (cell_at row relation.left) (cell_at row relation.right))))

mutual
  pub dec_tree : (tree : Tree) (row : List Cell) → Dec (TreeHolds tree row)
  dec_tree (Lit l) row = dec_literal l row
  dec_tree (All' shape parts) row = dec_each parts row
  dec_tree (Any' shape parts) row = dec_some parts row

  dec_each : {m : _} (parts : Row_of-Tree m) (row : List Cell) → Dec (EachPartHolds parts row)
  dec_each end_of-Tree row = yes tt
  dec_each (more_of-Tree part parts) row = dec_both (dec_tree part row) (dec_each parts row)

  dec_some : {m : _} (parts : Row_of-Tree m) (row : List Cell) → Dec (SomePartHolds parts row)
  dec_some end_of-Tree row = no (λ none. none)
  dec_some (more_of-Tree part parts) row = dec_either (dec_tree part row) (dec_some parts row)

-- The opposite of a literal holds exactly where the literal doesn't, and the strict negation of a tree where the tree
-- doesn't.

null_or_not : (b : Bool) → (b ≡ false) ↔ ¬ (b ≡ true)
null_or_not true = ((λ e. cc), (λ none. absurd (none refl)))
null_or_not false = ((λ e other. cc other), (λ none. refl))

not_null_or_null : (b : Bool) → (b ≡ true) ↔ ¬ (b ≡ false)
not_null_or_null true = ((λ e other. cc other), (λ none. refl))
not_null_or_null false = ((λ e. cc), (λ none. absurd (none refl)))

opposite_sign : (sign : Bool) (Fact : Type 0) → Dec Fact → Signed (not sign) Fact ↔ ¬ Signed sign Fact
opposite_sign true Fact fact = ((λ h. h), (λ h. h))
opposite_sign false Fact (yes fact) = ((λ h none. none h), (λ h. fact))
opposite_sign false Fact (no none) = ((λ h other. other h), (λ h. absurd (h none)))

opposite_at : (strict null : Bool) (Fact Other : Type 0) → (Other ↔ ¬ Fact)
    → MatchBool null (AtNull (not strict)) Other ↔ ¬ MatchBool null (AtNull strict) Fact
opposite_at true true Fact Other law = ((λ h none. none), (λ h. tt))
opposite_at false true Fact Other law = ((λ h. absurd h), (λ h. h tt))
opposite_at strict false Fact Other law = law

pub opposite_complement : (l : Literal) (row : List Cell) → LiteralHolds (opposite l) row ↔ ¬ LiteralHolds l row
opposite_complement (literal.Null field) row = null_or_not (is_null (cell_at row field))
opposite_complement (literal.NotNull field) row = not_null_or_null (is_null (cell_at row field))
opposite_complement (literal.Plain atom sign strict) row =
    opposite_at strict (is_null (cell_at row atom.field)) _ _
    (opposite_sign sign _ (dec_holds atom.test (cell_at row atom.field)))
opposite_complement (literal.Joined relation sign strict) row =
    opposite_at strict (is_null (cell_at row relation.left)) _ _
    (opposite_at strict (is_null (cell_at row relation.right)) _ _
    (opposite_sign sign _ (dec_related relation (cell_at row relation.left) (cell_at row relation.right))))

either_fails : (A B N M : Type 0) → Dec A → (N ↔ ¬ A) → (M ↔ ¬ B) → (N ⊎ M) ↔ ¬ (A × B)
either_fails A B N M (yes a) one two =
    (⊎_elim (λ n both. one.0 n both.0) (λ m both. two.0 m both.1), (λ none. inr (two.1 (λ b. none (a, b)))))
either_fails A B N M (no none) one two =
    (⊎_elim (λ n both. one.0 n both.0) (λ m both. two.0 m both.1), (λ not_both. inl (one.1 none)))

both_fail : (A B N M : Type 0) → (N ↔ ¬ A) → (M ↔ ¬ B) → (N × M) ↔ ¬ (A ⊎ B)
both_fail A B N M one two = (
  (λ both. ⊎_elim (one.0 both.0) (two.0 both.1)),
  (λ none. (one.1 (λ a. none (inl a)), two.1 (λ b. none (inr b)))),
)

mutual
  pub strict_complement : (tree : Tree) (row : List Cell) → TreeHolds (strict_negation tree) row ↔ ¬ TreeHolds tree row
  strict_complement (Lit l) row = opposite_complement l row
  strict_complement (All' shape parts) row = after (Any-parts (strict_negations parts) row) (some_fails parts row)
  strict_complement (Any' shape parts) row = after (All-parts (strict_negations parts) row) (each_fails parts row)

  some_fails : {m : _} (parts : Row_of-Tree m) (row : List Cell)
      → AnyHold (strict_negations parts) row ↔ ¬ EachPartHolds parts row
  some_fails end_of-Tree row = ((λ h. absurd h), (λ h. h tt))
  some_fails (more_of-Tree part parts) row =
      either_fails (TreeHolds part row) (EachPartHolds parts row) (TreeHolds (strict_negation part) row)
      (AnyHold (strict_negations parts) row) (dec_tree part row) (strict_complement part row) (some_fails parts row)

  each_fails : {m : _} (parts : Row_of-Tree m) (row : List Cell)
      → AllHold (strict_negations parts) row ↔ ¬ SomePartHolds parts row
  each_fails end_of-Tree row = ((λ h none. none), (λ h. tt))
  each_fails (more_of-Tree part parts) row =
      both_fail (TreeHolds part row) (SomePartHolds parts row) (TreeHolds (strict_negation part) row)
      (AllHold (strict_negations parts) row) (strict_complement part row) (each_fails parts row)
