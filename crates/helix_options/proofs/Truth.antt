-- Whether literals, paths and trees hold in a row, as truth values.
use Rattle.std.proofs.Common.{◌≡◌, ◌↔◌, Bool, true, false, not, ◌&&◌, ◌||◌, List, [], ◌∷◌, ◌++◌, ◌⊎◌, inl, inr, ⊎_elim, refl, sym, ap, ◌∙◌}
use Rattle.std.proofs.lemmas.Bool.{false≢true}
use Rattle.helix_tree.specs.Tree.{TreeHolds, EachPartHolds, SomePartHolds}
use Rattle.helix_tree.specs.TreeLaws.{dec_literal, opposite_complement}
use Rattle.helix_tree.specs.TreeOf.{opposite}
use Rattle.helix_tree.specs.declared.literal.Literal.{Literal}
use Rattle.helix_tree.specs.declared.tree.Tree.{Tree, Lit, All', Any', Row_of-Tree, end_of-Tree, more_of-Tree}
use Rattle.helix_values.specs.declared.cell.Cell.{Cell}
use Rattle.helix_options.specs.Paths.{PathHolds}
use Rattle.helix_options.specs.Inner.Clashes.{decided}
use Rattle.helix_options.specs.Inner.Literals.{signed}

pub decided-true : {A : Type 0} (d : Dec A) → decided d ≡ true → A
decided-true (yes a) e = a
decided-true (no none) e = absurd (false≢true e)

pub true-decided : {A : Type 0} (d : Dec A) → A → decided d ≡ true
true-decided (yes a) h = refl
true-decided (no none) h = absurd (none h)

pub false-decided : {A : Type 0} (d : Dec A) → ¬ A → decided d ≡ false
false-decided (yes a) h = absurd (h a)
false-decided (no none) h = refl

pub decided-false : {A : Type 0} (d : Dec A) → decided d ≡ false → ¬ A
decided-false (yes a) e = absurd (false≢true (sym e))
decided-false (no none) e = none

-- the literal holds
abbrev pub literal_true : List Cell → Literal → Bool
literal_true row literal = decided (dec_literal literal row)

-- all literals hold
abbrev pub path_true : List Cell → List Literal → Bool
path_true row [] = true
path_true row (literal ∷ literals) = literal_true row literal && path_true row literals

abbrev mutual
  -- the tree holds, or with a false sign fails
  pub tree_true : List Cell → Tree → Bool → Bool
  tree_true row (Lit literal) true = literal_true row literal
  tree_true row (Lit literal) false = not (literal_true row literal)
  tree_true row (All' shape parts) true = each_true row parts true
  tree_true row (All' shape parts) false = some_true row parts false
  tree_true row (Any' shape parts) true = some_true row parts true
  tree_true row (Any' shape parts) false = each_true row parts false

  pub each_true : {m : _} → List Cell → Row_of-Tree m → Bool → Bool
  each_true row end_of-Tree sign = true
  each_true row (more_of-Tree part parts) sign = tree_true row part sign && each_true row parts sign

  pub some_true : {m : _} → List Cell → Row_of-Tree m → Bool → Bool
  some_true row end_of-Tree sign = false
  some_true row (more_of-Tree part parts) sign = tree_true row part sign || some_true row parts sign

-- laws of truth values

pub not-and : (a b : Bool) → (not a || not b) ≡ not (a && b)
not-and true b = refl
not-and false b = refl

pub not-or : (a b : Bool) → (not a && not b) ≡ not (a || b)
not-or true b = refl
not-or false b = refl

pub not-not : (a : Bool) → not (not a) ≡ a
not-not true = refl
not-not false = refl

pub and-left : (a b : Bool) → (a && b) ≡ true → a ≡ true
and-left true b e = refl
and-left false b e = e

pub and-right : (a b : Bool) → (a && b) ≡ true → b ≡ true
and-right true b e = e
and-right false b e = absurd (false≢true e)

pub both-true : (a b : Bool) → a ≡ true → b ≡ true → (a && b) ≡ true
both-true a b one two = ap (λ v. v && b) one ∙ two

-- the opposite of a literal
pub opposite-true : (row : List Cell) (literal : Literal)
    → literal_true row (opposite literal) ≡ not (literal_true row literal)
opposite-true row literal = by_case (literal_true row literal) refl
  where
    by_case : (b : Bool) → literal_true row literal ≡ b → literal_true row (opposite literal) ≡ not b
    by_case true e = false-decided (dec_literal (opposite literal) row)
        (λ h. (opposite_complement literal row).0 h (decided-true (dec_literal literal row) e))
    by_case false e = true-decided (dec_literal (opposite literal) row)
        ((opposite_complement literal row).1 (decided-false (dec_literal literal row) e))

pub signed-true : (row : List Cell) (literal : Literal) (sign : Bool)
    → literal_true row (signed literal sign) ≡ tree_true row (Lit literal) sign
signed-true row literal true = refl
signed-true row literal false = opposite-true row literal

mutual
  pub negation-true : (row : List Cell) (tree : Tree) (sign : Bool)
      → tree_true row tree (not sign) ≡ not (tree_true row tree sign)
  negation-true row (Lit literal) true = refl
  negation-true row (Lit literal) false = sym (not-not (literal_true row literal))
  negation-true row (All' shape parts) true = some-negated row parts true
  negation-true row (All' shape parts) false = each-negated row parts false
  negation-true row (Any' shape parts) true = each-negated row parts true
  negation-true row (Any' shape parts) false = some-negated row parts false

  some-negated : {m : _} (row : List Cell) (parts : Row_of-Tree m) (sign : Bool)
      → some_true row parts (not sign) ≡ not (each_true row parts sign)
  some-negated row end_of-Tree sign = refl
  some-negated row (more_of-Tree part parts) sign =
      (λ i. negation-true row part sign i || some-negated row parts sign i)
      ∙ not-and (tree_true row part sign) (each_true row parts sign)

  each-negated : {m : _} (row : List Cell) (parts : Row_of-Tree m) (sign : Bool)
      → each_true row parts (not sign) ≡ not (some_true row parts sign)
  each-negated row end_of-Tree sign = refl
  each-negated row (more_of-Tree part parts) sign =
      (λ i. negation-true row part sign i && each-negated row parts sign i)
      ∙ not-or (tree_true row part sign) (some_true row parts sign)

-- truth values against facts

pub either-true : (a b : Bool) → (a || b) ≡ true → (a ≡ true) ⊎ (b ≡ true)
either-true true b e = inl refl
either-true false b e = inr e

pub or-left : (a b : Bool) → a ≡ true → (a || b) ≡ true
or-left a b e = ap (λ v. v || b) e

pub or-right : (a b : Bool) → b ≡ true → (a || b) ≡ true
or-right true b e = refl
or-right false b e = e

mutual
  pub tree-true : (row : List Cell) (tree : Tree) → (tree_true row tree true ≡ true) ↔ TreeHolds tree row
  tree-true row (Lit literal) = (decided-true (dec_literal literal row), true-decided (dec_literal literal row))
  tree-true row (All' shape parts) = each-true row parts
  tree-true row (Any' shape parts) = some-true row parts

  each-true : {m : _} (row : List Cell) (parts : Row_of-Tree m)
      → (each_true row parts true ≡ true) ↔ EachPartHolds parts row
  each-true row end_of-Tree = ((λ e. tt), (λ h. refl))
  each-true row (more_of-Tree part parts) =
      let first = tree-true row part in
      let others = each-true row parts in (
        (λ e. (
          first.0 (and-left (tree_true row part true) (each_true row parts true) e),
          others.0 (and-right (tree_true row part true) (each_true row parts true) e),
        )),
        (λ h. both-true (tree_true row part true) (each_true row parts true) (first.1 h.0) (others.1 h.1)),
      )

  some-true : {m : _} (row : List Cell) (parts : Row_of-Tree m)
      → (some_true row parts true ≡ true) ↔ SomePartHolds parts row
  some-true row end_of-Tree = ((λ e. absurd (false≢true e)), (λ h. absurd h))
  some-true row (more_of-Tree part parts) =
      let first = tree-true row part in
      let others = some-true row parts in (
        (λ e. ⊎_elim (λ a. inl (first.0 a)) (λ b. inr (others.0 b))
            (either-true (tree_true row part true) (some_true row parts true) e)),
        ⊎_elim (λ h. or-left (tree_true row part true) (some_true row parts true) (first.1 h))
            (λ h. or-right (tree_true row part true) (some_true row parts true) (others.1 h)),
      )

pub path-true : (row : List Cell) (path : List Literal) → (path_true row path ≡ true) ↔ PathHolds row path
path-true row [] = ((λ e. tt), (λ h. refl))
path-true row (literal ∷ literals) =
    let others = path-true row literals in (
      (λ e. (
        decided-true (dec_literal literal row) (and-left (literal_true row literal) (path_true row literals) e),
        others.0 (and-right (literal_true row literal) (path_true row literals) e),
      )),
      (λ h. both-true (literal_true row literal) (path_true row literals)
          (true-decided (dec_literal literal row) h.0) (others.1 h.1)),
    )

pub path_true-append : (row : List Cell) (path more : List Literal)
    → path_true row (path ++ more) ≡ (path_true row path && path_true row more)
path_true-append row [] more = refl
path_true-append row (literal ∷ path) more =
    ap (λ b. literal_true row literal && b) (path_true-append row path more)
    ∙ and_assoc (literal_true row literal) (path_true row path) (path_true row more)
  where
    and_assoc : (a b c : Bool) → (a && (b && c)) ≡ ((a && b) && c)
    and_assoc true b c = refl
    and_assoc false b c = refl
