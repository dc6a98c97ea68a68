-- How many paths a search finds at most: the width of a tree is that of its constraint.
use Rattle.std.proofs.Common.{◌≡◌, ℕ, ◌+◌, ◌*◌, Bool, true, false, not, List, [], ◌∷◌, map, refl, ap, ◌∙◌}
use Rattle.helix_profile.specs.Width.{Widths, widths_of_all, widths_of_any, widths_of, widths_of_parts}
use Rattle.helix_profile.specs.declared.constraint.Constraint.{Constraint, Atom, Related, Not', AllOf', AnyOf', If', Row_of-Constraint, end_of-Constraint, more_of-Constraint, None', Some'}
use Rattle.helix_profile.specs.declared.test.Test.{Test}
use Rattle.helix_profile.specs.declared.test.Test.TheVariants as test
use Rattle.helix_tree.specs.TreeOf.{literal_of, signed_tree, signed_trees}
use Rattle.helix_tree.specs.declared.literal.Literal.{Literal}
use Rattle.helix_tree.specs.declared.literal.Literal.TheVariants.{Joined}
use Rattle.helix_tree.specs.declared.tree.Tree.{Tree, Lit, All', Any', Row_of-Tree, end_of-Tree, more_of-Tree}
use Rattle.helix_tree.specs.declared.tree.Tree.TheViews.{All, Any}
use Rattle.helix_options.specs.Inner.Literals.{signed}

abbrev pub literal_options : Literal → ℕ
literal_options (Joined relation sign false) = 3
literal_options literal = 1

abbrev mutual
  -- the options of a tree that holds, or with a false sign fails
  pub options : Tree → Bool → ℕ
  options (Lit literal) sign = literal_options (signed literal sign)
  options (All' shape parts) true = each_options parts true
  options (All' shape parts) false = some_options parts false
  options (Any' shape parts) true = some_options parts true
  options (Any' shape parts) false = each_options parts false

  pub each_options : {m : _} → Row_of-Tree m → Bool → ℕ
  each_options end_of-Tree sign = 1
  each_options (more_of-Tree part parts) sign = options part sign * each_options parts sign

  pub some_options : {m : _} → Row_of-Tree m → Bool → ℕ
  some_options end_of-Tree sign = 0
  some_options (more_of-Tree part parts) sign = options part sign + options part (not sign) * some_options parts sign

-- The widths of the tree of a constraint are those of the constraint.

abbrev tree_widths : Tree → Widths
tree_widths tree = record { own = options tree true; complement = options tree false }

All-widths : (trees : List Tree) → tree_widths (All trees) ≡ widths_of_all (map tree_widths trees)
unfolding Rattle.helix_tree.specs.declared.tree.Tree.TheBlock.hidden-the_row-Tree-0 denote.Hole.Carrier.hidden
All-widths [] = refl
All-widths (tree ∷ trees) = λ i. record {
  own = options tree true * (All-widths trees i).own;
  complement = options tree false + options tree true * (All-widths trees i).complement;
}

Any-widths : (trees : List Tree) → tree_widths (Any trees) ≡ widths_of_any (map tree_widths trees)
unfolding Rattle.helix_tree.specs.declared.tree.Tree.TheBlock.hidden-the_row-Tree-0 denote.Hole.Carrier.hidden
Any-widths [] = refl
Any-widths (tree ∷ trees) = λ i. record {
  own = options tree true + options tree false * (Any-widths trees i).own;
  complement = options tree false * (Any-widths trees i).complement;
}

test-widths : (field : ℕ) (t : Test) (sign : Bool)
    → tree_widths (Lit (literal_of field t sign)) ≡ record { own = 1; complement = 1 }
test-widths field (test.IsNull true) true = refl
test-widths field (test.IsNull true) false = refl
test-widths field (test.IsNull false) true = refl
test-widths field (test.IsNull false) false = refl
test-widths field plain sign = refl

mutual
  pub tree-widths : (c : Constraint) (sign : Bool) → tree_widths (signed_tree c sign) ≡ widths_of c sign
  tree-widths (Atom atom) sign = test-widths atom.field atom.test sign
  tree-widths (Related relation) sign = refl
  tree-widths (Not' pointer (more_of-Constraint part end_of-Constraint)) sign = tree-widths part (not sign)
  tree-widths (AllOf' shape parts) true =
      All-widths (signed_trees parts true) ∙ ap widths_of_all (parts-widths parts true)
  tree-widths (AllOf' shape parts) false =
      Any-widths (signed_trees parts false) ∙ ap widths_of_any (parts-widths parts false)
  tree-widths (AnyOf' shape parts) true =
      Any-widths (signed_trees parts true) ∙ ap widths_of_any (parts-widths parts true)
  tree-widths (AnyOf' shape parts) false =
      All-widths (signed_trees parts false) ∙ ap widths_of_all (parts-widths parts false)
  tree-widths (If' pointer (more_of-Constraint condition end_of-Constraint) other_pointer
      (more_of-Constraint consequent end_of-Constraint) None') true =
      Any-widths (All (signed_tree condition true ∷ signed_tree consequent true ∷ [])
      ∷ signed_tree condition false ∷ [])
      ∙ (λ i. widths_of_any ((All-widths (signed_tree condition true ∷ signed_tree consequent true ∷ [])
      ∙ (λ j. widths_of_all (tree-widths condition true j ∷ tree-widths consequent true j ∷ []))) i
      ∷ tree-widths condition false i ∷ []))
  tree-widths (If' pointer (more_of-Constraint condition end_of-Constraint) other_pointer
      (more_of-Constraint consequent end_of-Constraint) None') false =
      All-widths (signed_tree condition true ∷ signed_tree consequent false ∷ [])
      ∙ (λ j. widths_of_all (tree-widths condition true j ∷ tree-widths consequent false j ∷ []))
  tree-widths (If' pointer (more_of-Constraint condition end_of-Constraint) other_pointer
      (more_of-Constraint consequent end_of-Constraint)
      (Some' else_pointer (more_of-Constraint other end_of-Constraint))) sign =
      Any-widths (All (signed_tree condition true ∷ signed_tree consequent sign ∷ [])
      ∷ All (signed_tree condition false ∷ signed_tree other sign ∷ []) ∷ [])
      ∙ (λ i. widths_of_any ((All-widths (signed_tree condition true ∷ signed_tree consequent sign ∷ [])
      ∙ (λ j. widths_of_all (tree-widths condition true j ∷ tree-widths consequent sign j ∷ []))) i
      ∷ (All-widths (signed_tree condition false ∷ signed_tree other sign ∷ [])
      ∙ (λ j. widths_of_all (tree-widths condition false j ∷ tree-widths other sign j ∷ []))) i ∷ []))

  parts-widths : {m : _} (parts : Row_of-Constraint m) (sign : Bool)
      → map tree_widths (signed_trees parts sign) ≡ widths_of_parts parts sign
  parts-widths end_of-Constraint sign = refl
  parts-widths (more_of-Constraint part parts) sign = λ i. tree-widths part sign i ∷ parts-widths parts sign i
