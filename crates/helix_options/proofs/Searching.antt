-- Searches over the parts of a tree, over more demands and over more branches, as code sees them.
use Rattle.std.proofs.Common.{◌≡◌, Bool, true, false, not, List, [], ◌∷◌, ◌++◌, refl, sym, ap, ◌∙◌, append_assoc, add_assoc, add-zero, zero-add, append-nil}
use Rattle.std.proofs.Math.Path.{fun_ext}
use Rattle.helix_tree.specs.declared.literal.Literal.{Literal}
use Rattle.helix_tree.specs.declared.tree.Tree.{Tree, All', Any'}
use Rattle.helix_tree.specs.declared.tree.Tree.TheViews.{All, Any}
use Rattle.helix_options.specs.Inner.Search.{Found, nothing, both, one_step, by_standing, tree_standing, search, search_each, search_some, each_of, one_of, search_all, found_by, found_by_all}
use Rattle.helix_options.specs.declared.branch.Branch.{Branch}
use Rattle.helix_options.specs.declared.branch.Demand.{Demand}

-- the searches of the parts of a tree

each_inside : List Bool → Tree → Bool → List Literal → (List Literal → Found) → Found
each_inside nullable (All' shape parts) sign literals rest = search_each nullable parts sign literals rest
each_inside nullable (Any' shape parts) sign literals rest = search_each nullable parts sign literals rest
each_inside nullable other sign literals rest = nothing

one_inside : List Bool → Tree → Bool → List Literal → (List Literal → Found) → Found
one_inside nullable (All' shape parts) sign literals rest = search_some nullable parts sign literals rest
one_inside nullable (Any' shape parts) sign literals rest = search_some nullable parts sign literals rest
one_inside nullable other sign literals rest = nothing

each-All : (nullable : List Bool) (parts : List Tree) (sign : Bool) (literals : List Literal)
    (rest : List Literal → Found)
    → each_of nullable parts sign literals rest ≡ each_inside nullable (All parts) sign literals rest
unfolding each_inside Rattle.helix_tree.specs.declared.tree.Tree.TheBlock.hidden-the_row-Tree-0
    denote.Hole.Carrier.hidden
each-All nullable [] sign literals rest = refl
each-All nullable (part ∷ parts) sign literals rest =
    ap (search nullable part sign literals) (fun_ext (λ more. each-All nullable parts sign more rest))

each-Any : (nullable : List Bool) (parts : List Tree) (sign : Bool) (literals : List Literal)
    (rest : List Literal → Found)
    → each_of nullable parts sign literals rest ≡ each_inside nullable (Any parts) sign literals rest
unfolding each_inside Rattle.helix_tree.specs.declared.tree.Tree.TheBlock.hidden-the_row-Tree-0
    denote.Hole.Carrier.hidden
each-Any nullable [] sign literals rest = refl
each-Any nullable (part ∷ parts) sign literals rest =
    ap (search nullable part sign literals) (fun_ext (λ more. each-Any nullable parts sign more rest))

one-All : (nullable : List Bool) (parts : List Tree) (sign : Bool) (literals : List Literal)
    (rest : List Literal → Found)
    → one_of nullable parts sign literals rest ≡ one_inside nullable (All parts) sign literals rest
unfolding one_inside Rattle.helix_tree.specs.declared.tree.Tree.TheBlock.hidden-the_row-Tree-0
    denote.Hole.Carrier.hidden
one-All nullable [] sign literals rest = refl
one-All nullable (part ∷ parts) sign literals rest =
    λ i. by_standing (tree_standing nullable part sign literals) (rest literals)
    (one_step (one-All nullable parts sign literals rest i))
    (both (search nullable part sign literals rest)
    (one_step (one-All nullable parts sign literals (λ more. search nullable part (not sign) more rest) i)))

one-Any : (nullable : List Bool) (parts : List Tree) (sign : Bool) (literals : List Literal)
    (rest : List Literal → Found)
    → one_of nullable parts sign literals rest ≡ one_inside nullable (Any parts) sign literals rest
unfolding one_inside Rattle.helix_tree.specs.declared.tree.Tree.TheBlock.hidden-the_row-Tree-0
    denote.Hole.Carrier.hidden
one-Any nullable [] sign literals rest = refl
one-Any nullable (part ∷ parts) sign literals rest =
    λ i. by_standing (tree_standing nullable part sign literals) (rest literals)
    (one_step (one-Any nullable parts sign literals rest i))
    (both (search nullable part sign literals rest)
    (one_step (one-Any nullable parts sign literals (λ more. search nullable part (not sign) more rest) i)))

module _ (nullable : List Bool) (parts : List Tree) (literals : List Literal) (rest : List Literal → Found) where
  all_plus : one_step (each_inside nullable (All parts) true literals rest)
      ≡ search nullable (All parts) true literals rest
  unfolding each_inside Rattle.helix_tree.specs.declared.tree.Tree.TheBlock.hidden-the_row-Tree-0
      denote.Hole.Carrier.hidden
  all_plus = refl

  all_minus : one_step (one_inside nullable (All parts) false literals rest)
      ≡ search nullable (All parts) false literals rest
  unfolding one_inside Rattle.helix_tree.specs.declared.tree.Tree.TheBlock.hidden-the_row-Tree-0
      denote.Hole.Carrier.hidden
  all_minus = refl

  any_plus : one_step (one_inside nullable (Any parts) true literals rest)
      ≡ search nullable (Any parts) true literals rest
  unfolding one_inside Rattle.helix_tree.specs.declared.tree.Tree.TheBlock.hidden-the_row-Tree-0
      denote.Hole.Carrier.hidden
  any_plus = refl

  any_minus : one_step (each_inside nullable (Any parts) false literals rest)
      ≡ search nullable (Any parts) false literals rest
  unfolding each_inside Rattle.helix_tree.specs.declared.tree.Tree.TheBlock.hidden-the_row-Tree-0
      denote.Hole.Carrier.hidden
  any_minus = refl

  pub search-All-plus : one_step (each_of nullable parts true literals rest)
      ≡ search nullable (All parts) true literals rest
  search-All-plus = ap one_step (each-All nullable parts true literals rest) ∙ all_plus

  pub search-All-minus : one_step (one_of nullable parts false literals rest)
      ≡ search nullable (All parts) false literals rest
  search-All-minus = ap one_step (one-All nullable parts false literals rest) ∙ all_minus

  pub search-Any-plus : one_step (one_of nullable parts true literals rest)
      ≡ search nullable (Any parts) true literals rest
  search-Any-plus = ap one_step (one-Any nullable parts true literals rest) ∙ any_plus

  pub search-Any-minus : one_step (each_of nullable parts false literals rest)
      ≡ search nullable (Any parts) false literals rest
  search-Any-minus = ap one_step (each-Any nullable parts false literals rest) ∙ any_minus

-- more demands come first
pub search_all-append : (nullable : List Bool) (demands more : List Demand) (rest : List Literal → Found)
    (literals : List Literal)
    → search_all nullable (demands ++ more) rest literals
    ≡ search_all nullable more (search_all nullable demands rest) literals
search_all-append nullable [] more rest literals = refl
search_all-append nullable (demand ∷ demands) more rest literals =
    search_all-append nullable demands more (λ after. search nullable demand.tree demand.sign after rest) literals

-- joined findings

pub nothing-both : (found : Found) → both nothing found ≡ found
nothing-both found = λ i. record { paths = found.paths; steps = zero-add found.steps i }

pub both-nothing : (found : Found) → both found nothing ≡ found
both-nothing found = λ i. record { paths = append-nil found.paths i; steps = add-zero found.steps i }

pub both_assoc : (a b c : Found) → both (both a b) c ≡ both a (both b c)
both_assoc a b c = λ i. record {
  paths = append_assoc a.paths b.paths c.paths i;
  steps = add_assoc a.steps b.steps c.steps i;
}

-- more branches come first
pub found_by_all-append : (nullable : List Bool) (branches more : List Branch)
    → found_by_all nullable (branches ++ more) ≡ both (found_by_all nullable more) (found_by_all nullable branches)
found_by_all-append nullable [] more = sym (both-nothing (found_by_all nullable more))
found_by_all-append nullable (branch ∷ branches) more =
    ap (λ found. both found (found_by nullable branch)) (found_by_all-append nullable branches more)
    ∙ both_assoc (found_by_all nullable more) (found_by_all nullable branches) (found_by nullable branch)
