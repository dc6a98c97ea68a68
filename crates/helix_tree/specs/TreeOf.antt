-- The tree of a constraint with a sign, and the strict negation of a tree.
use Rattle.std.specs.Prelude.{ℕ, Bool, true, false, not, List, [], ◌∷◌, map}
use Rattle.helix_profile.specs.declared.constraint.Constraint.{Constraint, Atom, Related, Not', AllOf', AnyOf', If', Row_of-Constraint, end_of-Constraint, more_of-Constraint, Held-Constraint-If-2, None', Some'}
use Rattle.helix_profile.specs.declared.test.Test.{Test}
use Rattle.helix_profile.specs.declared.test.Test.TheVariants as test
use Rattle.helix_tree.specs.declared.literal.Literal.{Literal}
use Rattle.helix_tree.specs.declared.literal.Literal.TheVariants.{Null, NotNull, Plain, Joined}
use Rattle.helix_tree.specs.declared.tree.Tree.{Tree, Lit, All', Any', Row_of-Tree, end_of-Tree, more_of-Tree}
use Rattle.helix_tree.specs.declared.tree.Tree.TheViews.{All, Any}

-- the literal of a test of a field with a sign: that of null looks at null itself, any other one is weak
abbrev pub literal_of : ℕ → Test → Bool → Literal
literal_of field (test.IsNull true) true = Null field
literal_of field (test.IsNull true) false = NotNull field
literal_of field (test.IsNull false) true = NotNull field
literal_of field (test.IsNull false) false = Null field
literal_of field plain sign = Plain (record { field = field; test = plain }) sign false

-- one tree for several that all hold: the only one is itself
abbrev pub joined_tree : List Tree → Tree
joined_tree [] = All []
joined_tree (tree ∷ []) = tree
joined_tree (tree ∷ other ∷ trees) = All (tree ∷ other ∷ trees)

abbrev mutual
  -- Signs go down to the tests. An `if` is any of: the condition with its `then`, the negated condition with its
  -- `else`; the negation of one without `else` is the condition with the negated `then`.
  pub signed_tree : Constraint → Bool → Tree
  signed_tree (Atom atom) sign = Lit (literal_of atom.field atom.test sign)
  signed_tree (Related relation) sign = Lit (Joined relation sign false)
  signed_tree (Not' pointer negated) sign = joined_tree (signed_trees negated (not sign))
  signed_tree (AllOf' shape parts) true = All (signed_trees parts true)
  signed_tree (AllOf' shape parts) false = Any (signed_trees parts false)
  signed_tree (AnyOf' shape parts) true = Any (signed_trees parts true)
  signed_tree (AnyOf' shape parts) false = All (signed_trees parts false)
  signed_tree (If' pointer condition other_pointer consequent otherwise) sign =
      conditional_tree (joined_tree (signed_trees condition true)) (joined_tree (signed_trees condition false))
      (joined_tree (signed_trees consequent sign)) otherwise sign

  -- the trees of parts, each with the sign
  pub signed_trees : {m : _} → Row_of-Constraint m → Bool → List Tree
  signed_trees end_of-Constraint sign = []
  signed_trees (more_of-Constraint part parts) sign = signed_tree part sign ∷ signed_trees parts sign

  -- by the `else`, where there is one
  pub conditional_tree : Tree → Tree → Tree → Held-Constraint-If-2 → Bool → Tree
  conditional_tree met unmet consequent None' true = Any (All (met ∷ consequent ∷ []) ∷ unmet ∷ [])
  conditional_tree met unmet consequent None' false = All (met ∷ consequent ∷ [])
  conditional_tree met unmet consequent (Some' pointer other) sign =
      Any (All (met ∷ consequent ∷ []) ∷ All (unmet ∷ joined_tree (signed_trees other sign) ∷ []) ∷ [])

-- the trees of a list of constraints, each with the sign
abbrev pub trees_of_all : List Constraint → Bool → List Tree
trees_of_all constraints sign = map (λ constraint. signed_tree constraint sign) constraints

-- the literal that holds exactly where this one doesn't
abbrev pub opposite : Literal → Literal
opposite (Null field) = NotNull field
opposite (NotNull field) = Null field
opposite (Plain atom sign strict) = Plain atom (not sign) (not strict)
opposite (Joined relation sign strict) = Joined relation (not sign) (not strict)

abbrev mutual
  -- the same of a tree: `All` and `Any` change places
  pub strict_negation : Tree → Tree
  strict_negation (Lit literal) = Lit (opposite literal)
  strict_negation (All' shape parts) = Any (strict_negations parts)
  strict_negation (Any' shape parts) = All (strict_negations parts)

  pub strict_negations : {m : _} → Row_of-Tree m → List Tree
  strict_negations end_of-Tree = []
  strict_negations (more_of-Tree part parts) = strict_negation part ∷ strict_negations parts

-- the strict negations of the trees of a list
abbrev pub negations_of_all : List Tree → List Tree
negations_of_all trees = map strict_negation trees
