-- The paths that a branch begins, one after the other, and how many steps it takes to find them all.
use Rattle.std.specs.Prelude.{◌≡◌, ℕ, ◌+◌, ◌<◌, ◌≤◌, Option, None, Some, Bool, true, false, not, List, [], ◌∷◌, ◌++◌, map}
use Rattle.helix_profile.specs.declared.constraint.Constraint.{Constraint}
use Rattle.helix_profile.specs.declared.relation.Relation.{Relation}
use Rattle.helix_tree.specs.TreeOf.{signed_tree}
use Rattle.helix_tree.specs.declared.literal.Literal.{Literal}
use Rattle.helix_tree.specs.declared.literal.Literal.TheVariants.{Null, NotNull, Joined}
use Rattle.helix_tree.specs.declared.tree.Tree.{Tree, Lit, All', Any', Row_of-Tree, end_of-Tree, more_of-Tree}
use Rattle.helix_options.specs.Inner.Literals.{signed, standing_of}
use Rattle.helix_options.specs.declared.branch.Branch.{Branch}
use Rattle.helix_options.specs.declared.branch.Demand.{Demand}
use Rattle.helix_options.specs.declared.standing.Standing.{Standing}
use Rattle.helix_options.specs.declared.standing.Standing.TheVariants.{Implied, Refuted, Open}

-- paths, and the steps to find them
pub record Found : Type 0 where
  pub paths : List (List Literal)
  pub steps : ℕ

abbrev pub nothing : Found
nothing = record { paths = []; steps = 0 }

abbrev pub one_path : List Literal → Found
one_path literals = record { paths = literals ∷ []; steps = 0 }

abbrev pub both : Found → Found → Found
both first second = record { paths = first.paths ++ second.paths; steps = first.steps + second.steps }

abbrev pub one_step : Found → Found
one_step found = record { paths = found.paths; steps = found.steps + 1 }

-- by what the literals so far say
abbrev pub by_standing : Standing → Found → Found → Found → Found
by_standing Implied implied refuted open_case = implied
by_standing Refuted implied refuted open_case = refuted
by_standing Open implied refuted open_case = open_case

-- one more literal, other than a weak relation
abbrev pub with_literal : List Bool → Literal → List Literal → (List Literal → Found) → Found
with_literal nullable literal literals rest = by_standing (standing_of nullable literal true literals)
    (one_step (rest literals)) (one_step nothing) (one_step (rest (literals ++ literal ∷ [])))

-- a weak relation: its left end is null, or else its right end is, or else it holds of two values
abbrev pub with_relation : List Bool → Relation → Bool → List Literal → (List Literal → Found) → Found
with_relation nullable relation sign literals rest =
    both (with_literal nullable (Null relation.left) literals rest)
    (both (with_literal nullable (Null relation.right) literals
    (λ more. with_literal nullable (NotNull relation.left) more rest))
    (with_literal nullable (Joined relation sign true) literals rest))

-- a literal of which the literals so far say nothing
abbrev pub with_open : List Bool → Literal → List Literal → (List Literal → Found) → Found
with_open nullable (Joined relation sign false) literals rest =
    one_step (with_relation nullable relation sign literals rest)
with_open nullable literal literals rest = one_step (rest (literals ++ literal ∷ []))

-- what the literals so far say of a tree that is a literal, with a sign
abbrev pub tree_standing : List Bool → Tree → Bool → List Literal → Standing
tree_standing nullable (Lit literal) sign literals = standing_of nullable literal sign literals
tree_standing nullable other sign literals = Open

abbrev mutual
  -- The paths that begin with these literals, by which the tree holds, or with a false sign fails. What comes after the
  -- tree is handed in.
  pub search : List Bool → Tree → Bool → List Literal → (List Literal → Found) → Found
  search nullable (Lit literal) sign literals rest = by_standing (standing_of nullable literal sign literals)
      (one_step (rest literals)) (one_step nothing) (with_open nullable (signed literal sign) literals rest)
  search nullable (All' shape parts) true literals rest = one_step (search_each nullable parts true literals rest)
  search nullable (All' shape parts) false literals rest = one_step (search_some nullable parts false literals rest)
  search nullable (Any' shape parts) true literals rest = one_step (search_some nullable parts true literals rest)
  search nullable (Any' shape parts) false literals rest = one_step (search_each nullable parts false literals rest)

  -- each part, with the sign
  pub search_each : {m : _} → List Bool → Row_of-Tree m → Bool → List Literal → (List Literal → Found) → Found
  search_each nullable end_of-Tree sign literals rest = rest literals
  search_each nullable (more_of-Tree part parts) sign literals rest =
      search nullable part sign literals (λ more. search_each nullable parts sign more rest)

  -- Some part, with the sign: the first one; or one of the others, and the first not.
  pub search_some : {m : _} → List Bool → Row_of-Tree m → Bool → List Literal → (List Literal → Found) → Found
  search_some nullable end_of-Tree sign literals rest = nothing
  search_some nullable (more_of-Tree part parts) sign literals rest =
      by_standing (tree_standing nullable part sign literals)
      (rest literals)
      (one_step (search_some nullable parts sign literals rest))
      (both (search nullable part sign literals rest)
      (one_step (search_some nullable parts sign literals (λ more. search nullable part (not sign) more rest))))

-- the same of parts in a list
abbrev pub each_of : List Bool → List Tree → Bool → List Literal → (List Literal → Found) → Found
each_of nullable [] sign literals rest = rest literals
each_of nullable (part ∷ parts) sign literals rest =
    search nullable part sign literals (λ more. each_of nullable parts sign more rest)

abbrev pub one_of : List Bool → List Tree → Bool → List Literal → (List Literal → Found) → Found
one_of nullable [] sign literals rest = nothing
one_of nullable (part ∷ parts) sign literals rest =
    by_standing (tree_standing nullable part sign literals)
    (rest literals)
    (one_step (one_of nullable parts sign literals rest))
    (both (search nullable part sign literals rest)
    (one_step (one_of nullable parts sign literals (λ more. search nullable part (not sign) more rest))))

-- the demands of a list, of which the last is taken first
abbrev pub search_all : List Bool → List Demand → (List Literal → Found) → List Literal → Found
search_all nullable [] rest literals = rest literals
search_all nullable (demand ∷ demands) rest literals =
    search_all nullable demands (λ more. search nullable demand.tree demand.sign more rest) literals

-- the paths that a branch begins
abbrev pub found_by : List Bool → Branch → Found
found_by nullable branch = search_all nullable branch.demands one_path branch.literals

-- those of a list of branches, of which the last comes first
abbrev pub found_by_all : List Bool → List Branch → Found
found_by_all nullable [] = nothing
found_by_all nullable (branch ∷ branches) = both (found_by_all nullable branches) (found_by nullable branch)

-- the paths that are left
abbrev pub paths_left : List Bool → List Branch → List (List Literal)
paths_left nullable branches = (found_by_all nullable branches).paths

-- the same paths, found in fewer steps
pub record GoesOn (old new : Found) : Type 0 where
  pub same : new.paths ≡ old.paths
  pub fewer : new.steps < old.steps

-- the same paths, found in no more steps
pub record Keeps (old new : Found) : Type 0 where
  pub same : new.paths ≡ old.paths
  pub no_more : new.steps ≤ old.steps

-- a branch that goes on, or that has come to an end, before others
abbrev pub with_branch : List Bool → Bool → Branch → List Branch → Found
with_branch nullable true branch others = both (found_by nullable branch) (found_by_all nullable others)
with_branch nullable false branch others = found_by_all nullable others

-- a demand that is taken from a branch, before others
abbrev pub with_demand : List Bool → Demand → Branch → List Branch → Found
with_demand nullable demand branch others = both (search nullable demand.tree demand.sign branch.literals
    (search_all nullable branch.demands one_path)) (found_by_all nullable others)

-- the demand that a literal holds
abbrev pub that_holds : Literal → Demand
that_holds literal = record { tree = Lit literal; sign = true }

-- a branch with more demands, which are taken first
abbrev pub demanding : Branch → List Demand → Branch
demanding branch demands = record { literals = branch.literals; demands = branch.demands ++ demands }

-- demands for each part, of which the first part is taken first
abbrev pub demands_for : List Tree → Bool → List Demand
demands_for [] sign = []
demands_for (part ∷ parts) sign = demands_for parts sign ++ record { tree = part; sign = sign } ∷ []

-- what was found is a path and the rest; or there was no first path, and the rest takes fewer steps
abbrev pub FirstPath : Found → Option (List Literal) → Found → Type 0
FirstPath all (Some path) others = all.paths ≡ path ∷ others.paths
FirstPath all None others = (all.paths ≡ others.paths) × (others.steps < all.steps)

-- that the constraints are satisfied
abbrev pub first_demands : List Constraint → List Demand
first_demands constraints = map (λ constraint. record { tree = signed_tree constraint true; sign = true }) constraints
