-- The literals of the paths that a search finds are those of its tree, or say whether an end of a relation is null.
use Rattle.std.proofs.Common.{refl, ℕ, Bool, true, false, not, List, [], ◌∷◌, ◌++◌}
use Rattle.std.specs.List.{AllByRecursion}
use Rattle.helix_profile.specs.declared.field.Field.{Field}
use Rattle.helix_profile.specs.declared.relation.Relation.{Relation}
use Rattle.helix_tree.specs.declared.literal.Literal.{Literal}
use Rattle.helix_tree.specs.declared.literal.Literal.TheVariants.{Null, NotNull, Plain, Joined}
use Rattle.helix_tree.specs.declared.tree.Tree.{Tree, Lit, All', Any', Row_of-Tree, end_of-Tree, more_of-Tree}
use Rattle.helix_options.specs.Literals.{IsRelationOf, IsLiteralOf}
use Rattle.helix_options.specs.Inner.Literals.{signed, standing_of}
use Rattle.helix_options.specs.Inner.Search.{Found, nothing, both, one_step, by_standing, with_literal, with_relation, with_open, tree_standing, search, search_each, search_some, search_all}
use Rattle.helix_options.specs.declared.branch.Demand.{Demand}
use Rattle.helix_options.specs.declared.standing.Standing.{Standing}
use Rattle.helix_options.specs.declared.standing.Standing.TheVariants.{Implied, Refuted, Open}

pub all-append : {T : Type 0} (P : T → Type 0) (xs ys : List T) → AllByRecursion P xs → AllByRecursion P ys
    → AllByRecursion P (xs ++ ys)
all-append P [] ys all more = more
all-append P (x ∷ xs) ys all more = (all.0, all-append P xs ys all.1 more)

pub all-parts : {T : Type 0} (P : T → Type 0) (xs ys : List T) → AllByRecursion P (xs ++ ys)
    → AllByRecursion P xs × AllByRecursion P ys
all-parts P [] ys all = (tt, all)
all-parts P (x ∷ xs) ys all = let others = all-parts P xs ys all.1 in ((all.0, others.0), others.1)

module _ (fields : List Field) (part : List ℕ) (relations : List Relation) where
  abbrev Valid : Literal → Type 0
  Valid literal = IsLiteralOf fields part relations literal

  -- the same of a literal of a tree, whose relations may be weak
  abbrev InTree : Literal → Type 0
  InTree (Joined relation sign strict) = IsRelationOf fields part relations relation
  InTree other = Valid other

  abbrev mutual
    -- all literals of a tree are valid
    pub TreeValid : Tree → Type 0
    TreeValid (Lit literal) = InTree literal
    TreeValid (All' shape parts) = PartsValid parts
    TreeValid (Any' shape parts) = PartsValid parts

    pub PartsValid : {m : _} → Row_of-Tree m → Type 0
    PartsValid end_of-Tree = Unit {0}
    PartsValid (more_of-Tree tree trees) = TreeValid tree × PartsValid trees

  abbrev pub PathsValid : Found → Type 0
  PathsValid found = AllByRecursion (λ path. AllByRecursion Valid path) found.paths

  abbrev pub Keeps : (List Literal → Found) → Type 0
  Keeps rest = (literals : List Literal) → AllByRecursion Valid literals → PathsValid (rest literals)

  signed-valid : (literal : Literal) (sign : Bool) → InTree literal → InTree (signed literal sign)
  signed-valid literal true valid = valid
  signed-valid (Null field) false valid = valid
  signed-valid (NotNull field) false valid = valid
  signed-valid (Plain atom sign strict) false valid = valid
  signed-valid (Joined relation sign strict) false valid = valid

  chosen : (standing : Standing) (implied refuted open_case : Found) → PathsValid implied → PathsValid refuted
      → PathsValid open_case → PathsValid (by_standing standing implied refuted open_case)
  chosen Implied implied refuted open_case i r o = i
  chosen Refuted implied refuted open_case i r o = r
  chosen Open implied refuted open_case i r o = o

  joined : (first second : Found) → PathsValid first → PathsValid second → PathsValid (both first second)
  joined first second one two = all-append (λ path. AllByRecursion Valid path) first.paths second.paths one two

  pushed : (literals : List Literal) (literal : Literal) → AllByRecursion Valid literals → Valid literal
      → AllByRecursion Valid (literals ++ literal ∷ [])
  pushed literals literal all valid = all-append Valid literals (literal ∷ []) all (valid, tt)

  module _ (nullable : List Bool) where
    literal_valid : (literal : Literal) (literals : List Literal) (rest : List Literal → Found) → Valid literal
        → AllByRecursion Valid literals → Keeps rest → PathsValid (with_literal nullable literal literals rest)
    literal_valid literal literals rest valid all keeps = chosen (standing_of nullable literal true literals)
        (one_step (rest literals)) (one_step nothing) (one_step (rest (literals ++ literal ∷ [])))
        (keeps literals all) tt (keeps (literals ++ literal ∷ []) (pushed literals literal all valid))

    relation_valid : (relation : Relation) (sign : Bool) (literals : List Literal) (rest : List Literal → Found)
        → IsRelationOf fields part relations relation → AllByRecursion Valid literals → Keeps rest
        → PathsValid (with_relation nullable relation sign literals rest)
    relation_valid relation sign literals rest valid all keeps =
        joined (with_literal nullable (Null relation.left) literals rest)
        (both (with_literal nullable (Null relation.right) literals
        (λ more. with_literal nullable (NotNull relation.left) more rest))
        (with_literal nullable (Joined relation sign true) literals rest))
        (literal_valid (Null relation.left) literals rest valid.own_left all keeps)
        (joined (with_literal nullable (Null relation.right) literals
        (λ more. with_literal nullable (NotNull relation.left) more rest))
        (with_literal nullable (Joined relation sign true) literals rest)
        (literal_valid (Null relation.right) literals
        (λ more. with_literal nullable (NotNull relation.left) more rest) valid.own_right all
        (λ more all_more. literal_valid (NotNull relation.left) more rest valid.own_left all_more keeps))
        (literal_valid (Joined relation sign true) literals rest (refl, valid) all keeps))

    open_valid : (literal : Literal) (literals : List Literal) (rest : List Literal → Found) → InTree literal
        → AllByRecursion Valid literals → Keeps rest → PathsValid (with_open nullable literal literals rest)
    open_valid (Null field) literals rest valid all keeps =
        keeps (literals ++ Null field ∷ []) (pushed literals (Null field) all valid)
    open_valid (NotNull field) literals rest valid all keeps =
        keeps (literals ++ NotNull field ∷ []) (pushed literals (NotNull field) all valid)
    open_valid (Plain atom sign strict) literals rest valid all keeps =
        keeps (literals ++ Plain atom sign strict ∷ []) (pushed literals (Plain atom sign strict) all valid)
    open_valid (Joined relation sign true) literals rest valid all keeps =
        keeps (literals ++ Joined relation sign true ∷ [])
        (pushed literals (Joined relation sign true) all (refl, valid))
    open_valid (Joined relation sign false) literals rest valid all keeps =
        relation_valid relation sign literals rest valid all keeps

    mutual
      pub search_valid : (tree : Tree) (sign : Bool) (literals : List Literal) (rest : List Literal → Found)
          → TreeValid tree → AllByRecursion Valid literals → Keeps rest
          → PathsValid (search nullable tree sign literals rest)
      search_valid (Lit literal) sign literals rest valid all keeps =
          chosen (standing_of nullable literal sign literals)
          (one_step (rest literals)) (one_step nothing) (with_open nullable (signed literal sign) literals rest)
          (keeps literals all) tt
          (open_valid (signed literal sign) literals rest (signed-valid literal sign valid) all keeps)
      search_valid (All' shape parts) true literals rest valid all keeps =
          each_valid parts true literals rest valid all keeps
      search_valid (All' shape parts) false literals rest valid all keeps =
          some_valid parts false literals rest valid all keeps
      search_valid (Any' shape parts) true literals rest valid all keeps =
          some_valid parts true literals rest valid all keeps
      search_valid (Any' shape parts) false literals rest valid all keeps =
          each_valid parts false literals rest valid all keeps

      each_valid : {m : _} (parts : Row_of-Tree m) (sign : Bool) (literals : List Literal)
          (rest : List Literal → Found) → PartsValid parts → AllByRecursion Valid literals → Keeps rest
          → PathsValid (search_each nullable parts sign literals rest)
      each_valid end_of-Tree sign literals rest valid all keeps = keeps literals all
      each_valid (more_of-Tree tree trees) sign literals rest valid all keeps =
          search_valid tree sign literals (λ more. search_each nullable trees sign more rest) valid.0 all
          (λ more all_more. each_valid trees sign more rest valid.1 all_more keeps)

      some_valid : {m : _} (parts : Row_of-Tree m) (sign : Bool) (literals : List Literal)
          (rest : List Literal → Found) → PartsValid parts → AllByRecursion Valid literals → Keeps rest
          → PathsValid (search_some nullable parts sign literals rest)
      some_valid end_of-Tree sign literals rest valid all keeps = tt
      some_valid (more_of-Tree tree trees) sign literals rest valid all keeps =
          chosen (tree_standing nullable tree sign literals)
          (rest literals) (one_step (search_some nullable trees sign literals rest))
          (both (search nullable tree sign literals rest) (one_step (search_some nullable trees sign literals
          (λ more. search nullable tree (not sign) more rest))))
          (keeps literals all) (some_valid trees sign literals rest valid.1 all keeps)
          (joined (search nullable tree sign literals rest) (one_step (search_some nullable trees sign literals
          (λ more. search nullable tree (not sign) more rest)))
          (search_valid tree sign literals rest valid.0 all keeps)
          (some_valid trees sign literals (λ more. search nullable tree (not sign) more rest) valid.1 all
          (λ more all_more. search_valid tree (not sign) more rest valid.0 all_more keeps)))

    pub all_valid : (demands : List Demand) (rest : List Literal → Found) (literals : List Literal)
        → AllByRecursion (λ demand. TreeValid demand.tree) demands → AllByRecursion Valid literals → Keeps rest
        → PathsValid (search_all nullable demands rest literals)
    all_valid [] rest literals valid all keeps = keeps literals all
    all_valid (demand ∷ demands) rest literals valid all keeps = all_valid demands
        (λ more. search nullable demand.tree demand.sign more rest) literals valid.1 all
        (λ more all_more. search_valid demand.tree demand.sign more rest valid.0 all_more keeps)
