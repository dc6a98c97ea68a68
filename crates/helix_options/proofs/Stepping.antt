-- One step of a branch finds the same paths, in fewer steps.
use Rattle.std.proofs.Common.{◌≡◌, ℕ, ◌+◌, ◌<◌, Bool, true, false, not, if◌then◌else◌, List, [], ◌∷◌, ◌++◌, refl, sym, ap, subst, ◌∙◌, arith}
use Rattle.std.proofs.lemmas.List.{append-nil}
use Rattle.helix_profile.specs.declared.relation.Relation.{Relation}
use Rattle.helix_tree.specs.declared.literal.Literal.{Literal}
use Rattle.helix_tree.specs.declared.literal.Literal.TheVariants.{Null, NotNull, Joined}
use Rattle.helix_tree.specs.declared.tree.Tree.{Tree, Lit}
use Rattle.helix_tree.specs.declared.tree.Tree.TheViews.{All, Any}
use Rattle.helix_options.proofs.Searching.{search-All-minus, search-Any-plus, search_all-append, found_by_all-append, both_assoc, nothing-both}
use Rattle.helix_options.specs.Inner.Literals.{signed, standing_of}
use Rattle.helix_options.specs.Inner.Search.{Found, nothing, one_path, both, one_step, by_standing, with_relation, with_open, tree_standing, search, one_of, search_all, found_by, found_by_all, GoesOn, with_branch, with_demand, that_holds, demanding}
use Rattle.helix_options.specs.declared.branch.Branch.{Branch}
use Rattle.helix_options.specs.declared.branch.Demand.{Demand}
use Rattle.helix_options.specs.declared.standing.Standing.{Standing}
use Rattle.helix_options.specs.declared.standing.Standing.TheVariants.{Implied, Refuted, Open}
use Rattle.helix_options.proofs.Demanding.{stepped, ended, known}

module _ (nullable : List Bool) (branch : Branch) (others : List Branch) where
  abbrev rest : List Literal → Found
  rest = search_all nullable branch.demands one_path

  pub literal_implied : (literal : Literal) (sign : Bool)
      → standing_of nullable literal sign branch.literals ≡ Implied
      → GoesOn (with_demand nullable (record { tree = Lit literal; sign = sign }) branch others)
      (with_branch nullable true branch others)
  literal_implied literal sign is = stepped _ _ _
      (ap (λ standing. by_standing standing (one_step (rest branch.literals)) (one_step nothing)
      (with_open nullable (signed literal sign) branch.literals rest)) is)

  pub literal_refuted : (literal : Literal) (sign : Bool)
      → standing_of nullable literal sign branch.literals ≡ Refuted
      → GoesOn (with_demand nullable (record { tree = Lit literal; sign = sign }) branch others)
      (with_branch nullable false branch others)
  literal_refuted literal sign is = ended _ _
      (ap (λ standing. by_standing standing (one_step (rest branch.literals)) (one_step nothing)
      (with_open nullable (signed literal sign) branch.literals rest)) is)

  pub literal_open : (literal : Literal) (sign : Bool) (new : Found)
      → standing_of nullable literal sign branch.literals ≡ Open
      → GoesOn (both (with_open nullable (signed literal sign) branch.literals rest) (found_by_all nullable others)) new
      → GoesOn (with_demand nullable (record { tree = Lit literal; sign = sign }) branch others) new
  literal_open literal sign new is goes =
      subst (λ found. GoesOn (both found (found_by_all nullable others)) new)
      (ap (λ standing. by_standing standing (one_step (rest branch.literals)) (one_step nothing)
      (with_open nullable (signed literal sign) branch.literals rest)) (sym is)) goes

  -- a literal that isn't a weak relation is added
  pub literal_pushed : (literal : Literal) (new : Branch)
      → with_open nullable literal branch.literals rest ≡ one_step (rest (branch.literals ++ literal ∷ []))
      → new.literals ≡ branch.literals ++ literal ∷ [] → new.demands ≡ branch.demands
      → GoesOn (both (with_open nullable literal branch.literals rest) (found_by_all nullable others))
      (with_branch nullable true new others)
  literal_pushed literal new law literals demands = stepped _ _ _
      (law ∙ ap one_step (λ i. search_all nullable (sym demands i) one_path (sym literals i)))

  -- a branch with more demands
  more_demands : (demands : List Demand)
      → found_by nullable (demanding branch demands) ≡ search_all nullable demands rest branch.literals
  more_demands demands = search_all-append nullable branch.demands demands one_path branch.literals

  -- a weak relation splits the branch in three
  pub relation_split : (relation : Relation) (sign : Bool) (new : Branch) (all : List Branch)
      → new ≡ demanding branch (that_holds (Null relation.left) ∷ [])
      → all ≡ others ++ (demanding branch (that_holds (Joined relation sign true) ∷ [])
      ∷ demanding branch (that_holds (NotNull relation.left) ∷ that_holds (Null relation.right) ∷ []) ∷ [])
      → GoesOn (both (with_open nullable (Joined relation sign false) branch.literals rest)
      (found_by_all nullable others)) (with_branch nullable true new all)
  relation_split relation sign new all new_is all_is = known
      (with_open nullable (Joined relation sign false) branch.literals rest) (found_by_all nullable others)
      (with_branch nullable true new all)
      (both (with_relation nullable relation sign branch.literals rest) (found_by_all nullable others))
      ((λ i. both (found_by nullable (new_is i)) (found_by_all nullable (all_is i)))
      ∙ (λ i. both (more_demands (that_holds (Null relation.left) ∷ []) i)
      ((found_by_all-append nullable others (demanding branch (that_holds (Joined relation sign true) ∷ [])
      ∷ demanding branch (that_holds (NotNull relation.left) ∷ that_holds (Null relation.right) ∷ []) ∷ [])
      ∙ (λ j. both (both (nothing-both
      (more_demands (that_holds (NotNull relation.left) ∷ that_holds (Null relation.right) ∷ []) j) j)
      (more_demands (that_holds (Joined relation sign true) ∷ []) j)) (found_by_all nullable others))) i))
      ∙ sym (both_assoc
      (search_all nullable (that_holds (Null relation.left) ∷ []) rest branch.literals)
      (both (search_all nullable (that_holds (NotNull relation.left) ∷ that_holds (Null relation.right) ∷ []) rest
      branch.literals) (search_all nullable (that_holds (Joined relation sign true) ∷ []) rest branch.literals))
      (found_by_all nullable others)))
      (stepped (with_open nullable (Joined relation sign false) branch.literals rest)
      (with_relation nullable relation sign branch.literals rest) (found_by_all nullable others) refl)

  abbrev some_demand : List Tree → Bool → Demand
  some_demand parts sign = record { tree = if sign then Any parts else All parts; sign = sign }

  some_search : (parts : List Tree) (sign : Bool) (literals : List Literal) (after : List Literal → Found)
      → search nullable (some_demand parts sign).tree sign literals after
      ≡ one_step (one_of nullable parts sign literals after)
  some_search parts true literals after = sym (search-Any-plus nullable parts literals after)
  some_search parts false literals after = sym (search-All-minus nullable parts literals after)

  abbrev chosen_of : List Tree → Bool → Found
  chosen_of parts sign = both (one_step (one_of nullable parts sign branch.literals rest))
      (found_by_all nullable others)

  -- the demand of a tree of which some part has to hold
  pub one_goes_on : (demand : Demand) (parts : List Tree) (sign : Bool) (new : Found)
      → one_step (one_of nullable parts sign branch.literals rest)
      ≡ search nullable demand.tree demand.sign branch.literals rest
      → GoesOn (chosen_of parts sign) new → GoesOn (with_demand nullable demand branch others) new
  one_goes_on demand parts sign new law goes =
      subst (λ found. GoesOn (both found (found_by_all nullable others)) new) law goes

  pub none_to_choose : (parts : List Tree) (sign : Bool) → parts ≡ []
      → GoesOn (chosen_of parts sign) (with_branch nullable false branch others)
  none_to_choose parts sign empty = ended _ _ (ap (λ ps. one_step (one_of nullable ps sign branch.literals rest)) empty)

  -- the first of several parts
  abbrev by_part : Standing → Tree → List Tree → Bool → Found
  by_part standing part parts sign = by_standing standing (rest branch.literals)
      (one_step (one_of nullable parts sign branch.literals rest))
      (both (search nullable part sign branch.literals rest)
      (one_step (one_of nullable parts sign branch.literals (λ more. search nullable part (not sign) more rest))))

  first_of : (all : List Tree) (part : Tree) (parts : List Tree) (sign : Bool) (standing : Standing)
      → all ≡ part ∷ parts → tree_standing nullable part sign branch.literals ≡ standing
      → one_step (one_of nullable all sign branch.literals rest) ≡ one_step (by_part standing part parts sign)
  first_of all part parts sign standing is stands =
      ap (λ ps. one_step (one_of nullable ps sign branch.literals rest)) is
      ∙ ap (λ s. one_step (by_part s part parts sign)) stands

  pub part_implied : (all : List Tree) (part : Tree) (parts : List Tree) (sign : Bool) → all ≡ part ∷ parts
      → tree_standing nullable part sign branch.literals ≡ Implied
      → GoesOn (chosen_of all sign) (with_branch nullable true branch others)
  part_implied all part parts sign is stands = stepped _ _ _ (first_of all part parts sign Implied is stands)

  pub part_refuted : (all : List Tree) (part : Tree) (parts : List Tree) (sign : Bool) (new : Branch)
      → all ≡ part ∷ parts → tree_standing nullable part sign branch.literals ≡ Refuted
      → new ≡ demanding branch (some_demand parts sign ∷ [])
      → GoesOn (chosen_of all sign) (with_branch nullable true new others)
  part_refuted all part parts sign new is stands new_is = stepped _ _ _
      (first_of all part parts sign Refuted is stands
      ∙ ap one_step (sym (ap (found_by nullable) new_is
      ∙ (more_demands (some_demand parts sign ∷ []) ∙ some_search parts sign branch.literals rest))))

  pub last_part : (all : List Tree) (part : Tree) (sign : Bool) (new : Branch) → all ≡ part ∷ []
      → tree_standing nullable part sign branch.literals ≡ Open
      → new ≡ demanding branch (record { tree = part; sign = sign } ∷ [])
      → GoesOn (chosen_of all sign) (with_branch nullable true new others)
  last_part all part sign new is stands new_is = record {
    same = ap (λ found. found.paths ++ (found_by_all nullable others).paths)
        (ap (found_by nullable) new_is ∙ more_demands (record { tree = part; sign = sign } ∷ []))
        ∙ (ap (λ paths. paths ++ (found_by_all nullable others).paths)
        (sym (append-nil (search nullable part sign branch.literals rest).paths))
        ∙ ap (λ found. found.paths ++ (found_by_all nullable others).paths)
        (sym (first_of all part [] sign Open is stands)));
    fewer = less (found_by nullable new).steps (search nullable part sign branch.literals rest).steps _
        (found_by_all nullable others).steps
        (ap (λ found. found.steps)
        (ap (found_by nullable) new_is ∙ more_demands (record { tree = part; sign = sign } ∷ [])))
        (ap (λ found. found.steps) (first_of all part [] sign Open is stands));
  }
    where
      less : (new x old o : ℕ) → new ≡ x → old ≡ x + (0 + 1) + 1 → new + o < old + o
      less new x old o one two = omega arith

  pub first_part : (all : List Tree) (part : Tree) (parts : List Tree) (sign : Bool) (new : Branch)
      (every : List Branch) → all ≡ part ∷ parts → tree_standing nullable part sign branch.literals ≡ Open
      → new ≡ demanding branch (record { tree = part; sign = sign } ∷ [])
      → every ≡ others ++ demanding branch (record { tree = part; sign = not sign } ∷ some_demand parts sign ∷ []) ∷ []
      → GoesOn (chosen_of all sign) (with_branch nullable true new every)
  first_part all part parts sign new every is stands new_is every_is = known
      (one_step (one_of nullable all sign branch.literals rest)) (found_by_all nullable others)
      (with_branch nullable true new every) (both (by_part Open part parts sign) (found_by_all nullable others))
      ((λ i. both (found_by nullable (new_is i)) (found_by_all nullable (every_is i)))
      ∙ ((λ i. both (more_demands (record { tree = part; sign = sign } ∷ []) i)
      ((found_by_all-append nullable others
      (demanding branch (record { tree = part; sign = not sign } ∷ some_demand parts sign ∷ []) ∷ [])
      ∙ (λ j. both (nothing-both
      (more_demands (record { tree = part; sign = not sign } ∷ some_demand parts sign ∷ []) j) j)
      (found_by_all nullable others))) i))
      ∙ ((λ i. both (search nullable part sign branch.literals rest)
      (both (some_search parts sign branch.literals (λ more. search nullable part (not sign) more rest) i)
      (found_by_all nullable others)))
      ∙ sym (both_assoc (search nullable part sign branch.literals rest)
      (one_step (one_of nullable parts sign branch.literals (λ more. search nullable part (not sign) more rest)))
      (found_by_all nullable others)))))
      (stepped (one_step (one_of nullable all sign branch.literals rest)) (by_part Open part parts sign)
      (found_by_all nullable others) (first_of all part parts sign Open is stands))
