-- A search finds at most as many paths as its tree has options, times those of what comes after it.
use Rattle.std.proofs.Common.{◌≡◌, ℕ, ◌+◌, ◌*◌, ◌≤◌, ◌⊎◌, inl, inr, ⊎_elim, Bool, true, false, not, List, [], ◌∷◌, ◌++◌, length, refl, sym, subst, arith, length-append}
use Rattle.helix_profile.specs.Width.{product_of_widths}
use Rattle.helix_profile.specs.declared.constraint.Constraint.{Constraint}
use Rattle.helix_profile.specs.declared.relation.Relation.{Relation}
use Rattle.helix_tree.specs.declared.literal.Literal.{Literal}
use Rattle.helix_tree.specs.declared.literal.Literal.TheVariants.{Null, NotNull, Plain, Joined}
use Rattle.helix_tree.specs.declared.tree.Tree.{Tree, Lit, All', Any', Row_of-Tree, end_of-Tree, more_of-Tree}
use Rattle.helix_options.proofs.Options.{literal_options, options, each_options, some_options, tree-widths}
use Rattle.helix_options.specs.Inner.Literals.{signed, standing_of}
use Rattle.helix_options.specs.Inner.Search.{Found, nothing, one_path, both, one_step, by_standing, with_literal, with_relation, with_open, search, search_each, search_some, search_all, first_demands}
use Rattle.helix_options.specs.declared.branch.Demand.{Demand}
use Rattle.helix_options.specs.declared.standing.Standing.{Standing}
use Rattle.helix_options.specs.declared.standing.Standing.TheVariants.{Implied, Refuted, Open}

abbrev pub AtMost : ℕ → Found → Type 0
AtMost n found = length found.paths ≤ n

-- whatever the literals are, what comes after finds at most so many
abbrev pub Bounds : ℕ → (List Literal → Found) → Type 0
Bounds n rest = (literals : List Literal) → AtMost n (rest literals)

chosen : (standing : Standing) (n : ℕ) (implied refuted open_case : Found) → AtMost n implied → AtMost n refuted
    → AtMost n open_case → AtMost n (by_standing standing implied refuted open_case)
chosen Implied n implied refuted open_case i r o = i
chosen Refuted n implied refuted open_case i r o = r
chosen Open n implied refuted open_case i r o = o

joined : (first second : Found) (m n : ℕ) → AtMost m first → AtMost n second → AtMost (m + n) (both first second)
joined first second m n one two = omega (arith, length-append first.paths second.paths)

one_times : (n m : ℕ) → n ≤ m → n ≤ 1 * m
one_times n m le = omega arith

three_times : (n m : ℕ) → n ≤ m + (m + m) → n ≤ 3 * m
three_times n m le = omega arith

module _ (nullable : List Bool) where
  literal_few : (literal : Literal) (literals : List Literal) (m : ℕ) (rest : List Literal → Found) → Bounds m rest
      → AtMost m (with_literal nullable literal literals rest)
  literal_few literal literals m rest bounds = chosen (standing_of nullable literal true literals) m
      (one_step (rest literals)) (one_step nothing) (one_step (rest (literals ++ literal ∷ [])))
      (bounds literals) (omega arith) (bounds (literals ++ literal ∷ []))

  relation_few : (relation : Relation) (sign : Bool) (literals : List Literal) (m : ℕ) (rest : List Literal → Found)
      → Bounds m rest → AtMost (m + (m + m)) (with_relation nullable relation sign literals rest)
  relation_few relation sign literals m rest bounds =
      joined (with_literal nullable (Null relation.left) literals rest)
      (both (with_literal nullable (Null relation.right) literals
      (λ more. with_literal nullable (NotNull relation.left) more rest))
      (with_literal nullable (Joined relation sign true) literals rest)) m (m + m)
      (literal_few (Null relation.left) literals m rest bounds)
      (joined (with_literal nullable (Null relation.right) literals
      (λ more. with_literal nullable (NotNull relation.left) more rest))
      (with_literal nullable (Joined relation sign true) literals rest) m m
      (literal_few (Null relation.right) literals m
      (λ more. with_literal nullable (NotNull relation.left) more rest)
      (λ more. literal_few (NotNull relation.left) more m rest bounds))
      (literal_few (Joined relation sign true) literals m rest bounds))

  open_few : (literal : Literal) (literals : List Literal) (m : ℕ) (rest : List Literal → Found) → Bounds m rest
      → AtMost (literal_options literal * m) (with_open nullable literal literals rest)
  open_few (Null field) literals m rest bounds = one_times _ m (bounds (literals ++ Null field ∷ []))
  open_few (NotNull field) literals m rest bounds = one_times _ m (bounds (literals ++ NotNull field ∷ []))
  open_few (Plain atom sign strict) literals m rest bounds =
      one_times _ m (bounds (literals ++ Plain atom sign strict ∷ []))
  open_few (Joined relation sign true) literals m rest bounds =
      one_times _ m (bounds (literals ++ Joined relation sign true ∷ []))
  open_few (Joined relation sign false) literals m rest bounds =
      three_times _ m (relation_few relation sign literals m rest bounds)

  -- a literal has one or three options
  one_or_three : (literal : Literal) → (literal_options literal ≡ 1) ⊎ (literal_options literal ≡ 3)
  one_or_three (Null field) = inl refl
  one_or_three (NotNull field) = inl refl
  one_or_three (Plain atom sign strict) = inl refl
  one_or_three (Joined relation sign true) = inl refl
  one_or_three (Joined relation sign false) = inr refl

  implied_part : (w : ℕ) → (w ≡ 1) ⊎ (w ≡ 3) → (n m x : ℕ) → n ≤ m → n ≤ (w + x) * m
  implied_part w is n m x le = ⊎_elim
      (λ one. subst (λ v. n ≤ (v + x) * m) (sym one) (first n m x le))
      (λ three. subst (λ v. n ≤ (v + x) * m) (sym three) (third n m x le)) is
    where
      first : (n m x : ℕ) → n ≤ m → n ≤ (1 + x) * m
      first n m x le = omega arith

      third : (n m x : ℕ) → n ≤ m → n ≤ (3 + x) * m
      third n m x le = omega arith

  refuted_part : (k : ℕ) → (k ≡ 1) ⊎ (k ≡ 3) → (w n m r : ℕ) → n ≤ r * m → n ≤ (w + k * r) * m
  refuted_part k is w n m r le = ⊎_elim
      (λ one. subst (λ v. n ≤ (w + v * r) * m) (sym one) (first w n m r le))
      (λ three. subst (λ v. n ≤ (w + v * r) * m) (sym three) (third w n m r le)) is
    where
      first : (w n m r : ℕ) → n ≤ r * m → n ≤ (w + 1 * r) * m
      first w n m r le = omega arith

      third : (w n m r : ℕ) → n ≤ r * m → n ≤ (w + 3 * r) * m
      third w n m r le = omega arith

  grouped : (a b m n : ℕ) → n ≤ a * (b * m) → n ≤ (a * b) * m
  grouped a b m n le = omega arith

  split : (w k r m n : ℕ) → n ≤ w * m + r * (k * m) → n ≤ (w + k * r) * m
  split w k r m n le = omega arith

  at_least_one : (literal : Literal) (literals : List Literal) (m : ℕ) (rest : List Literal → Found) → Bounds m rest
      → AtMost (literal_options literal * m) (one_step (rest literals))
  at_least_one literal literals m rest bounds = ⊎_elim
      (λ one. subst (λ v. AtMost (v * m) (one_step (rest literals))) (sym one) (one_times _ m (bounds literals)))
      (λ three. subst (λ v. AtMost (v * m) (one_step (rest literals))) (sym three)
      (tripled _ m (bounds literals)))
      (one_or_three literal)
    where
      tripled : (n m : ℕ) → n ≤ m → n ≤ 3 * m
      tripled n m le = omega arith

  none_at_most : (n : ℕ) → AtMost n (one_step nothing)
  none_at_most n = omega arith

  open_part : {k : _} (part : Tree) (parts : Row_of-Tree k) (sign : Bool) (literals : List Literal) (m : ℕ)
      (rest : List Literal → Found)
      → AtMost (options part sign * m) (search nullable part sign literals rest)
      → AtMost (some_options parts sign * (options part (not sign) * m))
      (search_some nullable parts sign literals (λ more. search nullable part (not sign) more rest))
      → AtMost ((options part sign + options part (not sign) * some_options parts sign) * m)
      (both (search nullable part sign literals rest) (one_step (search_some nullable parts sign literals
      (λ more. search nullable part (not sign) more rest))))
  open_part part parts sign literals m rest first later =
      split (options part sign) (options part (not sign)) (some_options parts sign) m _
      (joined (search nullable part sign literals rest) (one_step (search_some nullable parts sign literals
      (λ more. search nullable part (not sign) more rest))) _ _ first later)

  mutual
    pub search_few : (tree : Tree) (sign : Bool) (literals : List Literal) (m : ℕ) (rest : List Literal → Found)
        → Bounds m rest → AtMost (options tree sign * m) (search nullable tree sign literals rest)
    search_few (Lit literal) sign literals m rest bounds = chosen (standing_of nullable literal sign literals)
        (literal_options (signed literal sign) * m) (one_step (rest literals)) (one_step nothing)
        (with_open nullable (signed literal sign) literals rest)
        (at_least_one (signed literal sign) literals m rest bounds) (none_at_most _)
        (open_few (signed literal sign) literals m rest bounds)
    search_few (All' shape parts) true literals m rest bounds = each_few parts true literals m rest bounds
    search_few (All' shape parts) false literals m rest bounds = some_few parts false literals m rest bounds
    search_few (Any' shape parts) true literals m rest bounds = some_few parts true literals m rest bounds
    search_few (Any' shape parts) false literals m rest bounds = each_few parts false literals m rest bounds

    each_few : {k : _} (parts : Row_of-Tree k) (sign : Bool) (literals : List Literal) (m : ℕ)
        (rest : List Literal → Found)
        → Bounds m rest → AtMost (each_options parts sign * m) (search_each nullable parts sign literals rest)
    each_few end_of-Tree sign literals m rest bounds = one_times _ m (bounds literals)
    each_few (more_of-Tree part parts) sign literals m rest bounds =
        grouped (options part sign) (each_options parts sign) m _
        (search_few part sign literals (each_options parts sign * m)
        (λ more. search_each nullable parts sign more rest) (λ more. each_few parts sign more m rest bounds))

    some_few : {k : _} (parts : Row_of-Tree k) (sign : Bool) (literals : List Literal) (m : ℕ)
        (rest : List Literal → Found)
        → Bounds m rest → AtMost (some_options parts sign * m) (search_some nullable parts sign literals rest)
    some_few end_of-Tree sign literals m rest bounds = none_at_most _
    some_few (more_of-Tree (Lit literal) parts) sign literals m rest bounds =
        chosen (standing_of nullable literal sign literals) (some_options (more_of-Tree (Lit literal) parts) sign * m)
        (rest literals) (one_step (search_some nullable parts sign literals rest))
        (both (search nullable (Lit literal) sign literals rest) (one_step (search_some nullable parts sign literals
        (λ more. search nullable (Lit literal) (not sign) more rest))))
        (implied_part (literal_options (signed literal sign)) (one_or_three (signed literal sign)) _ m _
        (bounds literals))
        (refuted_part (literal_options (signed literal (not sign))) (one_or_three (signed literal (not sign))) _ _ m _
        (some_few parts sign literals m rest bounds))
        (open_part (Lit literal) parts sign literals m rest
        (search_few (Lit literal) sign literals m rest bounds)
        (some_few parts sign literals (options (Lit literal) (not sign) * m)
        (λ more. search nullable (Lit literal) (not sign) more rest)
        (λ more. search_few (Lit literal) (not sign) more m rest bounds)))
    some_few (more_of-Tree (All' shape inside) parts) sign literals m rest bounds =
        open_part (All' shape inside) parts sign literals m rest
        (search_few (All' shape inside) sign literals m rest bounds)
        (some_few parts sign literals (options (All' shape inside) (not sign) * m)
        (λ more. search nullable (All' shape inside) (not sign) more rest)
        (λ more. search_few (All' shape inside) (not sign) more m rest bounds))
    some_few (more_of-Tree (Any' shape inside) parts) sign literals m rest bounds =
        open_part (Any' shape inside) parts sign literals m rest
        (search_few (Any' shape inside) sign literals m rest bounds)
        (some_few parts sign literals (options (Any' shape inside) (not sign) * m)
        (λ more. search nullable (Any' shape inside) (not sign) more rest)
        (λ more. search_few (Any' shape inside) (not sign) more m rest bounds))

  -- the options of demands
  abbrev demand_options : List Demand → ℕ
  demand_options [] = 1
  demand_options (demand ∷ demands) = options demand.tree demand.sign * demand_options demands

  all_few : (demands : List Demand) (m : ℕ) (rest : List Literal → Found) → Bounds m rest → (literals : List Literal)
      → AtMost (demand_options demands * m) (search_all nullable demands rest literals)
  all_few [] m rest bounds literals = one_times _ m (bounds literals)
  all_few (demand ∷ demands) m rest bounds literals =
      regrouped (options demand.tree demand.sign) (demand_options demands) m _
      (all_few demands (options demand.tree demand.sign * m)
      (λ more. search nullable demand.tree demand.sign more rest)
      (λ more. search_few demand.tree demand.sign more m rest bounds) literals)
    where
      regrouped : (a b m n : ℕ) → n ≤ b * (a * m) → n ≤ (a * b) * m
      regrouped a b m n le = omega arith

  first_options : (constraints : List Constraint)
      → demand_options (first_demands constraints) ≡ product_of_widths (λ _. true) constraints
  first_options [] = refl
  first_options (constraint ∷ constraints) =
      λ i. (tree-widths constraint true i).own * first_options constraints i

  -- no more paths than the product of the widths
  pub first_few : (constraints : List Constraint)
      → AtMost (product_of_widths (λ _. true) constraints) (search_all nullable (first_demands constraints) one_path [])
  first_few constraints = subst (λ n. AtMost n (search_all nullable (first_demands constraints) one_path []))
      (first_options constraints)
      (omega (arith, all_few (first_demands constraints) 1 one_path (λ literals. omega arith) []))
