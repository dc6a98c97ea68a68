-- The tree of a valid constraint has valid literals.
use Rattle.std.proofs.Common.{ℕ, Bool, true, false, not, List, [], ◌∷◌, ◌++◌, Contains}
use Rattle.std.specs.List.{AllByRecursion}
use Rattle.helix_profile.specs.Fields.{fields_of, fields_of_parts, relations_of, relations_of_parts}
use Rattle.helix_profile.specs.Validity.{IsConstraintFor, ArePartsFor}
use Rattle.helix_profile.specs.declared.constraint.Constraint.{Constraint, Atom, Related, Not', AllOf', AnyOf', If', Row_of-Constraint, end_of-Constraint, more_of-Constraint, None', Some'}
use Rattle.helix_profile.specs.declared.field.Field.{Field}
use Rattle.helix_profile.specs.declared.relation.Relation.{Relation}
use Rattle.helix_profile.specs.declared.test.Test.{Test}
use Rattle.helix_profile.specs.declared.test.Test.TheVariants as test
use Rattle.helix_tree.specs.TreeOf.{literal_of, joined_tree, signed_tree, signed_trees}
use Rattle.helix_tree.specs.declared.tree.Tree.{Tree, Lit}
use Rattle.helix_tree.specs.declared.tree.Tree.TheViews.{All, Any}
use Rattle.helix_options.specs.Literals.{IsPlain, IsTestOf}
use Rattle.helix_options.proofs.Valid.{TreeValid, all-parts}

module _ (fields : List Field) (part : List ℕ) (relations : List Relation) where
  abbrev Meets : Tree → Type 0
  Meets tree = TreeValid fields part relations tree

  All-valid : (trees : List Tree) → AllByRecursion Meets trees → Meets (All trees)
  unfolding Rattle.helix_tree.specs.declared.tree.Tree.TheBlock.hidden-the_row-Tree-0 denote.Hole.Carrier.hidden
  All-valid [] all = tt
  All-valid (tree ∷ trees) all = (all.0, All-valid trees all.1)

  Any-valid : (trees : List Tree) → AllByRecursion Meets trees → Meets (Any trees)
  unfolding Rattle.helix_tree.specs.declared.tree.Tree.TheBlock.hidden-the_row-Tree-0 denote.Hole.Carrier.hidden
  Any-valid [] all = tt
  Any-valid (tree ∷ trees) all = (all.0, Any-valid trees all.1)

  joined-valid : (trees : List Tree) → AllByRecursion Meets trees → Meets (joined_tree trees)
  joined-valid [] all = All-valid [] all
  joined-valid (tree ∷ []) all = all.0
  joined-valid (tree ∷ other ∷ trees) all = All-valid (tree ∷ other ∷ trees) all

  test-valid : (field : ℕ) (t : Test) (sign : Bool) → Contains part field
      → (IsPlain t → IsTestOf fields part (record { field = field; test = t })) → Meets (Lit (literal_of field t sign))
  test-valid field (test.IsNull true) true own plain = own
  test-valid field (test.IsNull true) false own plain = own
  test-valid field (test.IsNull false) true own plain = own
  test-valid field (test.IsNull false) false own plain = own
  test-valid field t sign own plain = plain tt

  -- fields of the part, and relations of the list
  pub record Known (named : List ℕ) (joins : List Relation) : Type 0 where
    pub own : AllByRecursion (Contains part) named
    pub listed : AllByRecursion (Contains relations) joins

  known-parts : (named others : List ℕ) (joins more : List Relation) → Known (named ++ others) (joins ++ more)
      → Known named joins × Known others more
  known-parts named others joins more known =
      let own = all-parts (Contains part) named others known.own in
      let listed = all-parts (Contains relations) joins more known.listed in
      (record { own = own.0; listed = listed.0 }, record { own = own.1; listed = listed.1 })

  mutual
    pub tree-valid : (c : Constraint) (sign : Bool) → IsConstraintFor fields c
        → Known (fields_of c) (relations_of c) → Meets (signed_tree c sign)
    tree-valid (Atom atom) sign valid known = test-valid atom.field atom.test sign known.own.0
        (λ plain. record { own = known.own.0; plain = plain; valid = valid })
    tree-valid (Related relation) sign valid known =
        record { listed = known.listed.0; own_left = known.own.0; own_right = known.own.1.0; valid = valid }
    tree-valid (Not' pointer negated) sign valid known =
        joined-valid (signed_trees negated (not sign)) (parts-valid negated (not sign) valid known)
    tree-valid (AllOf' shape parts) true valid known =
        All-valid (signed_trees parts true) (parts-valid parts true valid.1 known)
    tree-valid (AllOf' shape parts) false valid known =
        Any-valid (signed_trees parts false) (parts-valid parts false valid.1 known)
    tree-valid (AnyOf' shape parts) true valid known =
        Any-valid (signed_trees parts true) (parts-valid parts true valid.1 known)
    tree-valid (AnyOf' shape parts) false valid known =
        All-valid (signed_trees parts false) (parts-valid parts false valid.1 known)
    tree-valid (If' pointer condition other_pointer consequent None') true valid known =
        let owns = known-parts (fields_of_parts condition) (fields_of_parts consequent ++ [])
        (relations_of_parts condition) (relations_of_parts consequent ++ []) known in
        let ends = known-parts (fields_of_parts consequent) [] (relations_of_parts consequent) [] owns.1 in
        let met = joined-valid (signed_trees condition true) (parts-valid condition true valid.0 owns.0) in
        let unmet = joined-valid (signed_trees condition false) (parts-valid condition false valid.0 owns.0) in
        let then = joined-valid (signed_trees consequent true) (parts-valid consequent true valid.1 ends.0) in
        Any-valid (All (joined_tree (signed_trees condition true) ∷ joined_tree (signed_trees consequent true) ∷ [])
        ∷ joined_tree (signed_trees condition false) ∷ []) (
          All-valid (joined_tree (signed_trees condition true) ∷ joined_tree (signed_trees consequent true) ∷ [])
              (met, (then, tt)),
          (unmet, tt),
        )
    tree-valid (If' pointer condition other_pointer consequent None') false valid known =
        let owns = known-parts (fields_of_parts condition) (fields_of_parts consequent ++ [])
        (relations_of_parts condition) (relations_of_parts consequent ++ []) known in
        let ends = known-parts (fields_of_parts consequent) [] (relations_of_parts consequent) [] owns.1 in
        let met = joined-valid (signed_trees condition true) (parts-valid condition true valid.0 owns.0) in
        let then = joined-valid (signed_trees consequent false) (parts-valid consequent false valid.1 ends.0) in
        All-valid (joined_tree (signed_trees condition true) ∷ joined_tree (signed_trees consequent false) ∷ [])
        (met, (then, tt))
    tree-valid (If' pointer condition other_pointer consequent (Some' else_pointer other)) sign valid known =
        let owns = known-parts (fields_of_parts condition) (fields_of_parts consequent ++ fields_of_parts other)
        (relations_of_parts condition) (relations_of_parts consequent ++ relations_of_parts other) known in
        let ends = known-parts (fields_of_parts consequent) (fields_of_parts other) (relations_of_parts consequent)
        (relations_of_parts other) owns.1 in
        let met = joined-valid (signed_trees condition true) (parts-valid condition true valid.0 owns.0) in
        let unmet = joined-valid (signed_trees condition false) (parts-valid condition false valid.0 owns.0) in
        let then = joined-valid (signed_trees consequent sign) (parts-valid consequent sign valid.1 ends.0) in
        let otherwise = joined-valid (signed_trees other sign) (parts-valid other sign valid.2 ends.1) in
        Any-valid (All (joined_tree (signed_trees condition true) ∷ joined_tree (signed_trees consequent sign) ∷ [])
        ∷ All (joined_tree (signed_trees condition false) ∷ joined_tree (signed_trees other sign) ∷ []) ∷ []) (
          All-valid (joined_tree (signed_trees condition true) ∷ joined_tree (signed_trees consequent sign) ∷ [])
              (met, (then, tt)),
          (
            All-valid (joined_tree (signed_trees condition false) ∷ joined_tree (signed_trees other sign) ∷ [])
                (unmet, (otherwise, tt)),
            tt,
          ),
        )

    parts-valid : {m : _} (parts : Row_of-Constraint m) (sign : Bool) → ArePartsFor fields parts
        → Known (fields_of_parts parts) (relations_of_parts parts) → AllByRecursion Meets (signed_trees parts sign)
    parts-valid end_of-Constraint sign valid known = tt
    parts-valid (more_of-Constraint c parts) sign valid known =
        let owns = known-parts (fields_of c) (fields_of_parts parts) (relations_of c) (relations_of_parts parts) known in
        (tree-valid c sign valid.0 owns.0, parts-valid parts sign valid.1 owns.1)
