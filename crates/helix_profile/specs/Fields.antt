-- Which fields a constraint names, and what relations it has, as often as it does: those of an `if` by its condition,
-- its `then` and its `else`, in whatever order a text gives them.
use Rattle.std.specs.Prelude.{ℕ, List, [], ◌∷◌, ◌++◌}
use Rattle.helix_profile.specs.declared.constraint.Constraint.{Constraint, Atom, Related, Not', AllOf', AnyOf', If', Row_of-Constraint, end_of-Constraint, more_of-Constraint, Held-Constraint-If-2, None', Some'}
use Rattle.helix_profile.specs.declared.relation.Relation.{Relation}

abbrev mutual
  -- the fields that a constraint names, as often as it does
  pub fields_of : Constraint → List ℕ
  fields_of (Atom atom) = atom.field ∷ []
  fields_of (Related relation) = relation.left ∷ relation.right ∷ []
  fields_of (Not' pointer negated) = fields_of_parts negated
  fields_of (AllOf' shape parts) = fields_of_parts parts
  fields_of (AnyOf' shape parts) = fields_of_parts parts
  fields_of (If' pointer condition other_pointer consequent otherwise) =
      fields_of_parts condition ++ (fields_of_parts consequent ++ fields_of_else otherwise)

  pub fields_of_parts : {m : _} → Row_of-Constraint m → List ℕ
  fields_of_parts end_of-Constraint = []
  fields_of_parts (more_of-Constraint part parts) = fields_of part ++ fields_of_parts parts

  pub fields_of_else : Held-Constraint-If-2 → List ℕ
  fields_of_else None' = []
  fields_of_else (Some' pointer other) = fields_of_parts other

abbrev mutual
  -- the relations of a constraint, in whatever branch they are
  pub relations_of : Constraint → List Relation
  relations_of (Atom atom) = []
  relations_of (Related relation) = relation ∷ []
  relations_of (Not' pointer negated) = relations_of_parts negated
  relations_of (AllOf' shape parts) = relations_of_parts parts
  relations_of (AnyOf' shape parts) = relations_of_parts parts
  relations_of (If' pointer condition other_pointer consequent otherwise) =
      relations_of_parts condition ++ (relations_of_parts consequent ++ relations_of_else otherwise)

  -- the same of parts
  pub relations_of_parts : {m : _} → Row_of-Constraint m → List Relation
  relations_of_parts end_of-Constraint = []
  relations_of_parts (more_of-Constraint part parts) = relations_of part ++ relations_of_parts parts

  -- the same of an `else`, where there is one
  pub relations_of_else : Held-Constraint-If-2 → List Relation
  relations_of_else None' = []
  relations_of_else (Some' pointer other) = relations_of_parts other

-- the relations of a list of constraints
abbrev pub all_relations : List Constraint → List Relation
all_relations [] = []
all_relations (constraint ∷ constraints) = relations_of constraint ++ all_relations constraints
