-- Literals that speak of the fields of a part, in ways that their kinds allow.
use Rattle.std.specs.Prelude.{◌≡◌, ℕ, true, List, Contains}
use Rattle.helix_profile.specs.Validity.{FieldWith, IsTestFor, IsRelationFor}
use Rattle.helix_profile.specs.declared.field.Field.{Field}
use Rattle.helix_profile.specs.declared.relation.Relation.{Relation}
use Rattle.helix_profile.specs.declared.test.Atom.{Atom}
use Rattle.helix_profile.specs.declared.test.Test.{Test}
use Rattle.helix_profile.specs.declared.test.Test.TheVariants as test
use Rattle.helix_tree.specs.declared.literal.Literal.{Literal}
use Rattle.helix_tree.specs.declared.literal.Literal.TheVariants.{Null, NotNull, Plain, Joined}

-- a test of a value
abbrev pub IsPlain : Test → Type 0
IsPlain (test.IsNull wanted) = ⊥
IsPlain other = Unit {0}

-- the field is one of the part, and the test is a plain one for it
pub record IsTestOf (fields : List Field) (part : List ℕ) (atom : Atom) : Type 0 where
  pub own : Contains part atom.field
  pub plain : IsPlain atom.test
  pub valid : FieldWith fields atom.field (λ field. IsTestFor field.kind atom.test)

-- the relation is one of a list, both its ends are fields of the part, and it is a relation for them
pub record IsRelationOf (fields : List Field) (part : List ℕ) (relations : List Relation) (relation : Relation) :
    Type 0 where
  pub listed : Contains relations relation
  pub own_left : Contains part relation.left
  pub own_right : Contains part relation.right
  pub valid : FieldWith fields relation.left (λ left. FieldWith fields relation.right
      (λ right. IsRelationFor left right relation))

-- A valid literal of a path, by the profile's fields, the numbers of those of the part, and the profile's relations. A
-- relation is a strict one.
abbrev pub IsLiteralOf : List Field → List ℕ → List Relation → Literal → Type 0
IsLiteralOf fields part relations (Null field) = Contains part field
IsLiteralOf fields part relations (NotNull field) = Contains part field
IsLiteralOf fields part relations (Plain atom sign strict) = IsTestOf fields part atom
IsLiteralOf fields part relations (Joined relation sign strict) =
    (strict ≡ true) × IsRelationOf fields part relations relation
