-- How many disjoint options a constraint has at most: whole numbers without a bound, by how it branches.
use Rattle.std.specs.Prelude.{ℕ, zero, suc, ◌+◌, ◌*◌, max, Bool, true, false, not, ◌||◌, ◌&&◌, ◌==◌, if◌then◌else◌, List, [], ◌∷◌, length}
use Rattle.std.specs.List.{list_any}
use Rattle.helix_profile.specs.Content.{Content}
use Rattle.helix_profile.specs.Fields.{fields_of}
use Rattle.helix_profile.specs.declared.constraint.Constraint.{Constraint, Atom, Related, Not', AllOf', AnyOf', If', Row_of-Constraint, end_of-Constraint, more_of-Constraint, Held-Constraint-If-2, None', Some'}

-- the options of a constraint with a sign, and those of its complement
pub record Widths : Type 0 where
  pub own : ℕ
  pub complement : ℕ

-- all parts at once; the complement fails first at one of them, and the parts before it hold
abbrev pub widths_of_all : List Widths → Widths
widths_of_all [] = record { own = 1; complement = 0 }
widths_of_all (part ∷ parts) =
    record {
      own = part.own * (widths_of_all parts).own;
      complement = part.complement + part.own * (widths_of_all parts).complement;
    }

-- one part holds first, and those before it don't; the complement fails at all of them
abbrev pub widths_of_any : List Widths → Widths
widths_of_any [] = record { own = 0; complement = 1 }
widths_of_any (part ∷ parts) =
    record {
      own = part.own + part.complement * (widths_of_any parts).own;
      complement = part.complement * (widths_of_any parts).complement;
    }

-- the only one of a list of one
abbrev pub only : List Widths → Widths
only [] = record { own = 1; complement = 1 }
only (part ∷ parts) = part

abbrev mutual
  -- An `if` counts as any of: the condition and its `then`, the negated condition and its `else`. The negation of
  -- one without `else` counts as all of the condition and the negated `then`.
  pub widths_of : Constraint → Bool → Widths
  widths_of (Atom atom) sign = record { own = 1; complement = 1 }
  widths_of (Related relation) sign = record { own = 3; complement = 1 }
  widths_of (Not' pointer negated) sign = only (widths_of_parts negated (not sign))
  widths_of (AllOf' shape parts) true = widths_of_all (widths_of_parts parts true)
  widths_of (AllOf' shape parts) false = widths_of_any (widths_of_parts parts false)
  widths_of (AnyOf' shape parts) true = widths_of_any (widths_of_parts parts true)
  widths_of (AnyOf' shape parts) false = widths_of_all (widths_of_parts parts false)
  widths_of (If' pointer condition other_pointer consequent otherwise) sign =
      widths_of_if (only (widths_of_parts condition true)) (only (widths_of_parts condition false))
      (only (widths_of_parts consequent sign)) otherwise sign

  pub widths_of_parts : {m : _} → Row_of-Constraint m → Bool → List Widths
  widths_of_parts end_of-Constraint sign = []
  widths_of_parts (more_of-Constraint part parts) sign = widths_of part sign ∷ widths_of_parts parts sign

  pub widths_of_if : Widths → Widths → Widths → Held-Constraint-If-2 → Bool → Widths
  widths_of_if condition negated consequent None' true =
      widths_of_any (widths_of_all (condition ∷ consequent ∷ []) ∷ negated ∷ [])
  widths_of_if condition negated consequent None' false = widths_of_all (condition ∷ consequent ∷ [])
  widths_of_if condition negated consequent (Some' pointer other) sign =
      widths_of_any (widths_of_all (condition ∷ consequent ∷ []) ∷ widths_of_all
      (negated ∷ only (widths_of_parts other sign) ∷ []) ∷ [])

-- the greatest number of disjoint options of a constraint with a sign
abbrev pub width : Constraint → Bool → ℕ
width constraint sign = (widths_of constraint sign).own

-- and of its complement
abbrev pub complement_width : Constraint → Bool → ℕ
complement_width constraint sign = (widths_of constraint sign).complement

-- the constraint names the field
abbrev pub names_field : ℕ → Constraint → Bool
names_field field constraint = list_any (λ named. named == field) (fields_of constraint)

-- a chain of at most `count` constraints, each sharing a field with the next, leads from one field to another
unfoldable pub is_chained : List Constraint → ℕ → ℕ → ℕ → Bool
is_chained constraints zero from to = from == to
is_chained constraints (suc count) from to =
    (from == to) || list_any (λ constraint. names_field from constraint
    && list_any (λ next. is_chained constraints count next to) (fields_of constraint)) constraints

-- two fields are linked; a chain needs no constraint twice
abbrev pub is_linked : List Constraint → ℕ → ℕ → Bool
is_linked constraints from to = is_chained constraints (length constraints) from to

-- the constraint is one of the group of fields that are linked with this one
abbrev pub is_in_group : List Constraint → ℕ → Constraint → Bool
is_in_group constraints field constraint = list_any (λ named. is_linked constraints field named) (fields_of constraint)

-- the product of the widths of those constraints of a list that a test picks
abbrev pub product_of_widths : (Constraint → Bool) → List Constraint → ℕ
product_of_widths picked [] = 1
product_of_widths picked (constraint ∷ constraints) =
    if picked constraint then width constraint true * product_of_widths picked constraints
    else product_of_widths picked constraints

-- the greatest product among the groups of the first `field` fields, at least 1
unfoldable pub widest_group : List Constraint → ℕ → ℕ
widest_group constraints zero = 1
widest_group constraints (suc field) = max (widest_group constraints field)
    (product_of_widths (is_in_group constraints field) constraints)

-- the width of a profile
abbrev pub profile_width : Content → ℕ
profile_width profile = widest_group profile.constraints (length profile.fields)
