-- What a profile may rely on of its fields and constraints, rule by rule.
use Rattle.std.specs.Prelude.{◌≡◌, ◌≢◌, ℕ, ◌<◌, ◌≤◌, ◌^◌, pos, unsigned_abs, List, [], ◌∷◌, length, IfSome}
use Rattle.std.specs.List.{AllByRecursion, slice_get}
use Rattle.helix_values.specs.Class.{Class, booleans, numbers, strings, moments, class_of_kind}
use Rattle.helix_values.specs.Universe.{InUniverse}
use Rattle.helix_values.specs.declared.cell.Cell.{Cell}
use Rattle.helix_values.specs.declared.kind.Kind.{Kind}
use Rattle.helix_values.specs.declared.kind.Kind.TheVariants as kind
use Rattle.helix_ladders.specs.declared.offset.Offset.{Offset}
use Rattle.helix_ladders.specs.declared.offset.Offset.TheVariants as offset
use Rattle.helix_profile.specs.Content.{Content}
use Rattle.helix_profile.specs.Fields.{all_relations}
use Rattle.helix_profile.specs.Forest.{IsForest}
use Rattle.helix_profile.specs.declared.constraint.Constraint.{Constraint, Atom, Related, Not', AllOf', AnyOf', If', Row_of-Constraint, end_of-Constraint, more_of-Constraint, Held-Constraint-If-2, None', Some'}
use Rattle.helix_profile.specs.declared.field.Field.{Field}
use Rattle.helix_profile.specs.declared.relation.Compare.{Compare}
use Rattle.helix_profile.specs.declared.relation.Compare.TheVariants as compare
use Rattle.helix_profile.specs.declared.relation.Relation.{Relation}
use Rattle.helix_profile.specs.declared.test.Test.{Test}
use Rattle.helix_profile.specs.declared.test.Test.TheVariants as test

-- a name: 1 to 200 characters, none of them U+0000 to U+001F or U+007F
pub record IsName (name : List ℕ) : Type 0 where
  pub not_empty : 1 ≤ length name
  pub short : length name ≤ 200
  pub printable : AllByRecursion (λ code. (32 ≤ code) × (code ≢ 127)) name

-- no name comes twice
abbrev pub HaveDifferentNames : List Field → Type 0
HaveDifferentNames [] = Unit {0}
HaveDifferentNames (field ∷ fields) = AllByRecursion (λ other. field.name ≢ other.name) fields
    × HaveDifferentNames fields

-- a bound: a number with at most 15 places, on an integer field too, or a moment, on a date field too
abbrev pub IsBound : Class → Cell → Type 0
IsBound numbers bound = InUniverse kind.Decimal bound
IsBound moments bound = InUniverse kind.DateTime bound
IsBound other bound = ⊥

-- a level of the class's ladder of grids
abbrev pub IsLevel : Class → ℕ → Type 0
IsLevel numbers level = level < 16
IsLevel moments level = level < 7
IsLevel other level = ⊥

-- the test is one for the kind, and its operand is in range
abbrev pub IsTestFor : Kind → Test → Type 0
IsTestFor kind (test.IsNull wanted) = Unit {0}
IsTestFor kind (test.EqualTo operand) = InUniverse kind operand
IsTestFor kind (test.InSet members) = (members ≢ []) × AllByRecursion (InUniverse kind) members
IsTestFor kind (test.Matching regex) = class_of_kind kind ≡ strings
IsTestFor kind (test.Containing regex) = class_of_kind kind ≡ strings
IsTestFor kind (test.OfLength count) = (class_of_kind kind ≡ strings) × (count ≤ 1000)
IsTestFor kind (test.LongerThan count) = (class_of_kind kind ≡ strings) × (count ≤ 1000)
IsTestFor kind (test.ShorterThan count) = (class_of_kind kind ≡ strings) × (count ≤ 1000)
IsTestFor kind (test.Above bound) = IsBound (class_of_kind kind) bound
IsTestFor kind (test.AtLeast bound) = IsBound (class_of_kind kind) bound
IsTestFor kind (test.Below bound) = IsBound (class_of_kind kind) bound
IsTestFor kind (test.AtMost bound) = IsBound (class_of_kind kind) bound
IsTestFor kind (test.OnGrid level) = IsLevel (class_of_kind kind) level

-- truth values and texts are only related as equal
abbrev pub IsCompareFor : Class → Compare → Type 0
IsCompareFor booleans how = how ≡ compare.Equal
IsCompareFor strings how = how ≡ compare.Equal
IsCompareFor other how = Unit {0}

-- The offset is in range: none for truth values and texts, 10^20 for numbers, all moments' span for moments. An
-- offset by months, years or working days goes from a date.
abbrev pub IsOffsetFor : Kind → Class → Offset → Type 0
IsOffsetFor right numbers (offset.Plain units) = unsigned_abs units ≤ 10 ^ 35
IsOffsetFor right moments (offset.Plain millis) = unsigned_abs millis ≤ 315537897599999
IsOffsetFor right moments (offset.Months count) = (right ≡ kind.Date) × (unsigned_abs count ≤ 119988)
IsOffsetFor right moments (offset.Years count) = (right ≡ kind.Date) × (unsigned_abs count ≤ 9999)
IsOffsetFor right moments (offset.WorkingDays count) = (right ≡ kind.Date) × (unsigned_abs count ≤ 3652059)
IsOffsetFor right class (offset.Plain count) = count ≡ pos 0
IsOffsetFor right class other = ⊥

-- two different fields of one class, with a comparison and an offset for it
pub record IsRelationFor (left right : Field) (relation : Relation) : Type 0 where
  pub different : relation.left ≢ relation.right
  pub one_class : class_of_kind left.kind ≡ class_of_kind right.kind
  pub comparison : IsCompareFor (class_of_kind left.kind) relation.compare
  pub range : IsOffsetFor right.kind (class_of_kind left.kind) relation.offset

-- there is a field of this number, and the fact holds of it
abbrev pub FieldWith : List Field → ℕ → (Field → Type 0) → Type 0
FieldWith fields number Fact = (number < length fields) × IfSome (slice_get fields number) Fact

abbrev mutual
  -- The constraint speaks of fields that there are, in ways that their kinds allow, and no list of parts is empty.
  pub IsConstraintFor : List Field → Constraint → Type 0
  IsConstraintFor fields (Atom atom) = FieldWith fields atom.field (λ field. IsTestFor field.kind atom.test)
  IsConstraintFor fields (Related relation) =
      FieldWith fields relation.left (λ left. FieldWith fields relation.right
      (λ right. IsRelationFor left right relation))
  IsConstraintFor fields (Not' pointer negated) = ArePartsFor fields negated
  IsConstraintFor fields (AllOf' shape parts) = IsSomePart parts × ArePartsFor fields parts
  IsConstraintFor fields (AnyOf' shape parts) = IsSomePart parts × ArePartsFor fields parts
  IsConstraintFor fields (If' pointer condition other_pointer consequent otherwise) =
      ArePartsFor fields condition × ArePartsFor fields consequent × IsElseFor fields otherwise

  -- the same of parts
  pub ArePartsFor : {m : _} → List Field → Row_of-Constraint m → Type 0
  ArePartsFor fields end_of-Constraint = Unit {0}
  ArePartsFor fields (more_of-Constraint part parts) = IsConstraintFor fields part × ArePartsFor fields parts

  -- the same of an `else`, where there is one
  pub IsElseFor : List Field → Held-Constraint-If-2 → Type 0
  IsElseFor fields None' = Unit {0}
  IsElseFor fields (Some' pointer other) = ArePartsFor fields other

  -- there is a part
  pub IsSomePart : {m : _} → Row_of-Constraint m → Type 0
  IsSomePart end_of-Constraint = ⊥
  IsSomePart (more_of-Constraint part parts) = Unit {0}

-- a valid profile
pub record IsValidProfile (profile : Content) : Type 0 where
  pub some_field : 1 ≤ length profile.fields
  pub few_fields : length profile.fields ≤ 64
  pub names : AllByRecursion (λ field. IsName field.name) profile.fields
  pub different_names : HaveDifferentNames profile.fields
  pub few_constraints : length profile.constraints < 2 ^ 32
  pub constraints_fit : AllByRecursion (IsConstraintFor profile.fields) profile.constraints
  pub no_cycle : IsForest (all_relations profile.constraints)
