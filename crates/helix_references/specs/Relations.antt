-- The relation that a constraint gives.
use Rattle.std.specs.Prelude.{◌≡◌, ◌*◌, ◌≤◌, ℤ, pos, ◌*ℤ◌, nat_abs, List, Option, Some, None, IsSomeAnd, codes}
use Rattle.helix_json.specs.declared.value.Json.{Json}
use Rattle.helix_json.specs.declared.value.Member.{Member}
use Rattle.helix_keywords.specs.Keywords.{field_word}
use Rattle.helix_keywords.specs.declared.keyword.FieldKeyword.{FieldKeyword}
use Rattle.helix_keywords.specs.declared.keyword.FieldKeyword.TheVariants as field_keyword
use Rattle.helix_ladders.specs.declared.offset.Offset.{Offset}
use Rattle.helix_ladders.specs.declared.offset.Offset.TheVariants as offset
use Rattle.helix_places.specs.Members.{value_of}
use Rattle.helix_profile.specs.declared.field.Field.{Field}
use Rattle.helix_profile.specs.declared.relation.Compare.{Compare}
use Rattle.helix_profile.specs.declared.relation.Compare.TheVariants as compare
use Rattle.helix_profile.specs.declared.relation.Relation.{Relation}
use Rattle.helix_values.specs.Class.{Class, numbers, moments, class_of_kind}
use Rattle.helix_values.specs.declared.kind.Kind.{Kind}
use Rattle.helix_references.specs.declared.unit.MomentUnit.{MomentUnit}
use Rattle.helix_references.specs.declared.unit.MomentUnit.TheVariants as unit
use Rattle.helix_references.specs.Naming.{index_by, kind_by}
use Rattle.helix_references.specs.Offsets.{GivesUnits, GivesWhole}
use Rattle.helix_references.specs.Units.{greatest, size, unit_in}

-- how a keyword compares
abbrev pub compare_of : FieldKeyword → Compare
compare_of field_keyword.EqualToField = compare.Equal
compare_of field_keyword.GreaterThanField = compare.Above
compare_of field_keyword.GreaterThanOrEqualToField = compare.AtLeast
compare_of field_keyword.LessThanField = compare.Below
compare_of field_keyword.LessThanOrEqualToField = compare.AtMost
compare_of field_keyword.AfterField = compare.Above
compare_of field_keyword.AfterOrAtField = compare.AtLeast
compare_of field_keyword.BeforeField = compare.Below
compare_of field_keyword.BeforeOrAtField = compare.AtMost

-- the offset by a number of units: milliseconds, or a number of months, years or working days
abbrev pub shift_by : MomentUnit → ℤ → Offset
shift_by unit.Months n = offset.Months n
shift_by unit.Years n = offset.Years n
shift_by unit.WorkingDays n = offset.WorkingDays n
shift_by other n = offset.Plain (n *ℤ pos (size other))

-- a number as an offset
abbrev pub GivesPlain : Json → Offset → Type 0
GivesPlain value given = (units : ℤ) × GivesUnits value units × (given ≡ offset.Plain units)

-- a whole number of a unit as an offset
abbrev pub GivesShift : Option Kind → Json → Json → Offset → Type 0
GivesShift right value unit given = IsSomeAnd (unit_in right unit)
    (λ u. (n : ℤ) × GivesWhole value n × (nat_abs n * size u ≤ greatest u) × (given ≡ shift_by u n))

-- The offset between fields of a class, by the values of `offset` and `offsetUnit`; without them it is 0.
abbrev pub GivesOffset : Class → Option Kind → Option Json → Option Json → Offset → Type 0
GivesOffset class right None None given = given ≡ offset.Plain (pos 0)
GivesOffset numbers right (Some value) None given = GivesPlain value given
GivesOffset moments right (Some value) (Some unit) given = GivesShift right value unit given
GivesOffset class right value unit given = ⊥

-- the members give the relation
pub record GivesRelation (fields : List Field) (members : List Member) (keyword : FieldKeyword)
    (relation : Relation) : Type 0
  where
    pub left : index_by fields (value_of (codes "field") members) ≡ Some relation.left
    pub right : index_by fields (value_of (field_word keyword) members) ≡ Some relation.right
    pub comparison : relation.compare ≡ compare_of keyword
    pub shift : IsSomeAnd (kind_by fields (value_of (codes "field") members))
        (λ kind. GivesOffset (class_of_kind kind) (kind_by fields (value_of (field_word keyword) members))
        (value_of (codes "offset") members) (value_of (codes "offsetUnit") members) relation.offset)
