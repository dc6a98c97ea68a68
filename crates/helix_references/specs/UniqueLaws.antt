-- A constraint gives at most one relation, and none where it is refused.
use Rattle.std.proofs.Common.{◌≡◌, ◌*◌, ◌^◌, ◌≤◌, inl, inr, ℤ, pos, ◌*ℤ◌, nat_abs, List, Option, Some, None, codes, sym, ◌∙◌, ap, subst, arith}
use Rattle.std.proofs.lemmas.Int.{ints}
use Rattle.helix_json.specs.declared.value.Json.{Json}
use Rattle.helix_json.specs.declared.value.Json as json
use Rattle.helix_json.specs.declared.value.Member.{Member}
use Rattle.helix_keywords.specs.declared.keyword.FieldKeyword.{FieldKeyword}
use Rattle.helix_keywords.specs.Keywords.{field_word}
use Rattle.helix_ladders.specs.declared.offset.Offset.{Offset}
use Rattle.helix_ladders.specs.declared.offset.Offset.TheVariants as offset
use Rattle.helix_places.specs.Members.{value_of}
use Rattle.helix_profile.specs.declared.field.Field.{Field}
use Rattle.helix_profile.specs.declared.relation.Relation.{Relation}
use Rattle.helix_values.specs.Class.{Class, booleans, numbers, strings, moments, class_of_kind}
use Rattle.helix_values.specs.declared.kind.Kind.{Kind}
use Rattle.helix_references.specs.declared.unit.MomentUnit.{MomentUnit}
use Rattle.helix_references.specs.Naming.{index_by, kind_by}
use Rattle.helix_references.specs.Offsets.{GivesUnits, GivesWhole, IsFaultyOffset, IsFaultyUnit, IsTooFar}
use Rattle.helix_references.specs.Relations.{GivesOffset, GivesPlain, GivesRelation, GivesShift, shift_by}
use Rattle.helix_references.specs.Units.{greatest, size, unit_in}
use Rattle.helix_references.specs.Inner.OneNumber.{one_number}
use Rattle.helix_references.specs.Inner.Refusals.{IsNoOffset, IsRefused}
use Rattle.helix_references.specs.RefusalLaws.{some_of}

times_same : (u v : ℤ) → u *ℤ pos (10 ^ 15) ≡ v *ℤ pos (10 ^ 15) → u ≡ v
times_same u v e = omega (arith, ints)

-- a value gives at most one whole number
pub one_whole : (v : Json) (m n : ℤ) → GivesWhole v m → GivesWhole v n → m ≡ n
one_whole (json.Number text) m n first second =
    times_same m n (one_number text (m *ℤ pos (10 ^ 15)) (n *ℤ pos (10 ^ 15)) first second)
one_whole json.Null m n first second = absurd first
one_whole (json.Bool b) m n first second = absurd first
one_whole (json.Str text) m n first second = absurd first
one_whole (json.List' shape items) m n first second = absurd first
one_whole (json.Object' shape members) m n first second = absurd first

pub one_units : (v : Json) (m n : ℤ) → GivesUnits v m → GivesUnits v n → m ≡ n
one_units (json.Number text) m n first second = one_number text m n first.0 second.0
one_units json.Null m n first second = absurd first
one_units (json.Bool b) m n first second = absurd first
one_units (json.Str text) m n first second = absurd first
one_units (json.List' shape items) m n first second = absurd first
one_units (json.Object' shape members) m n first second = absurd first

one_plain : (v : Json) (given other : Offset) → GivesPlain v given → GivesPlain v other → given ≡ other
one_plain v given other (m, first, is) (n, second, also) =
    is ∙ (ap offset.Plain (one_units v m n first second) ∙ sym also)

module _ (right : Option Kind) (value unit : Json) where
  Shifts : Offset → MomentUnit → Type 0
  Shifts given u = (n : ℤ) × GivesWhole value n × (nat_abs n * size u ≤ greatest u) × (given ≡ shift_by u n)

  one_shift : (given other : Offset) → GivesShift right value unit given → GivesShift right value unit other
      → given ≡ other
  one_shift given other first second =
      let one = some_of (unit_in right unit)
      (λ u. (n : ℤ) × GivesWhole value n × (nat_abs n * size u ≤ greatest u) × (given ≡ shift_by u n)) first in
      let two = some_of (unit_in right unit)
      (λ u. (n : ℤ) × GivesWhole value n × (nat_abs n * size u ≤ greatest u) × (other ≡ shift_by u n)) second in
      let units : one.0 ≡ two.0 = let a : unit_in right unit ≡ Some one.0 = one.1 in
      let b : unit_in right unit ≡ Some two.0 = two.1 in cc in
      let counts : one.2.0 ≡ two.2.0 = one_whole value one.2.0 two.2.0 one.2.1 two.2.1 in
      one.2.3 ∙ (ap (λ u. shift_by u one.2.0) units ∙ (ap (shift_by two.0) counts ∙ sym two.2.3))

pub one_offset : (class : Class) (right : Option Kind) (value unit : Option Json) (given other : Offset)
    → GivesOffset class right value unit given → GivesOffset class right value unit other → given ≡ other
one_offset class right None None given other first second = first ∙ sym second
one_offset numbers right (Some value) None given other first second = one_plain value given other first second
one_offset moments right (Some value) (Some unit) given other first second =
    one_shift right value unit given other first second
one_offset booleans right (Some value) None given other first second = absurd first
one_offset strings right (Some value) None given other first second = absurd first
one_offset moments right (Some value) None given other first second = absurd first
one_offset booleans right (Some value) (Some unit) given other first second = absurd first
one_offset numbers right (Some value) (Some unit) given other first second = absurd first
one_offset strings right (Some value) (Some unit) given other first second = absurd first
one_offset booleans right None (Some unit) given other first second = absurd first
one_offset numbers right None (Some unit) given other first second = absurd first
one_offset strings right None (Some unit) given other first second = absurd first
one_offset moments right None (Some unit) given other first second = absurd first

shift_given : (right : Option Kind) (value unit : Json) (given : Offset) → GivesShift right value unit given
    → ¬ (IsFaultyOffset moments right (Some unit) value)
shift_given right value unit given gives (inl none) =
    let one = some_of (unit_in right unit)
    (λ u. (n : ℤ) × GivesWhole value n × (nat_abs n * size u ≤ greatest u) × (given ≡ shift_by u n)) gives in
    none one.2.0 one.2.1
shift_given right value unit given gives (inr far) =
    let one = some_of (unit_in right unit)
    (λ u. (n : ℤ) × GivesWhole value n × (nat_abs n * size u ≤ greatest u) × (given ≡ shift_by u n)) gives in
    let two = some_of (unit_in right unit) (IsTooFar value) far in
    let units : one.0 ≡ two.0 = let a : unit_in right unit ≡ Some one.0 = one.1 in
    let b : unit_in right unit ≡ Some two.0 = two.1 in cc in
    let counts : one.2.0 ≡ two.2.0 = one_whole value one.2.0 two.2.0 one.2.1 two.2.1 in
    let within : nat_abs two.2.0 * size two.0 ≤ greatest two.0 =
    subst (λ u. nat_abs two.2.0 * size u ≤ greatest u) units
    (subst (λ n. nat_abs n * size one.0 ≤ greatest one.0) counts one.2.2) in
    omega (arith, within, two.2.2)

unit_given : (right : Option Kind) (value unit : Json) (given : Offset) → GivesShift right value unit given
    → ¬ (IsFaultyUnit moments right (Some value) unit)
unit_given right value unit given gives none =
    let one = some_of (unit_in right unit)
    (λ u. (n : ℤ) × GivesWhole value n × (nat_abs n * size u ≤ greatest u) × (given ≡ shift_by u n)) gives in
    let a : unit_in right unit ≡ Some one.0 = one.1 in let b : unit_in right unit ≡ None = none in cc

offset_given : (class : Class) (right : Option Kind) (value unit : Option Json) (given : Offset)
    → GivesOffset class right value unit given → ¬ (IsNoOffset class right value unit)
offset_given class right None None given gives (inl h) = h
offset_given class right None None given gives (inr h) = h
offset_given numbers right (Some value) None given (units, gives, is) (inl none) = none units gives
offset_given numbers right (Some value) None given gives (inr h) = h
offset_given moments right (Some value) (Some unit) given gives (inl faulty) =
    shift_given right value unit given gives faulty
offset_given moments right (Some value) (Some unit) given gives (inr faulty) =
    unit_given right value unit given gives faulty
offset_given booleans right (Some value) None given gives no_offset = gives
offset_given strings right (Some value) None given gives no_offset = gives
offset_given moments right (Some value) None given gives no_offset = gives
offset_given booleans right (Some value) (Some unit) given gives no_offset = gives
offset_given numbers right (Some value) (Some unit) given gives no_offset = gives
offset_given strings right (Some value) (Some unit) given gives no_offset = gives
offset_given booleans right None (Some unit) given gives no_offset = gives
offset_given numbers right None (Some unit) given gives no_offset = gives
offset_given strings right None (Some unit) given gives no_offset = gives
offset_given moments right None (Some unit) given gives no_offset = gives

module _ (fields : List Field) (members : List Member) (keyword : FieldKeyword) where
  pub refused_gives_none : IsRefused fields members keyword → (relation : Relation)
      → ¬ (GivesRelation fields members keyword relation)
  refused_gives_none (inl none) relation gives =
      let a : index_by fields (value_of (codes "field") members) ≡ Some relation.left = gives.left in
      let b : index_by fields (value_of (codes "field") members) ≡ None = none in cc
  refused_gives_none (inr (inl none)) relation gives =
      let a : index_by fields (value_of (field_word keyword) members) ≡ Some relation.right = gives.right in
      let b : index_by fields (value_of (field_word keyword) members) ≡ None = none in cc
  refused_gives_none (inr (inr faulty)) relation gives =
      let one = some_of (kind_by fields (value_of (codes "field") members))
      (λ kind. GivesOffset (class_of_kind kind) (kind_by fields (value_of (field_word keyword) members))
      (value_of (codes "offset") members) (value_of (codes "offsetUnit") members) relation.offset) gives.shift in
      let two = some_of (kind_by fields (value_of (codes "field") members))
      (λ kind. IsNoOffset (class_of_kind kind) (kind_by fields (value_of (field_word keyword) members))
      (value_of (codes "offset") members) (value_of (codes "offsetUnit") members)) faulty in
      let kinds : two.0 ≡ one.0 = let a : kind_by fields (value_of (codes "field") members) ≡ Some one.0 = one.1 in
      let b : kind_by fields (value_of (codes "field") members) ≡ Some two.0 = two.1 in cc in
      offset_given (class_of_kind one.0) (kind_by fields (value_of (field_word keyword) members))
      (value_of (codes "offset") members) (value_of (codes "offsetUnit") members) relation.offset one.2
      (subst (λ kind. IsNoOffset (class_of_kind kind) (kind_by fields (value_of (field_word keyword) members))
      (value_of (codes "offset") members) (value_of (codes "offsetUnit") members)) kinds two.2)

  pub one_relation : (relation other : Relation) → GivesRelation fields members keyword relation
      → GivesRelation fields members keyword other → relation ≡ other
  one_relation relation other first second =
      let left : relation.left ≡ other.left =
      let a : index_by fields (value_of (codes "field") members) ≡ Some relation.left = first.left in
      let b : index_by fields (value_of (codes "field") members) ≡ Some other.left = second.left in cc in
      let right : relation.right ≡ other.right =
      let a : index_by fields (value_of (field_word keyword) members) ≡ Some relation.right = first.right in
      let b : index_by fields (value_of (field_word keyword) members) ≡ Some other.right = second.right in cc in
      let one = some_of (kind_by fields (value_of (codes "field") members))
      (λ kind. GivesOffset (class_of_kind kind) (kind_by fields (value_of (field_word keyword) members))
      (value_of (codes "offset") members) (value_of (codes "offsetUnit") members) relation.offset) first.shift in
      let two = some_of (kind_by fields (value_of (codes "field") members))
      (λ kind. GivesOffset (class_of_kind kind) (kind_by fields (value_of (field_word keyword) members))
      (value_of (codes "offset") members) (value_of (codes "offsetUnit") members) other.offset) second.shift in
      let kinds : two.0 ≡ one.0 = let a : kind_by fields (value_of (codes "field") members) ≡ Some one.0 = one.1 in
      let b : kind_by fields (value_of (codes "field") members) ≡ Some two.0 = two.1 in cc in
      let offsets : relation.offset ≡ other.offset =
      one_offset (class_of_kind one.0) (kind_by fields (value_of (field_word keyword) members))
      (value_of (codes "offset") members) (value_of (codes "offsetUnit") members) relation.offset other.offset one.2
      (subst (λ kind. GivesOffset (class_of_kind kind) (kind_by fields (value_of (field_word keyword) members))
      (value_of (codes "offset") members) (value_of (codes "offsetUnit") members) other.offset) kinds two.2) in
      let compares : relation.compare ≡ other.compare = first.comparison ∙ sym second.comparison in
      same_relation relation other left compares right offsets
    where
      same_relation : (r s : Relation) → r.left ≡ s.left → r.compare ≡ s.compare → r.right ≡ s.right
          → r.offset ≡ s.offset → r ≡ s
      same_relation r s left compares right offsets = λ i. record {
        left = left i;
        compare = compares i;
        right = right i;
        offset = offsets i;
      }
