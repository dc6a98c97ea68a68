-- The offset of a relation, and where it is refused.
use Rattle.std.specs.Prelude.{◌≡◌, ◌⊎◌, ℕ, ◌*◌, ◌^◌, ◌<◌, ◌≤◌, ℤ, pos, ◌*ℤ◌, nat_abs, true, List, Option, Some, None, IsSomeAnd, bytes_eq, codes}
use Rattle.helix_json.specs.Numbers.{IsUnits}
use Rattle.helix_json.specs.declared.value.Json.{Json}
use Rattle.helix_json.specs.declared.value.Json as json
use Rattle.helix_json.specs.declared.value.Member.{Member}
use Rattle.helix_places.specs.Members.{value_of}
use Rattle.helix_values.specs.Class.{Class, booleans, numbers, strings, moments, class_of_kind}
use Rattle.helix_values.specs.declared.kind.Kind.{Kind}
use Rattle.helix_references.specs.declared.unit.MomentUnit.{MomentUnit}
use Rattle.helix_references.specs.Units.{greatest, size, unit_in}

-- the value is a number from -10^20 to 10^20 with at most 15 places, in units of 10^-15
abbrev pub GivesUnits : Json → ℤ → Type 0
GivesUnits (json.Number text) units = IsUnits text units × (nat_abs units ≤ 10 ^ 35)
GivesUnits other units = ⊥

-- the value is a whole number
abbrev pub GivesWhole : Json → ℤ → Type 0
GivesWhole (json.Number text) n = IsUnits text (n *ℤ pos (10 ^ 15))
GivesWhole other n = ⊥

-- the value is a whole number by which no moment may be shifted
abbrev pub IsTooFar : Json → MomentUnit → Type 0
IsTooFar value unit = (n : ℤ) × GivesWhole value n × (greatest unit < nat_abs n * size unit)

-- the offset between two moments is refused: it has no unit, is no whole number, or goes too far by its unit
abbrev pub IsFaultyShift : Option Kind → Option Json → Json → Type 0
IsFaultyShift right None value = Unit {0}
IsFaultyShift right (Some unit) value = ((n : ℤ) → ¬ (GivesWhole value n))
    ⊎ IsSomeAnd (unit_in right unit) (IsTooFar value)

-- the value of `offset` is refused, between fields of a class, where the other one is of a kind, by the unit's value
abbrev pub IsFaultyOffset : Class → Option Kind → Option Json → Json → Type 0
IsFaultyOffset booleans right unit value = Unit {0}
IsFaultyOffset strings right unit value = Unit {0}
IsFaultyOffset numbers right unit value = (units : ℤ) → ¬ (GivesUnits value units)
IsFaultyOffset moments right unit value = IsFaultyShift right unit value

-- the unit of an offset between moments is refused: there is no offset, or the value is no unit for the other field
abbrev pub IsFaultyMomentUnit : Option Kind → Option Json → Json → Type 0
IsFaultyMomentUnit right None value = Unit {0}
IsFaultyMomentUnit right (Some offset) value = unit_in right value ≡ None

-- the value of `offsetUnit` is refused, by the offset's value
abbrev pub IsFaultyUnit : Class → Option Kind → Option Json → Json → Type 0
IsFaultyUnit booleans right offset value = Unit {0}
IsFaultyUnit strings right offset value = Unit {0}
IsFaultyUnit numbers right offset value = Unit {0}
IsFaultyUnit moments right offset value = IsFaultyMomentUnit right offset value

-- of a relation between fields of these kinds the member with this key and value is refused
abbrev pub IsFaultyAt : Option Kind → Option Kind → List Member → List ℕ → Json → Type 0
IsFaultyAt None right members key value = ⊥
IsFaultyAt (Some left) right members key value =
    ((bytes_eq key (codes "offset") ≡ true)
    × IsFaultyOffset (class_of_kind left) right (value_of (codes "offsetUnit") members) value)
    ⊎ ((bytes_eq key (codes "offsetUnit") ≡ true)
    × IsFaultyUnit (class_of_kind left) right (value_of (codes "offset") members) value)
