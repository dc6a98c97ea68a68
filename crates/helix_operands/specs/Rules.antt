-- The rules of operands: where each is broken. A place is the operand itself or a member of its list.
use Rattle.std.specs.Prelude.{◌≡◌, ◌⊎◌, Bool, true, false, ◌==◌, ◌&&◌, ◌||◌, not, nat_lt, List, length, Option, Some, None, IsSomeAnd}
use Rattle.helix_json.specs.declared.value.Json.{Json}
use Rattle.helix_keywords.specs.declared.keyword.Keyword.{Keyword}
use Rattle.helix_keywords.specs.declared.keyword.Keyword.TheVariants as keyword
use Rattle.helix_keywords.specs.Keywords.{is_for}
use Rattle.helix_operands.specs.Values.{has_type, GivesValue, GivesLevel, GivesLength, GivesPattern, max_members}
use Rattle.helix_operands.specs.declared.rule.OperandRule.{OperandRule}
use Rattle.helix_operands.specs.declared.rule.OperandRule.TheVariants as rule
use Rattle.helix_places.specs.Members.{items_of, is_list, is_string}
use Rattle.helix_places.specs.Places.{Here, InItem}
use Rattle.helix_places.specs.declared.place.Step.{Step}
use Rattle.helix_values.specs.Class.{Class, booleans, numbers, strings, moments, class_of_kind}
use Rattle.helix_values.specs.declared.kind.Kind.{Kind}
use Rattle.helix_values.specs.declared.kind.Kind.TheVariants as kinds

-- the JSON type of a grid: a number for numbers, a string for moments; other classes have no grids
abbrev pub has_grid_type : Class → Json → Bool
has_grid_type numbers v = has_type numbers v
has_grid_type moments v = has_type moments v
has_grid_type other v = false

-- the JSON type that a keyword asks for; `granularTo` asks for none of a class that it isn't for
abbrev pub has_operand_type : Class → Keyword → Json → Bool
has_operand_type class keyword.EqualTo v = has_type class v
has_operand_type class keyword.InSet v = is_list v || is_string v
has_operand_type class keyword.IsNull v = has_type booleans v
has_operand_type class keyword.MatchingRegex v = has_type strings v
has_operand_type class keyword.ContainingRegex v = has_type strings v
has_operand_type class keyword.OfLength v = has_type numbers v
has_operand_type class keyword.LongerThan v = has_type numbers v
has_operand_type class keyword.ShorterThan v = has_type numbers v
has_operand_type class keyword.GreaterThan v = has_type numbers v
has_operand_type class keyword.GreaterThanOrEqualTo v = has_type numbers v
has_operand_type class keyword.LessThan v = has_type numbers v
has_operand_type class keyword.LessThanOrEqualTo v = has_type numbers v
has_operand_type class keyword.After v = has_type moments v
has_operand_type class keyword.AfterOrAt v = has_type moments v
has_operand_type class keyword.Before v = has_type moments v
has_operand_type class keyword.BeforeOrAt v = has_type moments v
has_operand_type class keyword.GranularTo v = not (is_for keyword.GranularTo class) || has_grid_type class v

-- S11: the operand has another JSON type
abbrev pub HasWrongType : Kind → Keyword → Json → Type 0
HasWrongType kind keyword v = has_operand_type (class_of_kind kind) keyword v ≡ false

-- S11: a member of a list has another JSON type than a value of the kind
abbrev pub IsWrongMember : Kind → Json → Type 0
IsWrongMember kind v = has_type (class_of_kind kind) v ≡ false

-- it has the JSON type, and nothing is given
abbrev pub Lacks : {X : Type 0} → Bool → (X → Type 0) → Type 0
Lacks {X} typed Given = (typed ≡ true) × ((x : X) → ¬ (Given x))

-- S12: no value of the kind
abbrev pub IsNoValue : Kind → Json → Type 0
IsNoValue kind v = Lacks (has_type (class_of_kind kind) v) (GivesValue kind v)

-- the kind of whose values the operand has to be
abbrev pub value_kind : Kind → Keyword → Option Kind
value_kind kind keyword.EqualTo = Some kind
value_kind kind keyword.GreaterThan = Some kinds.Decimal
value_kind kind keyword.GreaterThanOrEqualTo = Some kinds.Decimal
value_kind kind keyword.LessThan = Some kinds.Decimal
value_kind kind keyword.LessThanOrEqualTo = Some kinds.Decimal
value_kind kind keyword.After = Some kinds.DateTime
value_kind kind keyword.AfterOrAt = Some kinds.DateTime
value_kind kind keyword.Before = Some kinds.DateTime
value_kind kind keyword.BeforeOrAt = Some kinds.DateTime
value_kind kind other = None

-- S12: the operand of `equalTo` is no value of the kind, or a bound is no number or no moment
abbrev pub HasNoValue : Kind → Keyword → Json → Type 0
HasNoValue kind keyword v = IsSomeAnd (value_kind kind keyword) (λ wanted. IsNoValue wanted v)

-- a list that is empty or has over 10,000 members
abbrev pub is_bad_list : Json → Bool
is_bad_list v = is_list v && ((length (items_of v) == 0) || nat_lt max_members (length (items_of v)))

-- S13: the list of `inSet` has too few or too many members
abbrev pub has_bad_size : Keyword → Json → Bool
has_bad_size keyword.InSet v = is_bad_list v
has_bad_size other v = false

-- a number or a string that names no level of the class's ladder
abbrev pub IsNoLevel : Class → Json → Type 0
IsNoLevel class v = Lacks (has_grid_type class v) (GivesLevel class v)

-- S14: the operand of `granularTo` is no step of the ladder
abbrev pub HasNoLevel : Kind → Keyword → Json → Type 0
HasNoLevel kind keyword.GranularTo v = IsNoLevel (class_of_kind kind) v
HasNoLevel kind other v = ⊥

-- S15: a length is no whole number from 0 to 1,000
abbrev pub HasNoLength : Keyword → Json → Type 0
HasNoLength keyword.OfLength v = Lacks (has_type numbers v) (GivesLength v)
HasNoLength keyword.LongerThan v = Lacks (has_type numbers v) (GivesLength v)
HasNoLength keyword.ShorterThan v = Lacks (has_type numbers v) (GivesLength v)
HasNoLength other v = ⊥

-- S16: the pattern is refused
abbrev pub HasNoPattern : Keyword → Json → Type 0
HasNoPattern keyword.MatchingRegex v = Lacks (has_type strings v) (GivesPattern v)
HasNoPattern keyword.ContainingRegex v = Lacks (has_type strings v) (GivesPattern v)
HasNoPattern other v = ⊥

-- the operand breaks the rule
abbrev pub IsFaulty : OperandRule → Kind → Keyword → Json → Type 0
IsFaulty rule.Type kind keyword v = HasWrongType kind keyword v
IsFaulty rule.Value kind keyword v = HasNoValue kind keyword v
IsFaulty rule.Size kind keyword v = has_bad_size keyword v ≡ true
IsFaulty rule.Grid kind keyword v = HasNoLevel kind keyword v
IsFaulty rule.Length kind keyword v = HasNoLength keyword v
IsFaulty rule.Pattern kind keyword v = HasNoPattern keyword v

-- a member of its list breaks the rule
abbrev pub IsFaultyMember : OperandRule → Kind → Json → Type 0
IsFaultyMember rule.Type kind v = IsWrongMember kind v
IsFaultyMember rule.Value kind v = IsNoValue kind v
IsFaultyMember other kind v = ⊥

-- the place is that of a member of the list of `inSet`
abbrev pub InMembers : Keyword → (Json → Type 0) → Json → List Step → Type 0
InMembers keyword.InSet P v place = InItem (Here P) v place
InMembers other P v place = ⊥

-- where a rule is broken
abbrev pub BreaksOperand : OperandRule → Kind → Keyword → Json → List Step → Type 0
BreaksOperand rule kind keyword v place =
    Here (IsFaulty rule kind keyword) v place ⊎ InMembers keyword (IsFaultyMember rule kind) v place

-- no rule is broken
abbrev pub IsUnbroken : Kind → Keyword → Json → Type 0
IsUnbroken kind keyword v = (rule : OperandRule) (place : List Step) → ¬ (BreaksOperand rule kind keyword v place)
