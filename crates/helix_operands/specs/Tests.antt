-- The test that the operand of a keyword gives, for a field of a kind.
use Rattle.std.specs.Prelude.{◌≡◌, Bool, false}
use Rattle.helix_json.specs.declared.value.Json.{Json}
use Rattle.helix_json.specs.declared.value.Json as json
use Rattle.helix_keywords.specs.declared.keyword.Keyword.{Keyword}
use Rattle.helix_keywords.specs.declared.keyword.Keyword.TheVariants as keyword
use Rattle.helix_operands.specs.Values.{GivesValue, GivesMembers, GivesPattern, GivesLength, GivesLevel}
use Rattle.helix_places.specs.Members.{is_string}
use Rattle.helix_profile.specs.declared.test.Test.{Test}
use Rattle.helix_profile.specs.declared.test.Test.TheVariants as test
use Rattle.helix_values.specs.Class.{class_of_kind}
use Rattle.helix_values.specs.declared.kind.Kind.{Kind}
use Rattle.helix_values.specs.declared.kind.Kind.TheVariants as kinds

-- the test is made of what is given
abbrev pub Makes : {X : Type 0} → (X → Type 0) → (X → Test) → Test → Type 0
Makes {X} Given make made = (x : X) × Given x × (made ≡ make x)

-- One line for each keyword. A bound is a number or a moment whatever the kind. A string under `inSet` names a set file
-- and gives no test.
abbrev pub GivesTest : Kind → Keyword → Json → Test → Type 0
GivesTest kind keyword.EqualTo v made = Makes (GivesValue kind v) test.EqualTo made
GivesTest kind keyword.InSet v made = Makes (GivesMembers kind v) test.InSet made
GivesTest kind keyword.IsNull v made = Makes (λ wanted. v ≡ json.Bool wanted) test.IsNull made
GivesTest kind keyword.MatchingRegex v made = Makes (GivesPattern v) test.Matching made
GivesTest kind keyword.ContainingRegex v made = Makes (GivesPattern v) test.Containing made
GivesTest kind keyword.OfLength v made = Makes (GivesLength v) test.OfLength made
GivesTest kind keyword.LongerThan v made = Makes (GivesLength v) test.LongerThan made
GivesTest kind keyword.ShorterThan v made = Makes (GivesLength v) test.ShorterThan made
GivesTest kind keyword.GreaterThan v made = Makes (GivesValue kinds.Decimal v) test.Above made
GivesTest kind keyword.GreaterThanOrEqualTo v made = Makes (GivesValue kinds.Decimal v) test.AtLeast made
GivesTest kind keyword.LessThan v made = Makes (GivesValue kinds.Decimal v) test.Below made
GivesTest kind keyword.LessThanOrEqualTo v made = Makes (GivesValue kinds.Decimal v) test.AtMost made
GivesTest kind keyword.After v made = Makes (GivesValue kinds.DateTime v) test.Above made
GivesTest kind keyword.AfterOrAt v made = Makes (GivesValue kinds.DateTime v) test.AtLeast made
GivesTest kind keyword.Before v made = Makes (GivesValue kinds.DateTime v) test.Below made
GivesTest kind keyword.BeforeOrAt v made = Makes (GivesValue kinds.DateTime v) test.AtMost made
GivesTest kind keyword.GranularTo v made = Makes (GivesLevel (class_of_kind kind) v) test.OnGrid made

-- the operand names a set file
abbrev pub names_set_file : Keyword → Json → Bool
names_set_file keyword.InSet v = is_string v
names_set_file other v = false
