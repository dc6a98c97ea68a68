-- An operand that breaks no rule gives a test, unless it names a set file.
use Rattle.std.proofs.Common.{◌≡◌, ◌≢◌, inl, inr, ℕ, suc, ◌≤◌, ◌==◌, Bool, true, false, ◌&&◌, ◌||◌, not, nat_lt, List, [], ◌∷◌, length, Option, Some, None, IsSome, slice_get, refl, ◌∙◌, ap, arith}
use Rattle.std.proofs.lemmas.Bool.Decides.{nat_tests}
use Rattle.helix_json.specs.declared.value.Json.{Json}
use Rattle.helix_json.specs.declared.value.Json as json
use Rattle.helix_keywords.specs.declared.keyword.Keyword.{Keyword}
use Rattle.helix_keywords.specs.declared.keyword.Keyword.TheVariants as keyword
use Rattle.helix_operands.specs.Inner.Members.{HoldsAt, members_under}
use Rattle.helix_operands.specs.MadeLaws.{none_given}
use Rattle.helix_keywords.specs.Keywords.{is_for}
use Rattle.helix_operands.specs.Rules.{IsFaulty, IsFaultyMember, InMembers, IsUnbroken, Lacks, has_grid_type, has_operand_type}
use Rattle.helix_operands.specs.Tests.{GivesTest, Makes, names_set_file}
use Rattle.helix_operands.specs.Values.{AreValues, GivesLength, GivesLevel, GivesMembers, GivesPattern, GivesValue, Reads, has_type, max_members}
use Rattle.helix_operands.specs.declared.rule.OperandRule.{OperandRule}
use Rattle.helix_operands.specs.declared.rule.OperandRule.TheVariants as rule
use Rattle.helix_places.specs.Members.{is_list, is_string, items_of}
use Rattle.helix_places.specs.PlaceLaws.{and_some}
use Rattle.helix_places.specs.Places.{Here}
use Rattle.helix_places.specs.declared.place.Step.TheVariants as step
use Rattle.helix_profile.specs.declared.test.Test.{Test}
use Rattle.helix_profile.specs.declared.test.Test.TheVariants as test
use Rattle.helix_values.specs.Class.{booleans, class_of_kind}
use Rattle.helix_values.specs.declared.cell.Cell.{Cell}
use Rattle.helix_values.specs.declared.kind.Kind.{Kind}
use Rattle.helix_values.specs.declared.kind.Kind.TheVariants as kinds

-- the place of a member
pub member_named : (k : Keyword) (P : Json → Type 0) (v : Json) (index : ℕ) → HoldsAt P (members_under k v) index
    → InMembers k P v (step.Item index ∷ [])
member_named keyword.InSet P v index h =
    and_some (slice_get (items_of v) index) (λ w. Here P w []) h.0 h.1 (refl, h.2)
member_named other P v index h = absurd (let none : None ≡ Some h.0 = h.1 in cc)

-- where it is not so that an item gives no value, it is not so that there are no values
not_without_values : (kind : Kind) (items : List Json)
    → ((i : ℕ) (item : Json) → slice_get items i ≡ Some item → ¬ ((value : Cell) → ¬ (GivesValue kind item value)))
    → ¬ ((values : List Cell) → ¬ (AreValues kind items values))
not_without_values kind [] each none = none [] tt
not_without_values kind (item ∷ items) each none = each 0 item refl (λ value gives.
    not_without_values kind items (λ i other at. each (suc i) other at)
    (λ values are. none (value ∷ values) (gives, are)))

not_false : (b : Bool) → ¬ (b ≡ false) → b ≡ true
not_false true other = refl
not_false false other = absurd (other refl)

truth_of : (v : Json) → has_type booleans v ≡ true → (truth : Bool) × (v ≡ json.Bool truth)
truth_of (json.Bool truth) is = (truth, refl)
truth_of other is = absurd (cc)

list_of : (list string : Bool) → (list || string) ≡ true → string ≡ false → list ≡ true
list_of true string is other = refl
list_of false string is other = absurd (cc)

good_size : (size : ℕ) → ((size == 0) || nat_lt max_members size) ≢ true → (1 ≤ size) × (size ≤ max_members)
good_size size fits = grind (arith, nat_tests)

module _ (kind : Kind) (k : Keyword) (v : Json) (unbroken : IsUnbroken kind k v) where
  not_faulty : (broken : OperandRule) → ¬ (IsFaulty broken kind k v)
  not_faulty broken faulty = unbroken broken [] (inl (refl, faulty))

  typed : has_operand_type (class_of_kind kind) k v ≡ true
  typed = not_false (has_operand_type (class_of_kind kind) k v) (not_faulty rule.Type)

-- the members of a list
module _ (kind : Kind) (v : Json) (unbroken : IsUnbroken kind keyword.InSet v) (list : is_list v ≡ true) where
  size_fits : (1 ≤ length (items_of v)) × (length (items_of v) ≤ max_members)
  size_fits = good_size (length (items_of v))
      (λ bad. not_faulty kind keyword.InSet v unbroken rule.Size
      (ap (λ b. b && ((length (items_of v) == 0) || nat_lt max_members (length (items_of v)))) list ∙ bad))

  sound_member : (broken : OperandRule) (i : ℕ) (item : Json) → slice_get (items_of v) i ≡ Some item
      → ¬ (IsFaultyMember broken kind item)
  sound_member broken i item at faulty = unbroken broken (step.Item i ∷ [])
      (inr (member_named keyword.InSet (IsFaultyMember broken kind) v i (item, at, faulty)))

  member_given : (i : ℕ) (item : Json) → slice_get (items_of v) i ≡ Some item
      → ¬ ((c : Cell) → ¬ (GivesValue kind item c))
  member_given i item at none =
      let typed_so : has_type (class_of_kind kind) item ≡ true =
      not_false (has_type (class_of_kind kind) item) (sound_member rule.Type i item at) in
      sound_member rule.Value i item at (typed_so, none)

  members_given : ((values : List Cell) → ¬ (GivesMembers kind v values)) → ⊥
  members_given none = not_without_values kind (items_of v) member_given
      (λ values are. none values (record { some = size_fits.0; few = size_fits.1; each = are }))

grid_typed : (grids typed : Bool) → grids ≡ true → (not grids || typed) ≡ true → typed ≡ true
grid_typed true true has is = refl
grid_typed true false has is = absurd (cc)
grid_typed false typed has is = absurd (cc)

-- where nothing is made, the rule is broken by what has the type and gives nothing
given_by : {X : Type 0} (kind : Kind) (k : Keyword) (v : Json) (broken : OperandRule) (Given : X → Type 0)
    (make : X → Test) → (Lacks (has_operand_type (class_of_kind kind) k v) Given → IsFaulty broken kind k v)
    → IsUnbroken kind k v → ((t : Test) → ¬ (Makes Given make t)) → ⊥
given_by kind k v broken Given make faulty unbroken none =
    not_faulty kind k v unbroken broken (faulty (typed kind k v unbroken, none_given Given make none))

test_given : (kind : Kind) (k : Keyword) (v : Json) → is_for k (class_of_kind kind) ≡ true → IsUnbroken kind k v
    → names_set_file k v ≡ false → ((t : Test) → ¬ (GivesTest kind k v t)) → ⊥
test_given kind keyword.EqualTo v is unbroken file none =
    given_by kind keyword.EqualTo v rule.Value (GivesValue kind v) test.EqualTo (λ lacks. lacks) unbroken none
test_given kind keyword.InSet v is unbroken file none =
    members_given kind v unbroken (list_of (is_list v) (is_string v) (typed kind keyword.InSet v unbroken) file)
    (none_given (GivesMembers kind v) test.InSet none)
test_given kind keyword.IsNull v is unbroken file none =
    let truth : (wanted : Bool) × (v ≡ json.Bool wanted) = truth_of v (typed kind keyword.IsNull v unbroken) in
    none_given (λ wanted. v ≡ json.Bool wanted) test.IsNull none truth.0 truth.1
test_given kind keyword.MatchingRegex v is unbroken file none =
    given_by kind keyword.MatchingRegex v rule.Pattern (GivesPattern v) test.Matching (λ lacks. lacks) unbroken none
test_given kind keyword.ContainingRegex v is unbroken file none =
    given_by kind keyword.ContainingRegex v rule.Pattern (GivesPattern v) test.Containing (λ lacks. lacks) unbroken none
test_given kind keyword.OfLength v is unbroken file none =
    given_by kind keyword.OfLength v rule.Length (GivesLength v) test.OfLength (λ lacks. lacks) unbroken none
test_given kind keyword.LongerThan v is unbroken file none =
    given_by kind keyword.LongerThan v rule.Length (GivesLength v) test.LongerThan (λ lacks. lacks) unbroken none
test_given kind keyword.ShorterThan v is unbroken file none =
    given_by kind keyword.ShorterThan v rule.Length (GivesLength v) test.ShorterThan (λ lacks. lacks) unbroken none
test_given kind keyword.GreaterThan v is unbroken file none =
    given_by kind keyword.GreaterThan v rule.Value (GivesValue kinds.Decimal v) test.Above (λ lacks. lacks) unbroken none
test_given kind keyword.GreaterThanOrEqualTo v is unbroken file none =
    given_by kind keyword.GreaterThanOrEqualTo v rule.Value (GivesValue kinds.Decimal v) test.AtLeast (λ lacks. lacks) unbroken none
test_given kind keyword.LessThan v is unbroken file none =
    given_by kind keyword.LessThan v rule.Value (GivesValue kinds.Decimal v) test.Below (λ lacks. lacks) unbroken none
test_given kind keyword.LessThanOrEqualTo v is unbroken file none =
    given_by kind keyword.LessThanOrEqualTo v rule.Value (GivesValue kinds.Decimal v) test.AtMost (λ lacks. lacks) unbroken none
test_given kind keyword.After v is unbroken file none =
    given_by kind keyword.After v rule.Value (GivesValue kinds.DateTime v) test.Above (λ lacks. lacks) unbroken none
test_given kind keyword.AfterOrAt v is unbroken file none =
    given_by kind keyword.AfterOrAt v rule.Value (GivesValue kinds.DateTime v) test.AtLeast (λ lacks. lacks) unbroken none
test_given kind keyword.Before v is unbroken file none =
    given_by kind keyword.Before v rule.Value (GivesValue kinds.DateTime v) test.Below (λ lacks. lacks) unbroken none
test_given kind keyword.BeforeOrAt v is unbroken file none =
    given_by kind keyword.BeforeOrAt v rule.Value (GivesValue kinds.DateTime v) test.AtMost (λ lacks. lacks) unbroken none
test_given kind keyword.GranularTo v is unbroken file none =
    let typed_so : has_grid_type (class_of_kind kind) v ≡ true =
    grid_typed (is_for keyword.GranularTo (class_of_kind kind)) (has_grid_type (class_of_kind kind) v) is
    (typed kind keyword.GranularTo v unbroken) in
    not_faulty kind keyword.GranularTo v unbroken rule.Grid
    (typed_so, none_given (GivesLevel (class_of_kind kind) v) test.OnGrid none)

pub reading_finds : (kind : Kind) (k : Keyword) (v : Json) (found : Option Test) → is_for k (class_of_kind kind) ≡ true
    → IsUnbroken kind k v → names_set_file k v ≡ false → Reads (GivesTest kind k v) found → IsSome found
reading_finds kind k v (Some t) is unbroken file reads = refl
reading_finds kind k v None is unbroken file reads = absurd (test_given kind k v is unbroken file reads)
