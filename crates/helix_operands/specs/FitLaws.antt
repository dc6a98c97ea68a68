-- The test that an operand gives is one for the kind.
use Rattle.std.proofs.Common.{◌≡◌, ◌≢◌, ℕ, ◌<◌, ◌≤◌, Bool, true, false, if◌then◌else◌, List, [], ◌∷◌, length, Option, Some, None, refl, arith}
use Rattle.std.specs.List.{AllByRecursion}
use Rattle.std.specs.Option.{IsSomeAnd}
use Rattle.std.specs.Str.{bytes_eq}
use Rattle.std.specs.Prelude.{codes}
use Rattle.helix_json.specs.declared.value.Json.{Json}
use Rattle.helix_json.specs.declared.value.Json as json
use Rattle.helix_keywords.specs.declared.keyword.Keyword.{Keyword}
use Rattle.helix_keywords.specs.declared.keyword.Keyword.TheVariants as keyword
use Rattle.helix_keywords.specs.Keywords.{is_for, moment_class, number_class, string_class}
use Rattle.helix_operands.specs.Tests.{GivesTest}
use Rattle.helix_operands.specs.Values.{AreValues, GivesLength, GivesLevel, GivesMembers, GivesPattern, GivesValue, level_named, text_of}
use Rattle.helix_operands.specs.MadeLaws.{of_made}
use Rattle.helix_places.specs.Members.{items_of}
use Rattle.helix_profile.specs.Validity.{IsBound, IsLevel, IsTestFor}
use Rattle.helix_profile.specs.declared.test.Test.{Test}
use Rattle.helix_profile.specs.declared.test.Test.TheVariants as test
use Rattle.helix_texts.specs.Spelling.{Spells}
use Rattle.helix_values.specs.Class.{Class, numbers, strings, moments, class_of_kind}
use Rattle.helix_values.specs.Universe.{InUniverse}
use Rattle.helix_values.specs.declared.cell.Cell.{Cell}
use Rattle.helix_values.specs.declared.kind.Kind.{Kind}
use Rattle.helix_values.specs.declared.kind.Kind.TheVariants as kinds

spelled_within : (kind : Kind) (text : Option (List ℕ)) (c : Cell) → IsSomeAnd text (λ t. Spells kind t c)
    → InUniverse kind c
spelled_within kind None c gives = absurd gives
spelled_within kind (Some t) c gives = gives.within

value_within : (kind : Kind) (v : Json) (c : Cell) → GivesValue kind v c → InUniverse kind c
value_within kind v c gives = spelled_within kind (text_of (class_of_kind kind) v) c gives

each_within : (kind : Kind) (items : List Json) (values : List Cell) → AreValues kind items values
    → AllByRecursion (InUniverse kind) values
each_within kind [] [] are = tt
each_within kind [] (c ∷ values) are = absurd are
each_within kind (item ∷ items) [] are = absurd are
each_within kind (item ∷ items) (c ∷ values) are =
    (value_within kind item c are.0, each_within kind items values are.1)

some_values : (kind : Kind) (items : List Json) (values : List Cell) → 1 ≤ length items → AreValues kind items values
    → values ≢ []
some_values kind [] values some are empty = omega arith
some_values kind (item ∷ items) [] some are empty = are
some_values kind (item ∷ items) (c ∷ values) some are empty = cc

set_fits : (kind : Kind) (v : Json) (values : List Cell) → GivesMembers kind v values
    → IsTestFor kind (test.InSet values)
set_fits kind v values gives = (
  some_values kind (items_of v) values gives.some gives.each,
  each_within kind (items_of v) values gives.each,
)

strings_are : (class : Class) → string_class class ≡ true → class ≡ strings
strings_are strings is = refl
strings_are other is = absurd (cc)

bound_number : (class : Class) (c : Cell) → number_class class ≡ true → InUniverse kinds.Decimal c → IsBound class c
bound_number numbers c is within = within
bound_number other c is within = absurd (cc)

bound_moment : (class : Class) (c : Cell) → moment_class class ≡ true → InUniverse kinds.DateTime c → IsBound class c
bound_moment moments c is within = within
bound_moment other c is within = absurd (cc)

seven : (a b c d e f g : Bool) (level : ℕ)
    → (if a then Some 0 else if b then Some 1 else if c then Some 2 else if d then Some 3 else if e then Some 4
    else if f then Some 5 else if g then Some 6 else None) ≡ Some level → level < 7
seven true b c d e f g level is = let same : 0 ≡ level = cc in omega arith
seven false true c d e f g level is = let same : 1 ≡ level = cc in omega arith
seven false false true d e f g level is = let same : 2 ≡ level = cc in omega arith
seven false false false true e f g level is = let same : 3 ≡ level = cc in omega arith
seven false false false false true f g level is = let same : 4 ≡ level = cc in omega arith
seven false false false false false true g level is = let same : 5 ≡ level = cc in omega arith
seven false false false false false false true level is = let same : 6 ≡ level = cc in omega arith
seven false false false false false false false level is = absurd (cc)

named_below : (word : List ℕ) (level : ℕ) → level_named word ≡ Some level → level < 7
unfolding level_named
named_below word level is = seven (bytes_eq word (codes "millis")) (bytes_eq word (codes "seconds"))
    (bytes_eq word (codes "minutes")) (bytes_eq word (codes "hours")) (bytes_eq word (codes "days"))
    (bytes_eq word (codes "months")) (bytes_eq word (codes "years")) level is

level_fits : (class : Class) (v : Json) (level : ℕ) → GivesLevel class v level → IsLevel class level
level_fits numbers v level gives = gives.0
level_fits moments (json.Str word) level gives = named_below word level gives
level_fits moments other level gives = absurd gives
level_fits other v level gives = absurd gives

module _ (kind : Kind) (v : Json) where
  lengths_fit : (make : ℕ → Test) → ((n : ℕ) → (class_of_kind kind ≡ strings) × (n ≤ 1000) → IsTestFor kind (make n))
      → string_class (class_of_kind kind) ≡ true → (n : ℕ) → GivesLength v n → IsTestFor kind (make n)
  lengths_fit make fits is n gives = fits n (strings_are (class_of_kind kind) is, gives.0)

  numbers_fit : number_class (class_of_kind kind) ≡ true → (c : Cell) → GivesValue kinds.Decimal v c
      → IsBound (class_of_kind kind) c
  numbers_fit is c gives = bound_number (class_of_kind kind) c is (value_within kinds.Decimal v c gives)

  moments_fit : moment_class (class_of_kind kind) ≡ true → (c : Cell) → GivesValue kinds.DateTime v c
      → IsBound (class_of_kind kind) c
  moments_fit is c gives = bound_moment (class_of_kind kind) c is (value_within kinds.DateTime v c gives)

pub test_fits : (kind : Kind) (k : Keyword) (v : Json) (t : Test) → is_for k (class_of_kind kind) ≡ true
    → GivesTest kind k v t → IsTestFor kind t
unfolding is_for
test_fits kind keyword.EqualTo v t is =
    of_made (GivesValue kind v) test.EqualTo (IsTestFor kind) (value_within kind v) t
test_fits kind keyword.InSet v t is = of_made (GivesMembers kind v) test.InSet (IsTestFor kind) (set_fits kind v) t
test_fits kind keyword.IsNull v t is =
    of_made (λ wanted. v ≡ json.Bool wanted) test.IsNull (IsTestFor kind) (λ wanted gives. tt) t
test_fits kind keyword.MatchingRegex v t is = of_made (GivesPattern v) test.Matching (IsTestFor kind)
    (λ regex gives. strings_are (class_of_kind kind) is) t
test_fits kind keyword.ContainingRegex v t is = of_made (GivesPattern v) test.Containing (IsTestFor kind)
    (λ regex gives. strings_are (class_of_kind kind) is) t
test_fits kind keyword.OfLength v t is = of_made (GivesLength v) test.OfLength (IsTestFor kind)
    (lengths_fit kind v test.OfLength (λ n fits. fits) is) t
test_fits kind keyword.LongerThan v t is = of_made (GivesLength v) test.LongerThan (IsTestFor kind)
    (lengths_fit kind v test.LongerThan (λ n fits. fits) is) t
test_fits kind keyword.ShorterThan v t is = of_made (GivesLength v) test.ShorterThan (IsTestFor kind)
    (lengths_fit kind v test.ShorterThan (λ n fits. fits) is) t
test_fits kind keyword.GreaterThan v t is =
    of_made (GivesValue kinds.Decimal v) test.Above (IsTestFor kind) (numbers_fit kind v is) t
test_fits kind keyword.GreaterThanOrEqualTo v t is =
    of_made (GivesValue kinds.Decimal v) test.AtLeast (IsTestFor kind) (numbers_fit kind v is) t
test_fits kind keyword.LessThan v t is =
    of_made (GivesValue kinds.Decimal v) test.Below (IsTestFor kind) (numbers_fit kind v is) t
test_fits kind keyword.LessThanOrEqualTo v t is =
    of_made (GivesValue kinds.Decimal v) test.AtMost (IsTestFor kind) (numbers_fit kind v is) t
test_fits kind keyword.After v t is =
    of_made (GivesValue kinds.DateTime v) test.Above (IsTestFor kind) (moments_fit kind v is) t
test_fits kind keyword.AfterOrAt v t is =
    of_made (GivesValue kinds.DateTime v) test.AtLeast (IsTestFor kind) (moments_fit kind v is) t
test_fits kind keyword.Before v t is =
    of_made (GivesValue kinds.DateTime v) test.Below (IsTestFor kind) (moments_fit kind v is) t
test_fits kind keyword.BeforeOrAt v t is =
    of_made (GivesValue kinds.DateTime v) test.AtMost (IsTestFor kind) (moments_fit kind v is) t
test_fits kind keyword.GranularTo v t is = of_made (GivesLevel (class_of_kind kind) v) test.OnGrid (IsTestFor kind)
    (level_fits (class_of_kind kind) v) t
