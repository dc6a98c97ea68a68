-- The keywords: the word of each, and the classes of the fields that it is for.
use Rattle.std.specs.Prelude.{ℕ, Bool, true, false, List, [], ◌∷◌, Option, find, bytes_eq, codes}
use Rattle.helix_values.specs.Class.{Class, numbers, strings, moments}
use Rattle.helix_keywords.specs.declared.keyword.Keyword.{Keyword}
use Rattle.helix_keywords.specs.declared.keyword.Keyword.TheVariants as keyword
use Rattle.helix_keywords.specs.declared.keyword.FieldKeyword.{FieldKeyword}
use Rattle.helix_keywords.specs.declared.keyword.FieldKeyword.TheVariants as field_keyword

unfoldable pub word_of : Keyword → List ℕ
word_of keyword.EqualTo = codes "equalTo"
word_of keyword.InSet = codes "inSet"
word_of keyword.IsNull = codes "isNull"
word_of keyword.MatchingRegex = codes "matchingRegex"
word_of keyword.ContainingRegex = codes "containingRegex"
word_of keyword.OfLength = codes "ofLength"
word_of keyword.LongerThan = codes "longerThan"
word_of keyword.ShorterThan = codes "shorterThan"
word_of keyword.GreaterThan = codes "greaterThan"
word_of keyword.GreaterThanOrEqualTo = codes "greaterThanOrEqualTo"
word_of keyword.LessThan = codes "lessThan"
word_of keyword.LessThanOrEqualTo = codes "lessThanOrEqualTo"
word_of keyword.After = codes "after"
word_of keyword.AfterOrAt = codes "afterOrAt"
word_of keyword.Before = codes "before"
word_of keyword.BeforeOrAt = codes "beforeOrAt"
word_of keyword.GranularTo = codes "granularTo"

unfoldable pub field_word : FieldKeyword → List ℕ
field_word field_keyword.EqualToField = codes "equalToField"
field_word field_keyword.GreaterThanField = codes "greaterThanField"
field_word field_keyword.GreaterThanOrEqualToField = codes "greaterThanOrEqualToField"
field_word field_keyword.LessThanField = codes "lessThanField"
field_word field_keyword.LessThanOrEqualToField = codes "lessThanOrEqualToField"
field_word field_keyword.AfterField = codes "afterField"
field_word field_keyword.AfterOrAtField = codes "afterOrAtField"
field_word field_keyword.BeforeField = codes "beforeField"
field_word field_keyword.BeforeOrAtField = codes "beforeOrAtField"

-- all keywords
abbrev pub keywords : List Keyword
keywords = keyword.EqualTo ∷ keyword.InSet ∷ keyword.IsNull
    ∷ keyword.MatchingRegex ∷ keyword.ContainingRegex ∷ keyword.OfLength ∷ keyword.LongerThan ∷ keyword.ShorterThan
    ∷ keyword.GreaterThan ∷ keyword.GreaterThanOrEqualTo ∷ keyword.LessThan ∷ keyword.LessThanOrEqualTo
    ∷ keyword.After ∷ keyword.AfterOrAt ∷ keyword.Before ∷ keyword.BeforeOrAt
    ∷ keyword.GranularTo ∷ []

abbrev pub field_keywords : List FieldKeyword
field_keywords = field_keyword.EqualToField
    ∷ field_keyword.GreaterThanField ∷ field_keyword.GreaterThanOrEqualToField
    ∷ field_keyword.LessThanField ∷ field_keyword.LessThanOrEqualToField
    ∷ field_keyword.AfterField ∷ field_keyword.AfterOrAtField
    ∷ field_keyword.BeforeField ∷ field_keyword.BeforeOrAtField ∷ []

-- the other keys of a constraint
abbrev pub other_words : List (List ℕ)
other_words = codes "field" ∷ codes "offset" ∷ codes "offsetUnit"
    ∷ codes "not" ∷ codes "anyOf" ∷ codes "allOf" ∷ codes "if" ∷ codes "then" ∷ codes "else" ∷ []

-- the keyword with a word
unfoldable pub keyword_named : List ℕ → Option Keyword
keyword_named word = find (λ keyword. bytes_eq word (word_of keyword)) keywords

unfoldable pub field_keyword_named : List ℕ → Option FieldKeyword
field_keyword_named word = find (λ keyword. bytes_eq word (field_word keyword)) field_keywords

-- classes: all of them, one, or the two that are ordered along a ladder of grids
abbrev pub any_class : Class → Bool
any_class class = true

abbrev pub string_class : Class → Bool
string_class strings = true
string_class other = false

abbrev pub number_class : Class → Bool
number_class numbers = true
number_class other = false

abbrev pub moment_class : Class → Bool
moment_class moments = true
moment_class other = false

abbrev pub ladder_class : Class → Bool
ladder_class numbers = true
ladder_class moments = true
ladder_class other = false

-- the keyword is for fields of the class
unfoldable pub is_for : Keyword → Class → Bool
is_for keyword.EqualTo = any_class
is_for keyword.InSet = any_class
is_for keyword.IsNull = any_class
is_for keyword.MatchingRegex = string_class
is_for keyword.ContainingRegex = string_class
is_for keyword.OfLength = string_class
is_for keyword.LongerThan = string_class
is_for keyword.ShorterThan = string_class
is_for keyword.GreaterThan = number_class
is_for keyword.GreaterThanOrEqualTo = number_class
is_for keyword.LessThan = number_class
is_for keyword.LessThanOrEqualTo = number_class
is_for keyword.After = moment_class
is_for keyword.AfterOrAt = moment_class
is_for keyword.Before = moment_class
is_for keyword.BeforeOrAt = moment_class
is_for keyword.GranularTo = ladder_class

unfoldable pub is_for_field : FieldKeyword → Class → Bool
is_for_field field_keyword.EqualToField = any_class
is_for_field field_keyword.GreaterThanField = number_class
is_for_field field_keyword.GreaterThanOrEqualToField = number_class
is_for_field field_keyword.LessThanField = number_class
is_for_field field_keyword.LessThanOrEqualToField = number_class
is_for_field field_keyword.AfterField = moment_class
is_for_field field_keyword.AfterOrAtField = moment_class
is_for_field field_keyword.BeforeField = moment_class
is_for_field field_keyword.BeforeOrAtField = moment_class
