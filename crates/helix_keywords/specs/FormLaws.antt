-- The form of a constraint: its members have at most one.
use Rattle.std.proofs.Common.{◌≡◌, ℕ, ◌⊎◌, inl, inr, Bool, true, false, ◌==◌, List, [], ◌∷◌, ◌++◌, length, map, Option, Some, None, codes, refl, sym, ◌∙◌, ap, arith}
use Rattle.std.specs.List.{AllByRecursion, list_any, list_all}
use Rattle.std.proofs.lemmas.Bool.{and_parts, or_cases, eqb-true}
use Rattle.helix_json.specs.declared.value.Member.{Member}
use Rattle.helix_places.specs.Members.{has_key, are_keys}
use Rattle.helix_keywords.specs.declared.form.Form.{Form}
use Rattle.helix_keywords.specs.declared.form.Form.TheVariants as form
use Rattle.helix_keywords.specs.declared.keyword.Keyword.{Keyword}
use Rattle.helix_keywords.specs.declared.keyword.Keyword.TheVariants as keyword
use Rattle.helix_keywords.specs.declared.keyword.FieldKeyword.{FieldKeyword}
use Rattle.helix_keywords.specs.declared.keyword.FieldKeyword.TheVariants as field_keyword
use Rattle.helix_keywords.specs.Keywords.{keywords, field_keywords, word_of, field_word}
use Rattle.helix_keywords.specs.Forms.{form_of, forms, has_form, key_sets}
use Rattle.helix_keywords.specs.SearchLaws.{find_passes, find_none}
use Rattle.helix_keywords.specs.Inner.Telling.{shorter, telling}
use Rattle.helix_keywords.specs.Inner.ToldLaws.{telling_there, told_is, told_telling}

not_both : (b : Bool) → b ≡ true → b ≡ false → ⊥
not_both b yes_it_is not_it = cc

-- the members' number is that of the keys
key_count : (keys : List (List ℕ)) (members : List Member) → are_keys keys members ≡ true
    → length members ≡ length keys
key_count keys members are = eqb-true (length members) (length keys)
    (and_parts (length members == length keys) (list_all (λ k. has_key k members) keys) are).0

only_set : (test : List (List ℕ) → Bool) (keys : List (List ℕ)) → list_any test (keys ∷ []) ≡ true → test keys ≡ true
only_set test keys any = elim (or_cases (test keys) false any) [ inl e ↦ e | inr e ↦ absurd (not_both false e refl) ]

if_or_else : (members : List Member) → has_form form.If members ≡ true → has_form form.IfElse members ≡ true → ⊥
unfolding has_form key_sets
if_or_else members first second =
    let two : length members ≡ 2 = key_count (codes "if" ∷ codes "then" ∷ []) members
    (only_set (λ keys. are_keys keys members) (codes "if" ∷ codes "then" ∷ []) first) in
    let three : length members ≡ 3 = key_count (codes "if" ∷ codes "then" ∷ codes "else" ∷ []) members
    (only_set (λ keys. are_keys keys members) (codes "if" ∷ codes "then" ∷ codes "else" ∷ []) second) in
    omega arith

-- a form is the shorter one, or that with `else`
pub shorter_or_not : (f : Form) → (f ≡ shorter f) ⊎ (f ≡ form.IfElse)
shorter_or_not (form.Atom k) = inl refl
shorter_or_not (form.Related k) = inl refl
shorter_or_not form.Not = inl refl
shorter_or_not form.AnyOf = inl refl
shorter_or_not form.AllOf = inl refl
shorter_or_not form.If = inl refl
shorter_or_not form.IfElse = inr refl

with_else : (f g : Form) (members : List Member) → f ≡ shorter f → g ≡ form.IfElse → shorter f ≡ shorter g
    → has_form f members ≡ true → has_form g members ≡ true → ⊥
with_else f g members short long same first second =
    let its : f ≡ form.If = short ∙ (same ∙ ap shorter long) in
    if_or_else members (ap (λ h. has_form h members) (sym its) ∙ first)
    (ap (λ h. has_form h members) (sym long) ∙ second)

-- at most one form
pub one_form : (f g : Form) (members : List Member) → has_form f members ≡ true → has_form g members ≡ true → f ≡ g
one_form f g members first second =
    let same : shorter f ≡ shorter g = told_is f (shorter g) members (telling g) first
    (telling_there g members second) (told_telling g) in
    elim (shorter_or_not f) [
      | inl short ↦ elim (shorter_or_not g) [
        | inl other ↦ short ∙ (same ∙ sym other)
        | inr long ↦ absurd (with_else f g members short long same first second)
      ]
      | inr long ↦ elim (shorter_or_not g) [
        | inl short ↦ absurd (with_else g f members short long (sym same) second first)
        | inr other ↦ long ∙ sym other
      ]
    ]

-- all keywords are listed
pub at_keyword : (P : Keyword → Type 0) → AllByRecursion P keywords → (k : Keyword) → P k
at_keyword P a keyword.EqualTo = a.0
at_keyword P a keyword.InSet = a.1.0
at_keyword P a keyword.IsNull = a.1.1.0
at_keyword P a keyword.MatchingRegex = a.1.1.1.0
at_keyword P a keyword.ContainingRegex = a.1.1.1.1.0
at_keyword P a keyword.OfLength = a.1.1.1.1.1.0
at_keyword P a keyword.LongerThan = a.1.1.1.1.1.1.0
at_keyword P a keyword.ShorterThan = a.1.1.1.1.1.1.1.0
at_keyword P a keyword.GreaterThan = a.1.1.1.1.1.1.1.1.0
at_keyword P a keyword.GreaterThanOrEqualTo = a.1.1.1.1.1.1.1.1.1.0
at_keyword P a keyword.LessThan = a.1.1.1.1.1.1.1.1.1.1.0
at_keyword P a keyword.LessThanOrEqualTo = a.1.1.1.1.1.1.1.1.1.1.1.0
at_keyword P a keyword.After = a.1.1.1.1.1.1.1.1.1.1.1.1.0
at_keyword P a keyword.AfterOrAt = a.1.1.1.1.1.1.1.1.1.1.1.1.1.0
at_keyword P a keyword.Before = a.1.1.1.1.1.1.1.1.1.1.1.1.1.1.0
at_keyword P a keyword.BeforeOrAt = a.1.1.1.1.1.1.1.1.1.1.1.1.1.1.1.0
at_keyword P a keyword.GranularTo = a.1.1.1.1.1.1.1.1.1.1.1.1.1.1.1.1.0

pub at_field_keyword : (P : FieldKeyword → Type 0) → AllByRecursion P field_keywords → (k : FieldKeyword) → P k
at_field_keyword P a field_keyword.EqualToField = a.0
at_field_keyword P a field_keyword.GreaterThanField = a.1.0
at_field_keyword P a field_keyword.GreaterThanOrEqualToField = a.1.1.0
at_field_keyword P a field_keyword.LessThanField = a.1.1.1.0
at_field_keyword P a field_keyword.LessThanOrEqualToField = a.1.1.1.1.0
at_field_keyword P a field_keyword.AfterField = a.1.1.1.1.1.0
at_field_keyword P a field_keyword.AfterOrAtField = a.1.1.1.1.1.1.0
at_field_keyword P a field_keyword.BeforeField = a.1.1.1.1.1.1.1.0
at_field_keyword P a field_keyword.BeforeOrAtField = a.1.1.1.1.1.1.1.1.0

split_all : {A : Type 0} (P : A → Type 0) (xs ys : List A) → AllByRecursion P (xs ++ ys)
    → AllByRecursion P xs × AllByRecursion P ys
split_all P [] ys all = (tt, all)
split_all P (x ∷ xs) ys all = let rest = split_all P xs ys all.1 in ((all.0, rest.0), rest.1)

all_map : {A B : Type 0} (P : B → Type 0) (f : A → B) (xs : List A) → AllByRecursion P (map f xs)
    → AllByRecursion (λ x. P (f x)) xs
all_map P f [] all = tt
all_map P f (x ∷ xs) all = (all.0, all_map P f xs all.1)

at_each : (P : Form → Type 0) → AllByRecursion (λ k. P (form.Atom k)) keywords
    → AllByRecursion (λ k. P (form.Related k)) field_keywords
    → AllByRecursion P (form.Not ∷ form.AnyOf ∷ form.AllOf ∷ form.If ∷ form.IfElse ∷ []) → (f : Form) → P f
at_each P atoms related parts (form.Atom k) = at_keyword (λ k. P (form.Atom k)) atoms k
at_each P atoms related parts (form.Related k) = at_field_keyword (λ k. P (form.Related k)) related k
at_each P atoms related parts form.Not = parts.0
at_each P atoms related parts form.AnyOf = parts.1.0
at_each P atoms related parts form.AllOf = parts.1.1.0
at_each P atoms related parts form.If = parts.1.1.1.0
at_each P atoms related parts form.IfElse = parts.1.1.1.1.0

-- all forms are listed
at_form : (P : Form → Type 0) → AllByRecursion P forms → (f : Form) → P f
at_form P all f =
    let atoms = split_all P (map form.Atom keywords) (map form.Related field_keywords
    ++ (form.Not ∷ form.AnyOf ∷ form.AllOf ∷ form.If ∷ form.IfElse ∷ [])) all in
    let others = split_all P (map form.Related field_keywords)
    (form.Not ∷ form.AnyOf ∷ form.AllOf ∷ form.If ∷ form.IfElse ∷ []) atoms.1 in
    at_each P (all_map P form.Atom keywords atoms.0) (all_map P form.Related field_keywords others.0) others.1 f

pub has_form_of : (members : List Member) (f : Form) → form_of members ≡ Some f → has_form f members ≡ true
unfolding form_of
has_form_of members f is = find_passes (λ g. has_form g members) forms f is

has_none : (members : List Member) → form_of members ≡ None → (f : Form) → has_form f members ≡ false
unfolding form_of
has_none members is f = at_form (λ g. has_form g members ≡ false) (find_none (λ g. has_form g members) forms is) f

form_by : (members : List Member) (f : Form) (o : Option Form) → form_of members ≡ o → has_form f members ≡ true
    → o ≡ Some f
form_by members f None is has = absurd (not_both (has_form f members) has (has_none members is f))
form_by members f (Some g) is has = ap Some (one_form g f members (has_form_of members g is) has)

pub form_of_has : (members : List Member) (f : Form) → has_form f members ≡ true → form_of members ≡ Some f
form_of_has members f has = form_by members f (form_of members) refl has

no_form_by : (members : List Member) (o : Option Form) → form_of members ≡ o
    → ((f : Form) → has_form f members ≡ false) → o ≡ None
no_form_by members None is none = refl
no_form_by members (Some g) is none = absurd (not_both (has_form g members) (has_form_of members g is) (none g))

pub no_form : (members : List Member) → ((f : Form) → has_form f members ≡ false) → form_of members ≡ None
no_form members none = no_form_by members (form_of members) refl none

first_key : (key : List ℕ) (keys : List (List ℕ)) (members : List Member) → are_keys (key ∷ keys) members ≡ true
    → has_key key members ≡ true
first_key key keys members are = (and_parts (has_key key members) (list_all (λ k. has_key k members) keys)
    (and_parts (length members == length (key ∷ keys)) (list_all (λ k. has_key k members) (key ∷ keys)) are).1).0

-- an atomic constraint and a relation have a `field`
pub atom_has_field : (k : Keyword) (members : List Member) → has_form (form.Atom k) members ≡ true
    → has_key (codes "field") members ≡ true
unfolding has_form key_sets
atom_has_field k members has = first_key (codes "field") (word_of k ∷ []) members
    (only_set (λ keys. are_keys keys members) (codes "field" ∷ word_of k ∷ []) has)

pub related_has_field : (k : FieldKeyword) (members : List Member) → has_form (form.Related k) members ≡ true
    → has_key (codes "field") members ≡ true
unfolding has_form key_sets
related_has_field k members has = elim (or_cases _ _ has) [
  | inl e ↦ first_key (codes "field") (field_word k ∷ []) members e
  | inr more ↦ elim (or_cases _ _ more) [
    | inl e ↦ first_key (codes "field") (field_word k ∷ codes "offset" ∷ []) members e
    | inr last ↦ elim (or_cases _ _ last) [
      | inl e ↦ first_key (codes "field") (field_word k ∷ codes "offsetUnit" ∷ []) members e
      | inr e ↦ first_key (codes "field") (field_word k ∷ codes "offset" ∷ codes "offsetUnit" ∷ []) members
          (only_set (λ keys. are_keys keys members)
          (codes "field" ∷ field_word k ∷ codes "offset" ∷ codes "offsetUnit" ∷ []) e)
    ]
  ]
]

-- and a member with their keyword
pub atom_has_keyword : (k : Keyword) (members : List Member) → has_form (form.Atom k) members ≡ true
    → has_key (word_of k) members ≡ true
atom_has_keyword k members has = telling_there (form.Atom k) members has

pub related_has_keyword : (k : FieldKeyword) (members : List Member) → has_form (form.Related k) members ≡ true
    → has_key (field_word k) members ≡ true
related_has_keyword k members has = telling_there (form.Related k) members has
