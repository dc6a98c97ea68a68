-- A relation that is given is one for its two fields, where no rule is broken.
use Rattle.std.proofs.Common.{◌≡◌, ◌≢◌, ℕ, zero, suc, ◌*◌, ◌^◌, ◌<◌, ◌≤◌, ◌⊎◌, inl, inr, ℤ, pos, negsuc, ◌*ℤ◌, nat_abs, unsigned_abs, Bool, true, false, not, ◌&&◌, if◌then◌else◌, List, [], ◌∷◌, length, Option, Some, None, option_map, slice_get, refl, sym, ◌∙◌, ap, subst, arith}
use Rattle.std.specs.Str.{bytes_eq}
use Rattle.std.proofs.lemmas.Int.{unsigned_abs-mul}
use Rattle.std.proofs.lemmas.List.Quantifiers.{position-Some}
use Rattle.helix_json.specs.declared.value.Json.{Json}
use Rattle.helix_json.specs.declared.value.Json as json
use Rattle.helix_keywords.specs.Keywords.{is_for_field}
use Rattle.helix_keywords.specs.declared.keyword.FieldKeyword.{FieldKeyword}
use Rattle.helix_keywords.specs.declared.keyword.FieldKeyword.TheVariants as field_keyword
use Rattle.helix_ladders.specs.declared.offset.Offset.{Offset}
use Rattle.helix_ladders.specs.declared.offset.Offset.TheVariants as offset
use Rattle.helix_profile.specs.declared.field.Field.{Field}
use Rattle.helix_profile.specs.Validity.{IsCompareFor, IsOffsetFor}
use Rattle.helix_values.specs.Class.{Class, booleans, numbers, strings, moments}
use Rattle.helix_values.specs.declared.kind.Kind.{Kind}
use Rattle.helix_values.specs.declared.kind.Kind.TheVariants as kind
use Rattle.helix_references.specs.declared.unit.MomentUnit.{MomentUnit}
use Rattle.helix_references.specs.declared.unit.MomentUnit.TheVariants as unit
use Rattle.helix_references.specs.Naming.{index_by, index_in, index_named, kind_by, kind_at}
use Rattle.helix_references.specs.Offsets.{GivesWhole}
use Rattle.helix_references.specs.Relations.{GivesOffset, GivesPlain, compare_of, shift_by}
use Rattle.helix_references.specs.Units.{allowed, greatest, is_calendar, is_date, size, unit_in, unit_named}
use Rattle.helix_references.specs.RefusalLaws.{some_of}

not_both : (b : Bool) → b ≡ true → b ≡ false → ⊥
not_both b yes_it_is not_it = cc

some_at : {A : Type 0} (xs : List A) (i : ℕ) → i < length xs → (x : A) × (slice_get xs i ≡ Some x)
some_at [] i within = absurd (omega arith)
some_at (x ∷ xs) zero within = (x, refl)
some_at (x ∷ xs) (suc i) within = some_at xs i (omega arith)

named_within : (fields : List Field) (name : List ℕ) (i : ℕ) → index_named fields name ≡ Some i → i < length fields
named_within [] name i is = absurd (let e : None ≡ Some i = is in cc)
named_within (field ∷ fields) name i is =
    (position-Some (λ f. bytes_eq f.name name) (field ∷ fields) i field is).0

in_within : (fields : List Field) (v : Json) (i : ℕ) → index_in fields v ≡ Some i → i < length fields
in_within fields json.Null i is = absurd (cc)
in_within fields (json.Bool b) i is = absurd (cc)
in_within fields (json.Number text) i is = absurd (cc)
in_within fields (json.Str name) i is = named_within fields name i is
in_within fields (json.List' shape items) i is = absurd (cc)
in_within fields (json.Object' shape members) i is = absurd (cc)

pub by_within : (fields : List Field) (o : Option Json) (i : ℕ) → index_by fields o ≡ Some i → i < length fields
by_within fields None i is = absurd (cc)
by_within fields (Some v) i is = in_within fields v i is

-- the field that is named
pub record NamedField (fields : List Field) (o : Option Json) (i : ℕ) : Type 0 where
  pub within : i < length fields
  pub field : Field
  pub at : slice_get fields i ≡ Some field
  pub kind_is : kind_by fields o ≡ Some field.kind

pub named_field : (fields : List Field) (o : Option Json) (i : ℕ) → index_by fields o ≡ Some i → NamedField fields o i
named_field fields o i is =
    let some = some_at fields i (by_within fields o i is) in record {
      within = by_within fields o i is;
      field = some.0;
      at = some.1;
      kind_is = ap (kind_at fields) is ∙ ap (option_map (λ f. f.kind)) some.1;
    }

pub one_or_not : (a b : Class) → (a ≡ b) ⊎ (a ≢ b)
one_or_not booleans booleans = inl refl
one_or_not booleans numbers = inr (λ e. cc)
one_or_not booleans strings = inr (λ e. cc)
one_or_not booleans moments = inr (λ e. cc)
one_or_not numbers booleans = inr (λ e. cc)
one_or_not numbers numbers = inl refl
one_or_not numbers strings = inr (λ e. cc)
one_or_not numbers moments = inr (λ e. cc)
one_or_not strings booleans = inr (λ e. cc)
one_or_not strings numbers = inr (λ e. cc)
one_or_not strings strings = inl refl
one_or_not strings moments = inr (λ e. cc)
one_or_not moments booleans = inr (λ e. cc)
one_or_not moments numbers = inr (λ e. cc)
one_or_not moments strings = inr (λ e. cc)
one_or_not moments moments = inl refl

-- a keyword for a class compares as the class does
pub compare_for : (k : FieldKeyword) (class : Class) → is_for_field k class ≡ true
    → IsCompareFor class (compare_of k)
unfolding is_for_field
compare_for field_keyword.EqualToField booleans is = refl
compare_for field_keyword.EqualToField strings is = refl
compare_for field_keyword.EqualToField numbers is = tt
compare_for field_keyword.EqualToField moments is = tt
compare_for field_keyword.GreaterThanField booleans is = absurd (not_both false is refl)
compare_for field_keyword.GreaterThanField strings is = absurd (not_both false is refl)
compare_for field_keyword.GreaterThanField numbers is = tt
compare_for field_keyword.GreaterThanField moments is = tt
compare_for field_keyword.GreaterThanOrEqualToField booleans is = absurd (not_both false is refl)
compare_for field_keyword.GreaterThanOrEqualToField strings is = absurd (not_both false is refl)
compare_for field_keyword.GreaterThanOrEqualToField numbers is = tt
compare_for field_keyword.GreaterThanOrEqualToField moments is = tt
compare_for field_keyword.LessThanField booleans is = absurd (not_both false is refl)
compare_for field_keyword.LessThanField strings is = absurd (not_both false is refl)
compare_for field_keyword.LessThanField numbers is = tt
compare_for field_keyword.LessThanField moments is = tt
compare_for field_keyword.LessThanOrEqualToField booleans is = absurd (not_both false is refl)
compare_for field_keyword.LessThanOrEqualToField strings is = absurd (not_both false is refl)
compare_for field_keyword.LessThanOrEqualToField numbers is = tt
compare_for field_keyword.LessThanOrEqualToField moments is = tt
compare_for field_keyword.AfterField booleans is = absurd (not_both false is refl)
compare_for field_keyword.AfterField strings is = absurd (not_both false is refl)
compare_for field_keyword.AfterField numbers is = tt
compare_for field_keyword.AfterField moments is = tt
compare_for field_keyword.AfterOrAtField booleans is = absurd (not_both false is refl)
compare_for field_keyword.AfterOrAtField strings is = absurd (not_both false is refl)
compare_for field_keyword.AfterOrAtField numbers is = tt
compare_for field_keyword.AfterOrAtField moments is = tt
compare_for field_keyword.BeforeField booleans is = absurd (not_both false is refl)
compare_for field_keyword.BeforeField strings is = absurd (not_both false is refl)
compare_for field_keyword.BeforeField numbers is = tt
compare_for field_keyword.BeforeField moments is = tt
compare_for field_keyword.BeforeOrAtField booleans is = absurd (not_both false is refl)
compare_for field_keyword.BeforeOrAtField strings is = absurd (not_both false is refl)
compare_for field_keyword.BeforeOrAtField numbers is = tt
compare_for field_keyword.BeforeOrAtField moments is = tt

one_size : (z : ℤ) → nat_abs z ≡ unsigned_abs z
one_size (pos n) = refl
one_size (negsuc n) = refl

no_offset : (class : Class) (right : Kind) → IsOffsetFor right class (offset.Plain (pos 0))
no_offset booleans right = refl
no_offset numbers right = omega arith
no_offset strings right = refl
no_offset moments right = omega arith

plain_range : (right : Kind) (value : Json) (given : Offset) → GivesPlain value given
    → IsOffsetFor right numbers given
plain_range right (json.Number text) given (units, gives, is) =
    let P : Offset → Type 0 = IsOffsetFor right numbers in
    let small : unsigned_abs units ≤ 10 ^ 35 = omega (arith, one_size units, gives.1) in subst P (sym is) small
plain_range right json.Null given (units, gives, is) = absurd gives
plain_range right (json.Bool b) given (units, gives, is) = absurd gives
plain_range right (json.Str text) given (units, gives, is) = absurd gives
plain_range right (json.List' shape items) given (units, gives, is) = absurd gives
plain_range right (json.Object' shape members) given (units, gives, is) = absurd gives

calendar_by : (right : Kind) (w u : MomentUnit) → (if is_calendar w && not (is_date (Some right)) then None else Some w)
    ≡ Some u → is_calendar u ≡ true → is_date (Some right) ≡ true
calendar_by right w u is calendar = by (is_date (Some right)) (is_calendar w) refl refl is
  where
    by : (date long : Bool) → is_date (Some right) ≡ date → is_calendar w ≡ long
        → (if long && not date then None else Some w) ≡ Some u → is_date (Some right) ≡ true
    by true long date_is long_is e = date_is
    by false true date_is long_is e = absurd (let f : None ≡ Some u = e in cc)
    by false false date_is long_is e = absurd (let same : w ≡ u = cc in
        not_both (is_calendar u) calendar (ap is_calendar (sym same) ∙ long_is))

date_kind : (right : Kind) → is_date (Some right) ≡ true → right ≡ kind.Date
date_kind kind.Boolean is = absurd (not_both false is refl)
date_kind kind.Integer is = absurd (not_both false is refl)
date_kind kind.Decimal is = absurd (not_both false is refl)
date_kind (kind.Text alphabet) is = absurd (not_both false is refl)
date_kind kind.Date is = refl
date_kind kind.DateTime is = absurd (not_both false is refl)
date_kind (kind.Code code) is = absurd (not_both false is refl)

allowed_date : (right : Kind) (o : Option MomentUnit) (u : MomentUnit) → allowed (Some right) o ≡ Some u
    → is_calendar u ≡ true → right ≡ kind.Date
allowed_date right None u is calendar = absurd (cc)
allowed_date right (Some w) u is calendar = date_kind right (calendar_by right w u is calendar)

calendar_date : (right : Kind) (v : Json) (u : MomentUnit) → unit_in (Some right) v ≡ Some u → is_calendar u ≡ true
    → right ≡ kind.Date
calendar_date right (json.Str word) u is calendar = allowed_date right (unit_named word) u is calendar
calendar_date right json.Null u is calendar = absurd (cc)
calendar_date right (json.Bool b) u is calendar = absurd (cc)
calendar_date right (json.Number text) u is calendar = absurd (cc)
calendar_date right (json.List' shape items) u is calendar = absurd (cc)
calendar_date right (json.Object' shape members) u is calendar = absurd (cc)

times_size : (n : ℤ) (k most : ℕ) → nat_abs n * k ≤ most → unsigned_abs (n *ℤ pos k) ≤ most
times_size n k most small = subst (λ s. s ≤ most) (sym (unsigned_abs-mul n (pos k)))
    (subst (λ s. s * k ≤ most) (one_size n) small)

shift_range : (right : Kind) (v : Json) (u : MomentUnit) (n : ℤ) → unit_in (Some right) v ≡ Some u
    → nat_abs n * size u ≤ greatest u → IsOffsetFor right moments (shift_by u n)
shift_range right v unit.Millis n is small = times_size n 1 315537897599999 small
shift_range right v unit.Seconds n is small = times_size n 1000 315537897599999 small
shift_range right v unit.Minutes n is small = times_size n 60000 315537897599999 small
shift_range right v unit.Hours n is small = times_size n 3600000 315537897599999 small
shift_range right v unit.Days n is small = times_size n 86400000 315537897599999 small
shift_range right v unit.Months n is small =
    (calendar_date right v unit.Months is refl, omega (arith, one_size n))
shift_range right v unit.Years n is small = (calendar_date right v unit.Years is refl, omega (arith, one_size n))
shift_range right v unit.WorkingDays n is small =
    (calendar_date right v unit.WorkingDays is refl, omega (arith, one_size n))

-- an offset that is given is in range
pub offset_range : (class : Class) (right : Kind) (value unit : Option Json) (given : Offset)
    → GivesOffset class (Some right) value unit given → IsOffsetFor right class given
offset_range class right None None given is =
    let P : Offset → Type 0 = IsOffsetFor right class in subst P (sym is) (no_offset class right)
offset_range numbers right (Some value) None given gives = plain_range right value given gives
offset_range moments right (Some value) (Some unit) given gives =
    let there = some_of (unit_in (Some right) unit)
    (λ u. (n : ℤ) × GivesWhole value n × (nat_abs n * size u ≤ greatest u) × (given ≡ shift_by u n)) gives in
    let P : Offset → Type 0 = IsOffsetFor right moments in
    subst P (sym there.2.3) (shift_range right unit there.0 there.2.0 there.1 there.2.2)
offset_range booleans right (Some value) None given gives = absurd gives
offset_range strings right (Some value) None given gives = absurd gives
offset_range moments right (Some value) None given gives = absurd gives
offset_range booleans right (Some value) (Some unit) given gives = absurd gives
offset_range numbers right (Some value) (Some unit) given gives = absurd gives
offset_range strings right (Some value) (Some unit) given gives = absurd gives
offset_range booleans right None (Some unit) given gives = absurd gives
offset_range numbers right None (Some unit) given gives = absurd gives
offset_range strings right None (Some unit) given gives = absurd gives
offset_range moments right None (Some unit) given gives = absurd gives
