-- The fields that a constraint names: by its form, as code sees it, and that a valid one names some, which there are.
use Rattle.std.proofs.Common.{◌≡◌, ℕ, zero, suc, ◌<◌, ◌≤◌, Option, None, Some, IfSome, Result, Ok, Err, OnOk, List, [], ◌∷◌, ◌++◌, length, refl, sym, ap, ◌∙◌, arith, append_assoc, append-nil, length-append}
use Rattle.std.specs.List.{AllByRecursion, slice_get}
use Rattle.helix_base.specs.declared.memory.Memory.{Memory}
use Rattle.helix_profile.specs.Fields.{fields_of, fields_of_parts, fields_of_else}
use Rattle.helix_profile.specs.Validity.{FieldWith, IsRelationFor, IsConstraintFor, ArePartsFor, IsElseFor, IsSomePart}
use Rattle.helix_profile.specs.declared.constraint.Constraint.{Constraint, Atom, Related, Not', AllOf', AnyOf', If', Row_of-Constraint, end_of-Constraint, more_of-Constraint, Held-Constraint-If-2, None', Some'}
use Rattle.helix_profile.specs.declared.constraint.Constraint.TheViews.{Not, AllOf, AnyOf, If}
use Rattle.helix_profile.specs.declared.field.Field.{Field}
use Rattle.helix_partition.specs.Inner.Labels.{fields_of_all}

pub fields-Not : (part : Constraint) → fields_of part ≡ fields_of (Not part)
unfolding Rattle.helix_profile.specs.declared.constraint.Constraint.TheBlock.hidden-the_row-Constraint-0
    denote.Hole.Carrier.hidden
fields-Not part = sym (append-nil (fields_of part))

pub fields-AllOf : (parts : List Constraint) → fields_of_all parts ≡ fields_of (AllOf parts)
unfolding Rattle.helix_profile.specs.declared.constraint.Constraint.TheBlock.hidden-the_row-Constraint-1
    denote.Hole.Carrier.hidden
fields-AllOf [] = refl
fields-AllOf (part ∷ parts) = ap (λ l. fields_of part ++ l) (fields-AllOf parts)

pub fields-AnyOf : (parts : List Constraint) → fields_of_all parts ≡ fields_of (AnyOf parts)
unfolding Rattle.helix_profile.specs.declared.constraint.Constraint.TheBlock.hidden-the_row-Constraint-1
    denote.Hole.Carrier.hidden
fields-AnyOf [] = refl
fields-AnyOf (part ∷ parts) = ap (λ l. fields_of part ++ l) (fields-AnyOf parts)

-- those of an `else`, where there is one
abbrev pub fields_of_other : Option Constraint → List ℕ
fields_of_other None = []
fields_of_other (Some other) = fields_of other

if_fields : (condition consequent : Constraint) (otherwise : Option Constraint)
    → fields_of (If condition consequent otherwise)
    ≡ (fields_of condition ++ []) ++ ((fields_of consequent ++ []) ++ fields_of_other otherwise)
unfolding Rattle.helix_profile.specs.declared.constraint.Constraint.TheBlock.hidden-the_row-Constraint-0
    denote.Hole.Carrier.hidden
if_fields condition consequent None = refl
if_fields condition consequent (Some other) =
    ap (λ l. (fields_of condition ++ []) ++ ((fields_of consequent ++ []) ++ l)) (append-nil (fields_of other))

pub fields-If : (condition consequent : Constraint) (otherwise : Option Constraint)
    → fields_of condition ++ (fields_of consequent ++ fields_of_other otherwise)
    ≡ fields_of (If condition consequent otherwise)
fields-If condition consequent otherwise = sym (if_fields condition consequent otherwise
    ∙ (ap (λ l. l ++ ((fields_of consequent ++ []) ++ fields_of_other otherwise)) (append-nil (fields_of condition))
    ∙ ap (λ l. fields_of condition ++ (l ++ fields_of_other otherwise)) (append-nil (fields_of consequent))))

-- The fields of a valid constraint are there.

both_all : (P : ℕ → Type 0) (xs ys : List ℕ) → AllByRecursion P xs → AllByRecursion P ys → AllByRecursion P (xs ++ ys)
both_all P [] ys left right = right
both_all P (x ∷ xs) ys left right = (left.0, both_all P xs ys left.1 right)

-- what holds of a field that there is
field_there : (P : Field → Type 0) (fields : List Field) (number : ℕ) → number < length fields
    → IfSome (slice_get fields number) P → (field : Field) × P field
field_there P [] number within holds = absurd (omega (arith, within))
field_there P (field ∷ fields) zero within holds = (field, holds)
field_there P (field ∷ fields) (suc number) within holds = field_there P fields number (omega (arith, within)) holds

right_there : (fields : List Field) (right left : ℕ) (P : Field → Field → Type 0)
    → FieldWith fields left (λ l. FieldWith fields right (λ r. P l r)) → right < length fields
right_there fields right left P fits =
    (field_there (λ l. FieldWith fields right (λ r. P l r)) fields left fits.0 fits.1).1.0

module _ (fields : List Field) where
  mutual
    pub fields_there : (c : Constraint) → IsConstraintFor fields c → AllByRecursion (λ f. f < length fields)
        (fields_of c)
    fields_there (Atom atom) fits = (fits.0, tt)
    fields_there (Related relation) fits =
        (fits.0, (right_there fields relation.right relation.left (λ l r. IsRelationFor l r relation) fits, tt))
    fields_there (Not' pointer negated) fits = parts_there negated fits
    fields_there (AllOf' shape parts) fits = parts_there parts fits.1
    fields_there (AnyOf' shape parts) fits = parts_there parts fits.1
    fields_there (If' pointer condition other_pointer consequent otherwise) fits =
        both_all _ (fields_of_parts condition) (fields_of_parts consequent ++ fields_of_else otherwise)
        (parts_there condition fits.0)
        (both_all _ (fields_of_parts consequent) (fields_of_else otherwise) (parts_there consequent fits.1)
        (else_there otherwise fits.2))

    parts_there : {m : _} (parts : Row_of-Constraint m) → ArePartsFor fields parts
        → AllByRecursion (λ f. f < length fields) (fields_of_parts parts)
    parts_there end_of-Constraint fit = tt
    parts_there (more_of-Constraint part parts) fit =
        both_all _ (fields_of part) (fields_of_parts parts) (fields_there part fit.0) (parts_there parts fit.1)

    else_there : (otherwise : Held-Constraint-If-2) → IsElseFor fields otherwise
        → AllByRecursion (λ f. f < length fields) (fields_of_else otherwise)
    else_there None' fits = tt
    else_there (Some' pointer other) fits = parts_there other fits

  some_of : {m : _} (part : Constraint) (parts : Row_of-Constraint m) → 1 ≤ length (fields_of part)
      → 1 ≤ length (fields_of part ++ fields_of_parts parts)
  some_of part parts some = omega (arith, length-append (fields_of part) (fields_of_parts parts))

  mutual
    pub some_named : (c : Constraint) → IsConstraintFor fields c → 1 ≤ length (fields_of c)
    some_named (Atom atom) fits = omega arith
    some_named (Related relation) fits = omega arith
    some_named (Not' pointer (more_of-Constraint part end_of-Constraint)) fits =
        some_of part end_of-Constraint (some_named part fits.0)
    some_named (AllOf' shape parts) fits = some_part parts fits.0 fits.1
    some_named (AnyOf' shape parts) fits = some_part parts fits.0 fits.1
    some_named (If' pointer (more_of-Constraint part end_of-Constraint) other_pointer consequent otherwise) fits =
        omega (
          arith,
          length-append (fields_of_parts (more_of-Constraint part end_of-Constraint))
              (fields_of_parts consequent ++ fields_of_else otherwise),
          some_of part end_of-Constraint (some_named part fits.0.0),
        )

    some_part : {m : _} (parts : Row_of-Constraint m) → IsSomePart parts → ArePartsFor fields parts
        → 1 ≤ length (fields_of_parts parts)
    some_part end_of-Constraint some fit = absurd some
    some_part (more_of-Constraint part parts) some fit = some_of part parts (some_named part fit.0)

-- The calls of the program, each with the fields that it appends.

pub appends_not : (new old : List ℕ) (c part got : Constraint) → c ≡ Not part → got ≡ part → new ≡ old ++ fields_of got
    → new ≡ old ++ fields_of c
appends_not new old c part got is same answer =
    answer ∙ ap (λ l. old ++ l) (ap fields_of same ∙ (fields-Not part ∙ ap fields_of (sym is)))

pub appends_parts : (Form : List Constraint → Constraint)
    → ((ps : List Constraint) → fields_of_all ps ≡ fields_of (Form ps))
    → (new old : List ℕ) (c : Constraint) (parts slice : List Constraint) → c ≡ Form parts → slice ≡ parts
    → new ≡ old ++ fields_of_all slice → new ≡ old ++ fields_of c
appends_parts Form law new old c parts slice is same answer =
    answer ∙ ap (λ l. old ++ l) (ap fields_of_all same ∙ (law parts ∙ ap fields_of (sym is)))

pub appends_if : (old one two : List ℕ) (c condition then first second : Constraint) (otherwise : Option Constraint)
    → c ≡ If condition then otherwise → otherwise ≡ None → first ≡ condition → second ≡ then
    → one ≡ old ++ fields_of first → two ≡ one ++ fields_of second → two ≡ old ++ fields_of c
appends_if old one two c condition then first second otherwise is none first_is second_is one_is two_is =
    let law = fields-If condition then None in
    let assoc = append_assoc old (fields_of condition) (fields_of then ++ []) in
    let nil = append-nil (fields_of then) in cc

pub appends_if_else : (old one two three : List ℕ) (c condition then other first second third : Constraint)
    (otherwise : Option Constraint) → c ≡ If condition then otherwise → otherwise ≡ Some other → first ≡ condition
    → second ≡ then → third ≡ other → one ≡ old ++ fields_of first → two ≡ one ++ fields_of second
    → three ≡ two ++ fields_of third → three ≡ old ++ fields_of c
appends_if_else old one two three c condition then other first second third otherwise is some first_is second_is
    third_is
    one_is two_is three_is =
    let law = fields-If condition then (Some other) in
    let outer = append_assoc old (fields_of condition) (fields_of then ++ fields_of other) in
    let inner = append_assoc (old ++ fields_of condition) (fields_of then) (fields_of other) in cc

pub on_ok : (P Q : Type 0) (result : Result (Unit {0}) Memory) → (P → Q) → OnOk result P → OnOk result Q
on_ok P Q (Ok done) implies holds = implies holds
on_ok P Q (Err fault) implies holds = tt
