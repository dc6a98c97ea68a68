-- Lists of visits, and what the values of an object are by its form.
use Rattle.std.proofs.Common.{◌≡◌, ◌⊎◌, inl, inr, ⊎_elim, List, [], ◌∷◌, ◌++◌, Option, None, Some, refl, subst}
use Rattle.std.specs.Option.{IsSomeAnd}
use Rattle.helix_constraints.specs.Visited.{role_by_form}
use Rattle.helix_constraints.specs.declared.role.Role.{Role}
use Rattle.helix_constraints.specs.declared.role.Role.TheVariants as role
use Rattle.helix_keywords.specs.Forms.{form_of, has_form, key_sets}
use Rattle.helix_keywords.specs.declared.form.Form.{Form}
use Rattle.helix_keywords.specs.declared.form.Form.TheVariants as form
use Rattle.helix_traversal.specs.Traversal.{inside_of}
use Rattle.helix_traversal.specs.declared.inside.Inside.{Inside}
use Rattle.helix_traversal.specs.declared.inside.Inside.TheVariants as inside

-- one of a list
abbrev pub IsOne : {A : Type 0} → List A → A → Type 0
IsOne [] x = ⊥
IsOne (y ∷ ys) x = (y ≡ x) ⊎ IsOne ys x

pub one_before : {A : Type 0} (xs ys : List A) (x : A) → IsOne xs x → IsOne (xs ++ ys) x
one_before [] ys x is = absurd is
one_before (y ∷ xs) ys x (inl is) = inl is
one_before (y ∷ xs) ys x (inr is) = inr (one_before xs ys x is)

pub one_after : {A : Type 0} (xs ys : List A) (x : A) → IsOne ys x → IsOne (xs ++ ys) x
one_after [] ys x is = is
one_after (y ∷ xs) ys x is = inr (one_after xs ys x is)

pub one_of_two : {A : Type 0} (xs ys : List A) (x : A) → IsOne (xs ++ ys) x → IsOne xs x ⊎ IsOne ys x
one_of_two [] ys x is = inr is
one_of_two (y ∷ xs) ys x (inl is) = inl (inl is)
one_of_two (y ∷ xs) ys x (inr is) = ⊎_elim (λ before. inl (inr before)) (λ after. inr after) (one_of_two xs ys x is)

pub some_of : {A : Type 0} (o : Option A) (P : A → Type 0) → IsSomeAnd o P → (x : A) × (o ≡ Some x) × P x
some_of None P h = absurd h
some_of (Some x) P h = (x, refl, h)

no_form : form_of [] ≡ None
unfolding form_of has_form key_sets
no_form = refl

-- values by a form
abbrev pub role_of_inside : Inside → Option Role
role_of_inside inside.Nothing = None
role_of_inside inside.Operands = Some role.One
role_of_inside inside.Branches = Some role.Many

pub same_role : (f : Option Form) → role_by_form f ≡ role_of_inside (inside_of f)
same_role None = refl
same_role (Some (form.Atom keyword)) = refl
same_role (Some (form.Related keyword)) = refl
same_role (Some form.Not) = refl
same_role (Some form.AnyOf) = refl
same_role (Some form.AllOf) = refl
same_role (Some form.If) = refl
same_role (Some form.IfElse) = refl

pub no_role : (Deep : Role → Type 0) → IsSomeAnd (role_by_form (form_of [])) Deep → ⊥
no_role Deep deep = subst (λ f. IsSomeAnd (role_by_form f) Deep) no_form deep
