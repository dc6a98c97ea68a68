-- Chains of constraints, each of which shares a field with the next: they go both ways and on. Lemmas for this crate
-- and those above.
use Rattle.std.proofs.Common.{◌≡◌, ℕ, zero, suc, ◌⊎◌, inl, inr, ⊎_elim, Bool, true, ◌==◌, ◌&&◌, List, [], ◌∷◌, refl, sym, subst}
use Rattle.std.proofs.lemmas.Bool.{false≢true, or_cases, or_left, or_right, and_parts, and_from, eqb-true, eq-eqb}
use Rattle.std.specs.List.{list_any}
use Rattle.helix_profile.specs.Fields.{fields_of}
use Rattle.helix_profile.specs.Width.{names_field, is_chained}
use Rattle.helix_profile.specs.declared.constraint.Constraint.{Constraint}

-- the constraint names the field
abbrev pub Names : Constraint → ℕ → Type 0
Names constraint field = names_field field constraint ≡ true

-- the constraint is one of a list
abbrev pub IsIn : List Constraint → Constraint → Type 0
IsIn [] constraint = ⊥
IsIn (first ∷ constraints) constraint = (first ≡ constraint) ⊎ IsIn constraints constraint

-- a constraint leads from a field to the next one of a chain
pub record Next (constraints : List Constraint) (field : ℕ) (Rest : ℕ → Type 0) : Type 0 where
  pub constraint : Constraint
  pub listed : IsIn constraints constraint
  pub from : Names constraint field
  pub next : ℕ
  pub to : Names constraint next
  pub rest : Rest next

-- a chain of at most so many constraints
abbrev pub Chain : List Constraint → ℕ → ℕ → ℕ → Type 0
Chain constraints zero from to = from ≡ to
Chain constraints (suc count) from to = (from ≡ to)
    ⊎ Next constraints from (λ next. Chain constraints count next to)

-- a chain of some length
abbrev pub Path : List Constraint → ℕ → ℕ → Type 0
Path constraints from to = (count : ℕ) × Chain constraints count from to

-- The test of a chain finds one.

pub constraint_of : (test : Constraint → Bool) (cs : List Constraint) → list_any test cs ≡ true
    → (c : Constraint) × IsIn cs c × (test c ≡ true)
constraint_of test [] found = absurd (false≢true found)
constraint_of test (c ∷ cs) found = ⊎_elim (λ here. (c, inl refl, here))
    (λ later. let other = constraint_of test cs later in (other.0, inr other.1, other.2))
    (or_cases (test c) (list_any test cs) found)

pub any_constraint : (test : Constraint → Bool) (cs : List Constraint) (c : Constraint) → IsIn cs c → test c ≡ true
    → list_any test cs ≡ true
any_constraint test [] c none passes = absurd none
any_constraint test (d ∷ cs) c (inl here) passes =
    or_left (test d) (list_any test cs) (subst (λ x. test x ≡ true) (sym here) passes)
any_constraint test (d ∷ cs) c (inr later) passes =
    or_right (test d) (list_any test cs) (any_constraint test cs c later passes)

pub field_of : (test : ℕ → Bool) (fields : List ℕ) → list_any test fields ≡ true
    → (field : ℕ) × (list_any (λ named. named == field) fields ≡ true) × (test field ≡ true)
field_of test [] found = absurd (false≢true found)
field_of test (field ∷ fields) found = ⊎_elim
    (λ here. (field, or_left (field == field) (list_any (λ n. n == field) fields) (eq-eqb field field refl), here))
    (λ later. let other = field_of test fields later in
    (other.0, or_right (field == other.0) (list_any (λ n. n == other.0) fields) other.1, other.2))
    (or_cases (test field) (list_any test fields) found)

pub any_field : (test : ℕ → Bool) (fields : List ℕ) (field : ℕ) → list_any (λ named. named == field) fields ≡ true
    → test field ≡ true → list_any test fields ≡ true
any_field test [] field none passes = absurd (false≢true none)
any_field test (first ∷ fields) field among passes = ⊎_elim
    (λ here. or_left (test first) (list_any test fields)
    (subst (λ x. test x ≡ true) (sym (eqb-true first field here)) passes))
    (λ later. or_right (test first) (list_any test fields) (any_field test fields field later passes))
    (or_cases (first == field) (list_any (λ n. n == field) fields) among)

module _ (cs : List Constraint) where
  pub to_chain : (count from to : ℕ) → is_chained cs count from to ≡ true → Chain cs count from to
  unfolding is_chained
  to_chain zero from to found = eqb-true from to found
  to_chain (suc count) from to found = ⊎_elim (λ same. inl (eqb-true from to same))
      (λ more.
      let step = constraint_of (λ c. names_field from c
      && list_any (λ next. is_chained cs count next to) (fields_of c)) cs more in
      let both = and_parts (names_field from step.0)
      (list_any (λ next. is_chained cs count next to) (fields_of step.0)) step.2 in
      let next = field_of (λ n. is_chained cs count n to) (fields_of step.0) both.1 in
      inr (record {
        constraint = step.0;
        listed = step.1;
        from = both.0;
        next = next.0;
        to = next.1;
        rest = to_chain count next.0 to next.2;
      }))
      (or_cases (from == to) (list_any (λ c. names_field from c
      && list_any (λ next. is_chained cs count next to) (fields_of c)) cs) found)

  pub from_chain : (count from to : ℕ) → Chain cs count from to → is_chained cs count from to ≡ true
  unfolding is_chained
  from_chain zero from to chain = eq-eqb from to chain
  from_chain (suc count) from to (inl same) = or_left (from == to) (list_any (λ c. names_field from c
      && list_any (λ next. is_chained cs count next to) (fields_of c)) cs) (eq-eqb from to same)
  from_chain (suc count) from to (inr step) = or_right (from == to) (list_any (λ c. names_field from c
      && list_any (λ next. is_chained cs count next to) (fields_of c)) cs)
      (any_constraint (λ c. names_field from c && list_any (λ next. is_chained cs count next to) (fields_of c)) cs
      step.constraint step.listed
      (and_from (names_field from step.constraint)
      (list_any (λ next. is_chained cs count next to) (fields_of step.constraint)) step.from
      (any_field (λ n. is_chained cs count n to) (fields_of step.constraint) step.next step.to
      (from_chain count step.next to step.rest))))

  -- Chains go on and go back.

  pub onto : (count from at to : ℕ) (c : Constraint) → Chain cs count from at → IsIn cs c → Names c at → Names c to
      → Chain cs (suc count) from to
  onto zero from at to c same listed names also = inr (record {
    constraint = c;
    listed = listed;
    from = subst (Names c) (sym same) names;
    next = to;
    to = also;
    rest = refl;
  })
  onto (suc count) from at to c (inl same) listed names also = inr (record {
    constraint = c;
    listed = listed;
    from = subst (Names c) (sym same) names;
    next = to;
    to = also;
    rest = inl refl;
  })
  onto (suc count) from at to c (inr step) listed names also = inr (record {
    constraint = step.constraint;
    listed = step.listed;
    from = step.from;
    next = step.next;
    to = step.to;
    rest = onto count step.next at to c step.rest listed names also;
  })

  pub path_back : (count from to : ℕ) → Chain cs count from to → Path cs to from
  path_back zero from to same = (zero, sym same)
  path_back (suc count) from to (inl same) = (zero, sym same)
  path_back (suc count) from to (inr step) = let rest : Path cs to step.next = path_back count step.next to step.rest in
      (suc rest.0, onto rest.0 to step.next from step.constraint rest.1 step.listed step.to step.from)

  pub path_on : (count from at to : ℕ) → Chain cs count from at → Path cs at to → Path cs from to
  path_on zero from at to same path = subst (λ f. Path cs f to) (sym same) path
  path_on (suc count) from at to (inl same) path = subst (λ f. Path cs f to) (sym same) path
  path_on (suc count) from at to (inr step) path =
      let rest : Path cs step.next to = path_on count step.next at to step.rest path in (
        suc rest.0,
        inr (record {
          constraint = step.constraint;
          listed = step.listed;
          from = step.from;
          next = step.next;
          to = step.to;
          rest = rest.1;
        }),
      )
