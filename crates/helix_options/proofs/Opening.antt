-- What is promised of the paths of a part, by the search from its constraints.
use Rattle.std.proofs.Common.{◌≡◌, ◌↔◌, ℕ, zero, suc, ◌+◌, ◌==◌, ◌⊎◌, inl, inr, Bool, true, false, ◌&&◌, ◌||◌, Option, None, Some, List, [], ◌∷◌, map, Contains, slice_get, Result, IfOk, refl, sym, ap, subst, ◌∙◌, arith, add-zero, zero-add}
use Rattle.std.proofs.lemmas.Bool.{false≢true, eq-eqb}
use Rattle.std.proofs.lemmas.List.Elements.{Contains-append_left, Contains-append_right}
use Rattle.std.specs.List.{AllByRecursion, filter_map, cons_option, list_any}
use Rattle.helix_base.specs.declared.memory.Memory.{Memory}
use Rattle.helix_profile.specs.Content.{Content}
use Rattle.helix_profile.specs.Fields.{fields_of, relations_of, all_relations}
use Rattle.helix_profile.specs.Good.{IsCellOf, AreCellsOf}
use Rattle.helix_profile.specs.Satisfaction.{is_null, AllSatisfied}
use Rattle.helix_profile.specs.Validity.{IsConstraintFor, IsValidProfile}
use Rattle.helix_profile.specs.declared.constraint.Constraint.{Constraint}
use Rattle.helix_profile.specs.declared.field.Field.{Field}
use Rattle.helix_profile.specs.declared.relation.Relation.{Relation}
use Rattle.helix_partition.specs.declared.partition.Partition.{Partition}
use Rattle.helix_tree.specs.TreeLaws.{tree_means}
use Rattle.helix_tree.specs.TreeOf.{signed_tree}
use Rattle.helix_tree.specs.declared.literal.Literal.{Literal}
use Rattle.helix_values.specs.declared.cell.Cell.{Cell}
use Rattle.helix_values.specs.declared.cell.Cell.TheVariants as cell
use Rattle.helix_options.proofs.Counting.{bit, holding, Counts}
use Rattle.helix_options.proofs.Exactness.{search_counts}
use Rattle.helix_options.proofs.Fewness.{first_few}
use Rattle.helix_options.proofs.Refuting.{Fits}
use Rattle.helix_options.proofs.Demanding.{if_ok}
use Rattle.helix_options.proofs.Truth.{path_true, tree_true, tree-true, path-true}
use Rattle.helix_options.proofs.Valid.{TreeValid, all_valid}
use Rattle.helix_options.proofs.ValidTrees.{Known, tree-valid}
use Rattle.helix_options.specs.Parts.{IsPartOf}
use Rattle.helix_options.specs.Paths.{PathHolds, ExactlyOneHolds, NoneHolds, constraints_of, IsExactFor, IsFewFor, AreValidFor}
use Rattle.helix_options.specs.Inner.Search.{Found, one_path, search, search_all, first_demands, paths_left}
use Rattle.helix_options.specs.declared.branch.Branch.{Branch}
use Rattle.helix_options.specs.declared.branch.Demand.{Demand}

-- by how many paths hold

abbrev One : List Cell → List Literal → List (List Literal) → Type 0
One row path paths = (PathHolds row path × NoneHolds row paths) ⊎ ((¬ PathHolds row path) × ExactlyOneHolds row paths)

none-holds : (row : List Cell) (paths : List (List Literal)) → holding row paths ≡ 0 → NoneHolds row paths
none-holds row [] none = tt
none-holds row (path ∷ paths) none = by_case (path_true row path) refl (none-holds row paths) none
  where
    by_case : (b : Bool) → path_true row path ≡ b → (holding row paths ≡ 0 → NoneHolds row paths)
        → bit b + holding row paths ≡ 0 → (¬ PathHolds row path) × NoneHolds row paths
    by_case true is others none = absurd (impossible (holding row paths) none)
      where
        impossible : (n : ℕ) → 1 + n ≡ 0 → ⊥
        impossible n e = omega arith
    by_case false is others none = (
      (λ holds. false≢true (sym is ∙ (path-true row path).1 holds)),
      others (sym (zero-add (holding row paths)) ∙ none),
    )

one-holds : (row : List Cell) (paths : List (List Literal)) → holding row paths ≡ 1 → ExactlyOneHolds row paths
one-holds row [] one = nothing_holds 0 one refl
  where
    nothing_holds : (n : ℕ) → n ≡ 1 → n ≡ 0 → ⊥
    nothing_holds n one none = omega arith
one-holds row (path ∷ paths) one = by_case (path_true row path) refl (one-holds row paths) one
  where
    by_case : (b : Bool) → path_true row path ≡ b → (holding row paths ≡ 1 → ExactlyOneHolds row paths)
        → bit b + holding row paths ≡ 1 → One row path paths
    by_case true is others one = inl ((path-true row path).0 is, none-holds row paths (no_more (holding row paths) one))
      where
        no_more : (n : ℕ) → 1 + n ≡ 1 → n ≡ 0
        no_more n e = omega arith
    by_case false is others one = inr (
      (λ holds. false≢true (sym is ∙ (path-true row path).1 holds)),
      others (sym (zero-add (holding row paths)) ∙ one),
    )

-- all constraints hold, and a fact
abbrev all_true : List Cell → List Constraint → Bool → Bool
all_true row [] fact = fact
all_true row (constraint ∷ constraints) fact =
    all_true row constraints (tree_true row (signed_tree constraint true) true && fact)

all_counts : (nullable : List Bool) (row : List Cell) → Fits nullable row → (constraints : List Constraint)
    (fact : Bool) (rest : List Literal → Found) → Counts row fact rest
    → Counts row (all_true row constraints fact) (search_all nullable (first_demands constraints) rest)
all_counts nullable row fits [] fact rest counts literals = counts literals
all_counts nullable row fits (constraint ∷ constraints) fact rest counts literals =
    all_counts nullable row fits constraints (tree_true row (signed_tree constraint true) true && fact)
    (λ more. search nullable (signed_tree constraint true) true more rest)
    (λ more. search_counts nullable row fits (signed_tree constraint true) true more fact rest counts) literals

one_counts : (row : List Cell) → Counts row true one_path
one_counts row literals = add-zero (bit (path_true row literals)) ∙ ap bit (and-true (path_true row literals))
  where
    and-true : (b : Bool) → b ≡ (b && true)
    and-true true = refl
    and-true false = refl

and_both : (a b : Bool) → ((a && b) ≡ true) ↔ ((a ≡ true) × (b ≡ true))
and_both true b = ((λ e. (refl, e)), (λ h. h.1))
and_both false b = ((λ e. absurd (false≢true e)), (λ h. h.0))

satisfied : (row : List Cell) (constraints : List Constraint) (fact : Bool)
    → (all_true row constraints fact ≡ true) ↔ (AllSatisfied constraints row true × (fact ≡ true))
satisfied row [] fact = ((λ e. (tt, e)), (λ h. h.1))
satisfied row (constraint ∷ constraints) fact =
    let truth = tree_true row (signed_tree constraint true) true in
    let others = satisfied row constraints (truth && fact) in
    let holds = tree-true row (signed_tree constraint true) in
    let means = tree_means constraint row true in (
      (λ e. let both = others.0 e in let parts = (and_both truth fact).0 both.1 in
          ((means.0 (holds.0 parts.0), both.0), parts.1)),
      (λ h. others.1 (h.0.1, (and_both truth fact).1 (holds.1 (means.1 h.0.0), h.1))),
    )

-- a row of cells has a value where a field can't be null

abbrev nullable_of : List Field → List Bool
nullable_of fields = map (λ field. field.nullable) fields

valued : (field : Field) (c : Cell) → IsCellOf field c → field.nullable ≡ false → is_null c ≡ false
valued field cell.Null own never = absurd (false≢true (sym never ∙ own))
valued field c own never = refl

fits : (fields : List Field) (row : List Cell) → AreCellsOf fields row → Fits (nullable_of fields) row
fits [] row own field never = absurd (false≢true (sym never))
fits (first ∷ fields) [] own field never = absurd own
fits (first ∷ fields) (c ∷ row) own zero never = valued first c own.0 never
fits (first ∷ fields) (c ∷ row) own (suc field) never = fits fields row own.1 field never

module _ (profile : Content) (part : Partition) where
  abbrev first_branch : Branch
  first_branch = record { literals = []; demands = first_demands (constraints_of profile part) }

  abbrev first_paths : List (List Literal)
  first_paths = paths_left (nullable_of profile.fields) (first_branch ∷ [])

  counted : (row : List Cell) → AreCellsOf profile.fields row
      → holding row first_paths ≡ bit (all_true row (constraints_of profile part) true)
  counted row own = all_counts (nullable_of profile.fields) row (fits profile.fields row own)
      (constraints_of profile part) true one_path (one_counts row) []

  pub opened_exact : IsExactFor profile part first_paths
  opened_exact = record {
    satisfied = λ row own all. one-holds row first_paths
        (counted row own ∙ ap bit ((satisfied row (constraints_of profile part) true).1 (all, refl)));
    others = λ row own not_all. none-holds row first_paths
        (counted row own ∙ ap bit (untrue (all_true row (constraints_of profile part) true)
        (λ e. not_all ((satisfied row (constraints_of profile part) true).0 e).0)));
  }
    where
      untrue : (b : Bool) → (b ≡ true → ⊥) → b ≡ false
      untrue true none = absurd (none refl)
      untrue false none = refl

  pub opened_few : IsFewFor profile part first_paths
  opened_few = first_few (nullable_of profile.fields) (constraints_of profile part)

  -- valid literals

  same_inside : {T : Type 0} (x y : T) → Some x ≡ Some y → x ≡ y
  same_inside x y e = cc e

  got : {T : Type 0} (P : T → Type 0) (xs : List T) (n : ℕ) (x : T) → AllByRecursion P xs → slice_get xs n ≡ Some x
      → P x
  got P [] n x all is = cc is
  got P (first ∷ xs) zero x all is = subst P (same_inside first x is) all.0
  got P (first ∷ xs) (suc n) x all is = got P xs n x all.1 is

  abbrev Good : Constraint → Type 0
  Good c = IsConstraintFor profile.fields c
      × Known profile.fields part.fields (all_relations profile.constraints) (fields_of c) (relations_of c)

  -- the relations of a constraint are among those of all
  listed : (constraints : List Constraint) (number : ℕ) (c : Constraint) → slice_get constraints number ≡ Some c
      → (r : Relation) → Contains (relations_of c) r → Contains (all_relations constraints) r
  listed [] number c is r has = cc is
  listed (first ∷ constraints) zero c is r has =
      Contains-append_left (relations_of first) (all_relations constraints) r
      (subst (λ d. Contains (relations_of d) r) (sym (same_inside first c is)) has)
  listed (first ∷ constraints) (suc number) c is r has =
      Contains-append_right (relations_of first) (all_relations constraints) r
      (listed constraints number c is r has)

  each_listed : (all joins : List Relation) → ((r : Relation) → Contains joins r → Contains all r)
      → AllByRecursion (Contains all) joins
  each_listed all [] among = tt
  each_listed all (r ∷ joins) among = (
    among r (0, omega arith, refl),
    each_listed all joins (λ other there. among other (Contains-append_right (r ∷ []) joins other there)),
  )

  named : (test : ℕ → Type 0) (fields : List ℕ)
      → ((field : ℕ) → list_any (λ other. other == field) fields ≡ true → test field) → AllByRecursion test fields
  named test [] each = tt
  named test (field ∷ fields) each = (
    each field (ap (λ b. b || list_any (λ other. other == field) fields) (eq-eqb field field refl)),
    named test fields (λ other among. each other (or-right (field == other) _ among)),
  )
    where
      or-right : (a b : Bool) → b ≡ true → (a || b) ≡ true
      or-right true b e = refl
      or-right false b e = e

  module _ (valid : IsValidProfile profile) (own : IsPartOf profile part) where
    picked : (numbers : List ℕ) → ((number : ℕ) → Contains numbers number → Contains part.constraints number)
        → AllByRecursion Good (filter_map (slice_get profile.constraints) numbers)
    picked [] among = tt
    picked (number ∷ numbers) among = by_case (slice_get profile.constraints number) refl
        (picked numbers (λ other there. among other (Contains-append_right (number ∷ []) numbers other there)))
      where
        by_case : (found : Option Constraint) → slice_get profile.constraints number ≡ found
            → AllByRecursion Good (filter_map (slice_get profile.constraints) numbers)
            → AllByRecursion Good (filter_map (slice_get profile.constraints) (number ∷ numbers))
        by_case None is others = subst (AllByRecursion Good)
            (ap (λ found. cons_option found (filter_map (slice_get profile.constraints) numbers)) (sym is)) others
        by_case (Some c) is others = subst (AllByRecursion Good)
            (ap (λ found. cons_option found (filter_map (slice_get profile.constraints) numbers)) (sym is)) (
              (
                got (IsConstraintFor profile.fields) profile.constraints number c valid.constraints_fit is,
                record {
                  own = named (Contains part.fields) (fields_of c) (λ field names. own.own_fields number field c
                      (among number (0, omega arith, refl)) is names);
                  listed = each_listed (all_relations profile.constraints) (relations_of c)
                      (listed profile.constraints number c is);
                },
              ),
              others,
            )

    demands_valid : (constraints : List Constraint) → AllByRecursion Good constraints
        → AllByRecursion (λ demand. TreeValid profile.fields part.fields (all_relations profile.constraints) demand.tree) (first_demands constraints)
    demands_valid [] all = tt
    demands_valid (c ∷ constraints) all = (
      tree-valid profile.fields part.fields (all_relations profile.constraints) c true all.0.0 all.0.1,
      demands_valid constraints all.1,
    )

    pub opened_valid : AreValidFor profile part first_paths
    opened_valid = all_valid profile.fields part.fields (all_relations profile.constraints)
        (nullable_of profile.fields)
        (first_demands (constraints_of profile part)) one_path []
        (demands_valid (constraints_of profile part) (picked part.constraints (λ number among. among))) tt
        (λ literals all. (all, tt))

    -- what holds of these paths holds of those that are answered
    pub opened : (P : List (List Literal) → Type 0) → P first_paths → (nullable : List Bool) (demands : List Demand)
        (fields : List Field) (constraints : List Constraint) (numbers : List ℕ) → fields ≡ profile.fields
        → nullable ≡ nullable_of fields → constraints ≡ profile.constraints → numbers ≡ part.constraints
        → demands ≡ first_demands (filter_map (slice_get constraints) numbers)
        → (result : Result (List (List Literal)) Memory)
        → IfOk result (λ paths. paths ≡ paths_left nullable (record { literals = []; demands = demands } ∷ []))
        → IfOk result P
    opened P holds nullable demands fields constraints numbers fields_are nullable_is constraints_are numbers_are
        demands_are result answer = if_ok _ P result
        (λ paths is. subst P (sym (is ∙ (λ i. paths_left
        ((nullable_is ∙ ap nullable_of fields_are) i)
        (record {
          literals = [];
          demands = (demands_are
              ∙ (λ j. first_demands (filter_map (slice_get (constraints_are j)) (numbers_are j)))) i;
        } ∷ [])))) holds)
        answer
