-- Each line of a profile is that of a relation in it.
use Rattle.std.proofs.Common.{◌≡◌, ◌≢◌, ◌⊎◌, inl, inr, ⊎_elim, ℕ, zero, suc, if◌then◌else◌, List, [], ◌∷◌, ◌++◌, Option, Some, None, slice_get, codes, refl, sym, ◌∙◌, ap, subst}
use Rattle.std.specs.Option.{IsSomeAnd}
use Rattle.helix_constraints.specs.declared.role.Role.{Role}
use Rattle.helix_constraints.specs.declared.role.Role.TheVariants as role
use Rattle.helix_constraints.specs.Visited.{InConstraint, InConstraints, Visited, role_by_form, role_of_parts}
use Rattle.helix_json.specs.declared.value.Json.{Json, Row_of-Json, Row_of-Member}
use Rattle.helix_json.specs.declared.value.Json as json
use Rattle.helix_json.specs.declared.value.Member.{Member}
use Rattle.helix_json.specs.Values.{HasKey, HasNoRepeatedKey, ItemsHaveNoRepeatedKey, MembersHaveNoRepeatedKey}
use Rattle.helix_keywords.specs.declared.form.Form.{Form}
use Rattle.helix_keywords.specs.declared.form.Form.TheVariants as form
use Rattle.helix_keywords.specs.declared.keyword.FieldKeyword.{FieldKeyword}
use Rattle.helix_keywords.specs.Forms.{form_of}
use Rattle.helix_keywords.specs.Keywords.{field_word}
use Rattle.helix_places.specs.declared.place.Step.{Step}
use Rattle.helix_places.specs.declared.place.Step.TheVariants as step
use Rattle.helix_places.specs.Members.{items_of, listed_items, listed_members, members_of, value_of}
use Rattle.helix_places.specs.KeyLaws.{bytes_same, other_bytes}
use Rattle.helix_places.specs.PartLaws.{Named}
use Rattle.helix_places.specs.Places.{InItem, part}
use Rattle.helix_places.specs.PlaceLaws.{and_some}
use Rattle.helix_fields.specs.SearchLaws.{keys_under}
use Rattle.helix_profile.specs.declared.field.Field.{Field}
use Rattle.helix_profile.specs.declared.relation.Relation.{Relation}
use Rattle.helix_rules.specs.Lines.{IsAlong, Joins, branch_lines, chosen_lines, inside_of, item_lines, line_list, line_with, lines_in, lines_of, lines_under, list_lines, operand_lines, own_lines, related_of}

-- the line is in the list
abbrev Lists : Relation → List Relation → Type 0
Lists line [] = ⊥
Lists line (own ∷ lines) = (own ≡ line) ⊎ Lists line lines

listed : (lines : List Relation) (i : ℕ) (line : Relation) → slice_get lines i ≡ Some line → Lists line lines
listed [] i line is = absurd (cc)
listed (own ∷ lines) zero line is = let same : own ≡ line = cc in inl same
listed (own ∷ lines) (suc i) line is = inr (listed lines i line is)

split : (line : Relation) (xs ys : List Relation) → Lists line (xs ++ ys) → Lists line xs ⊎ Lists line ys
split line [] ys h = inr h
split line (x ∷ xs) ys (inl e) = inl (inl e)
split line (x ∷ xs) ys (inr h) = ⊎_elim (λ a. inl (inr a)) (λ b. inr b) (split line xs ys h)

-- a member whose value names a place
abbrev InRow : {n : _} → (Json → List Step → Type 0) → Row_of-Member n → Type 0
InRow P row = (key : List ℕ) × (w : Json) × HasKey key row × (value_of key (listed_members row) ≡ Some w) × Named P w

abbrev InMembers : (Json → List Step → Type 0) → List Member → Type 0
InMembers P members = (key : List ℕ) × (w : Json) × (value_of key members ≡ Some w) × Named P w

abbrev InItems : {n : _} → (Json → List Step → Type 0) → Row_of-Json n → Type 0
InItems P row = (i : ℕ) × (w : Json) × (slice_get (listed_items row) i ≡ Some w) × Named P w

first_in_row : {n : _} (P : Json → List Step → Type 0) (key : List ℕ) (value : Json) (row : Row_of-Member n)
    → Named P value → InRow P (json.more_of-Member key value row)
first_in_row P key value row named = (
  key,
  value,
  inl refl,
  ap (λ b. if b then Some value else value_of key (listed_members row)) (bytes_same key),
  named,
)

later_in_row : {n : _} (P : Json → List Step → Type 0) (key : List ℕ) (value : Json) (row : Row_of-Member n)
    → ¬ (HasKey key row) → InRow P row → InRow P (json.more_of-Member key value row)
later_in_row P key value row fresh there =
    let other : key ≢ there.0 =
    λ same. fresh (let Q : List ℕ → Type 0 = λ k. HasKey k row in subst Q (sym same) there.2) in (
      there.0,
      there.1,
      inr there.2,
      ap (λ b. if b then Some value else value_of there.0 (listed_members row)) (other_bytes key there.0 other)
          ∙ there.3,
      there.4,
    )

-- from a part to the whole
module _ (P : Json → List Step → Type 0) where
  in_part : (r next : Role) (v w : Json) (s : Step) → role_of_parts r v ≡ Some next → part v s ≡ Some w
      → Named (Visited P next) w → Named (Visited P r) v
  in_part r next v w s role_is part_is named = (
    s ∷ named.0,
    inr (and_some (role_of_parts r v) (λ q. IsSomeAnd (part v s) (λ u. Visited P q u named.0)) next role_is
        (and_some (part v s) (λ u. Visited P next u named.0) w part_is named.1)),
  )

  in_object : (next : Role) (v : Json) → role_by_form (form_of (members_of v)) ≡ Some next
      → InMembers (Visited P next) (members_of v) → Named (Visited P role.One) v
  in_object next v role_is there = in_part role.One next v there.1 (step.Member there.0) role_is there.2 there.3

along : (line : Relation) (o : Option Relation) → Lists line (line_list o) → IsSomeAnd o (IsAlong line)
along line None h = absurd h
along line (Some own) (inl same) = (ap (λ l. l.left) same, ap (λ l. l.right) same)
along line (Some own) (inr h) = absurd h

module _ (fields : List Field) (line : Relation) where
  own_named : (v : Json) (f : Option Form) → form_of (members_of v) ≡ f → (keyword : FieldKeyword)
      → related_of f ≡ Some keyword → Lists line (line_list (line_with fields keyword (members_of v)))
      → Named (Visited (Joins fields line) role.One) v
  own_named v f is keyword related h =
      let place : List Step = step.Member (field_word keyword) ∷ [] in (
        place,
        inl (and_some (related_of (form_of (members_of v))) (λ k. (place ≡ step.Member (field_word k) ∷ [])
            × IsSomeAnd (line_with fields k (members_of v)) (IsAlong line)) keyword (ap related_of is ∙ related)
            (refl, along line (line_with fields keyword (members_of v)) h)),
      )

  module _ (v : Json) (operands branches : List Relation)
      (in_operands : Lists line operands → InMembers (Visited (Joins fields line) role.One) (members_of v))
      (in_branches : Lists line branches → InMembers (Visited (Joins fields line) role.Many) (members_of v))
    where
      by_form : (f : Option Form) → form_of (members_of v) ≡ f
          → Lists line (chosen_lines (inside_of f) (own_lines fields (related_of f) (members_of v)) operands branches)
          → Named (Visited (Joins fields line) role.One) v
      by_form None is h = absurd h
      by_form (Some (form.Atom keyword)) is h = absurd h
      by_form (Some (form.Related keyword)) is h = own_named v (Some (form.Related keyword)) is keyword refl h
      by_form (Some form.Not) is h = in_object (Joins fields line) role.One v (ap role_by_form is) (in_operands h)
      by_form (Some form.If) is h = in_object (Joins fields line) role.One v (ap role_by_form is) (in_operands h)
      by_form (Some form.IfElse) is h = in_object (Joins fields line) role.One v (ap role_by_form is) (in_operands h)
      by_form (Some form.AnyOf) is h = in_object (Joins fields line) role.Many v (ap role_by_form is) (in_branches h)
      by_form (Some form.AllOf) is h = in_object (Joins fields line) role.Many v (ap role_by_form is) (in_branches h)

  mutual
    in_named : (v : Json) → HasNoRepeatedKey v → Lists line (lines_in fields v)
        → Named (Visited (Joins fields line) role.One) v
    in_named json.Null keys h = absurd h
    in_named (json.Bool b) keys h = absurd h
    in_named (json.Number text) keys h = absurd h
    in_named (json.Str text) keys h = absurd h
    in_named (json.List' shape items) keys h = absurd h
    in_named (json.Object' shape row) keys h = by_form (json.Object' shape row) (operand_lines fields row)
        (branch_lines fields row)
        (λ among. let there = operands_named row keys among in (there.0, there.1, there.3, there.4))
        (λ among. let there = branches_named row keys among in (there.0, there.1, there.3, there.4))
        (form_of (listed_members row)) refl h

    list_named : (v : Json) → HasNoRepeatedKey v → Lists line (list_lines fields v)
        → Named (Visited (Joins fields line) role.Many) v
    list_named json.Null keys h = absurd h
    list_named (json.Bool b) keys h = absurd h
    list_named (json.Number text) keys h = absurd h
    list_named (json.Str text) keys h = absurd h
    list_named (json.List' shape items) keys h = let there = items_named items keys h in
        in_part (Joins fields line) role.Many role.One (json.List' shape items) there.1 (step.Item there.0) refl there.2
        there.3
    list_named (json.Object' shape row) keys h = absurd h

    items_named : {n : _} (items : Row_of-Json n) → ItemsHaveNoRepeatedKey items → Lists line (item_lines fields items)
        → InItems (Visited (Joins fields line) role.One) items
    items_named json.end_of-Json keys h = absurd h
    items_named (json.more_of-Json item items) keys h = ⊎_elim
        (λ here. (zero, item, refl, in_named item keys.0 here))
        (λ later. let there = items_named items keys.1 later in (suc there.0, there.1, there.2, there.3))
        (split line (lines_in fields item) (item_lines fields items) h)

    operands_named : {n : _} (row : Row_of-Member n) → MembersHaveNoRepeatedKey row
        → Lists line (operand_lines fields row) → InRow (Visited (Joins fields line) role.One) row
    operands_named json.end_of-Member keys h = absurd h
    operands_named (json.more_of-Member key value row) keys h = ⊎_elim
        (λ here. first_in_row (Visited (Joins fields line) role.One) key value row (in_named value keys.1 here))
        (λ later. later_in_row (Visited (Joins fields line) role.One) key value row keys.0
        (operands_named row keys.2 later)) (split line (lines_in fields value) (operand_lines fields row) h)

    branches_named : {n : _} (row : Row_of-Member n) → MembersHaveNoRepeatedKey row
        → Lists line (branch_lines fields row) → InRow (Visited (Joins fields line) role.Many) row
    branches_named json.end_of-Member keys h = absurd h
    branches_named (json.more_of-Member key value row) keys h = ⊎_elim
        (λ here. first_in_row (Visited (Joins fields line) role.Many) key value row (list_named value keys.1 here))
        (λ later. later_in_row (Visited (Joins fields line) role.Many) key value row keys.0
        (branches_named row keys.2 later)) (split line (list_lines fields value) (branch_lines fields row) h)

  top_named : (v : Json) → HasNoRepeatedKey v → Lists line (list_lines fields v)
      → Named (InItem (InConstraint (Joins fields line))) v
  top_named json.Null keys h = absurd h
  top_named (json.Bool b) keys h = absurd h
  top_named (json.Number text) keys h = absurd h
  top_named (json.Str text) keys h = absurd h
  top_named (json.List' shape items) keys h = let there = items_named items keys h in (
    step.Item there.0 ∷ there.3.0,
    and_some (slice_get (items_of (json.List' shape items)) there.0)
        (λ u. InConstraint (Joins fields line) u there.3.0) there.1 there.2 there.3.1,
  )
  top_named (json.Object' shape row) keys h = absurd h

  under_named : (v : Json) (o : Option Json) → HasNoRepeatedKey v → value_of (codes "constraints") (members_of v) ≡ o
      → Lists line (lines_under fields o) → Named (InConstraints (Joins fields line)) v
  under_named v None keys is h = absurd h
  under_named v (Some w) keys is h =
      let there = top_named w (keys_under v (codes "constraints") w keys is) h in (
        step.Member (codes "constraints") ∷ there.0,
        (
          refl,
          and_some (value_of (codes "constraints") (members_of v))
              (λ u. InItem (InConstraint (Joins fields line)) u there.0) w is there.1,
        ),
      )

  -- a line of the profile is that of a relation in it
  pub line_there : (v : Json) (i : ℕ) → HasNoRepeatedKey v → slice_get (lines_of fields v) i ≡ Some line
      → Named (InConstraints (Joins fields line)) v
  line_there v i keys is = under_named v (value_of (codes "constraints") (members_of v)) keys refl
      (listed (lines_of fields v) i line is)
