-- Laws of lines: only constraints without others within them have them, and their ends are different fields.
use Rattle.std.proofs.Common.{◌≡◌, ◌⊎◌, inr, ℕ, Bool, true, false, not, ◌&&◌, ◌==◌, nat_lt, if◌then◌else◌, List, [], ◌∷◌, Option, Some, None, codes, refl, sym, subst}
use Rattle.std.specs.List.{All}
use Rattle.std.specs.Option.{IsSomeAnd}
use Rattle.std.proofs.lemmas.Bool.{and_parts, eqb-false, ltb-true, not-true}
use Rattle.std.proofs.lemmas.List.Elements.{All-append, All-cons, All-nil}
use Rattle.helix_constraints.specs.AloneLaws.{alone_by_form}
use Rattle.helix_constraints.specs.Rules.{form_in}
use Rattle.helix_constraints.specs.Visited.{IsAlone, role_by_form}
use Rattle.helix_forest.specs.Closing.{HasEndsBelow}
use Rattle.helix_json.specs.declared.value.Json.{Json, Row_of-Json, Row_of-Member}
use Rattle.helix_json.specs.declared.value.Json as json
use Rattle.helix_json.specs.declared.value.Member.{Member}
use Rattle.helix_keywords.specs.declared.form.Form.{Form}
use Rattle.helix_keywords.specs.declared.form.Form.TheVariants as form
use Rattle.helix_keywords.specs.declared.keyword.FieldKeyword.{FieldKeyword}
use Rattle.helix_keywords.specs.Forms.{form_of}
use Rattle.helix_keywords.specs.Keywords.{field_word}
use Rattle.helix_places.specs.declared.place.Step.{Step}
use Rattle.helix_places.specs.declared.place.Step.TheVariants as step
use Rattle.helix_places.specs.Members.{listed_members, members_of, value_of}
use Rattle.helix_profile.specs.declared.field.Field.{Field}
use Rattle.helix_profile.specs.declared.relation.Relation.{Relation}
use Rattle.helix_references.specs.Naming.{index_by}
use Rattle.helix_rules.specs.declared.lines.Inside.{Inside}
use Rattle.helix_rules.specs.declared.lines.Inside.TheVariants as inside
use Rattle.helix_rules.specs.Lines.{Joins, IsAlong, branch_lines, chosen_lines, inside_of, item_lines, line, line_list, line_of, line_with, lines_in, lines_of, lines_under, list_lines, max_fields, operand_lines, own_lines, related_of}

some_of : {A : Type 0} (o : Option A) (P : A → Type 0) → IsSomeAnd o P → (x : A) × (o ≡ Some x) × P x
some_of None P h = absurd h
some_of (Some x) P h = (x, refl, h)

related_alone : (f : Option Form) (keyword : FieldKeyword) → related_of f ≡ Some keyword → role_by_form f ≡ None
related_alone None keyword e = refl
related_alone (Some (form.Atom other)) keyword e = refl
related_alone (Some (form.Related other)) keyword e = refl
related_alone (Some form.Not) keyword e = absurd (cc)
related_alone (Some form.AnyOf) keyword e = absurd (cc)
related_alone (Some form.AllOf) keyword e = absurd (cc)
related_alone (Some form.If) keyword e = absurd (cc)
related_alone (Some form.IfElse) keyword e = absurd (cc)

-- there is no constraint within a relation
pub line_alone : (fields : List Field) (line : Relation) (v : Json) (place : List Step) → Joins fields line v place
    → (place ≡ []) ⊎ IsAlone v
line_alone fields line v place h =
    let there = some_of (related_of (form_in v)) (λ keyword. (place ≡ step.Member (field_word keyword) ∷ [])
    × IsSomeAnd (line_with fields keyword (members_of v)) (IsAlong line)) h in
    inr (alone_by_form v (related_alone (form_in v) there.0 there.1))

-- the ends of lines
abbrev AreBelow : List Relation → Type 0
AreBelow = All (HasEndsBelow max_fields)

same_not : (n : ℕ) → not (n == n) ≡ true → ⊥
same_not n e = let other : (n == n) ≡ false = not-true (n == n) e in eqb-false n n other refl

line_below : (left right : ℕ) → ((nat_lt left max_fields && nat_lt right max_fields) && not (left == right)) ≡ true
    → HasEndsBelow max_fields (line left right)
line_below left right e =
    let parts = and_parts (nat_lt left max_fields && nat_lt right max_fields) (not (left == right)) e in
    let below = and_parts (nat_lt left max_fields) (nat_lt right max_fields) parts.0 in record {
      left = ltb-true left max_fields below.0;
      right = ltb-true right max_fields below.1;
      different = λ same. same_not left (let P : ℕ → Type 0 = λ n. not (left == n) ≡ true in
          subst P (sym same) parts.1);
    }

chosen_below : (left right : ℕ) (b : Bool)
    → ((nat_lt left max_fields && nat_lt right max_fields) && not (left == right)) ≡ b
    → AreBelow (line_list (if b then Some (line left right) else None))
chosen_below left right true e = All-cons (HasEndsBelow max_fields) (line left right) [] (line_below left right e)
    (All-nil (HasEndsBelow max_fields))
chosen_below left right false e = All-nil (HasEndsBelow max_fields)

of_below : (left right : Option ℕ) → AreBelow (line_list (line_of left right))
of_below None right = All-nil (HasEndsBelow max_fields)
of_below (Some left) None = All-nil (HasEndsBelow max_fields)
of_below (Some left) (Some right) = chosen_below left right
    ((nat_lt left max_fields && nat_lt right max_fields) && not (left == right)) refl

own_below : (fields : List Field) (keyword : Option FieldKeyword) (members : List Member)
    → AreBelow (own_lines fields keyword members)
own_below fields None members = All-nil (HasEndsBelow max_fields)
own_below fields (Some keyword) members =
    of_below (index_by fields (value_of (codes "field") members))
    (index_by fields (value_of (field_word keyword) members))

by_inside : (which : Inside) (own operands branches : List Relation) → AreBelow own → AreBelow operands
    → AreBelow branches → AreBelow (chosen_lines which own operands branches)
by_inside inside.Nothing own operands branches first second third = first
by_inside inside.Operands own operands branches first second third = second
by_inside inside.Branches own operands branches first second third = third

module _ (fields : List Field) where
  mutual
    in_below : (v : Json) → AreBelow (lines_in fields v)
    in_below json.Null = All-nil (HasEndsBelow max_fields)
    in_below (json.Bool b) = All-nil (HasEndsBelow max_fields)
    in_below (json.Number text) = All-nil (HasEndsBelow max_fields)
    in_below (json.Str text) = All-nil (HasEndsBelow max_fields)
    in_below (json.List' shape items) = All-nil (HasEndsBelow max_fields)
    in_below (json.Object' shape members) = by_inside (inside_of (form_of (listed_members members)))
        (own_lines fields (related_of (form_of (listed_members members))) (listed_members members))
        (operand_lines fields members) (branch_lines fields members)
        (own_below fields (related_of (form_of (listed_members members))) (listed_members members))
        (operands_below members) (branches_below members)

    list_below : (v : Json) → AreBelow (list_lines fields v)
    list_below json.Null = All-nil (HasEndsBelow max_fields)
    list_below (json.Bool b) = All-nil (HasEndsBelow max_fields)
    list_below (json.Number text) = All-nil (HasEndsBelow max_fields)
    list_below (json.Str text) = All-nil (HasEndsBelow max_fields)
    list_below (json.List' shape items) = items_below items
    list_below (json.Object' shape members) = All-nil (HasEndsBelow max_fields)

    items_below : {n : _} (items : Row_of-Json n) → AreBelow (item_lines fields items)
    items_below json.end_of-Json = All-nil (HasEndsBelow max_fields)
    items_below (json.more_of-Json item items) = All-append (HasEndsBelow max_fields) (lines_in fields item)
        (item_lines fields items) (in_below item) (items_below items)

    operands_below : {n : _} (members : Row_of-Member n) → AreBelow (operand_lines fields members)
    operands_below json.end_of-Member = All-nil (HasEndsBelow max_fields)
    operands_below (json.more_of-Member key value members) = All-append (HasEndsBelow max_fields)
        (lines_in fields value) (operand_lines fields members) (in_below value) (operands_below members)

    branches_below : {n : _} (members : Row_of-Member n) → AreBelow (branch_lines fields members)
    branches_below json.end_of-Member = All-nil (HasEndsBelow max_fields)
    branches_below (json.more_of-Member key value members) = All-append (HasEndsBelow max_fields)
        (list_lines fields value) (branch_lines fields members) (list_below value) (branches_below members)

  under_below : (o : Option Json) → AreBelow (lines_under fields o)
  under_below None = All-nil (HasEndsBelow max_fields)
  under_below (Some constraints) = list_below constraints

  pub lines_below : (v : Json) → AreBelow (lines_of fields v)
  lines_below v = under_below (value_of (codes "constraints") (members_of v))
