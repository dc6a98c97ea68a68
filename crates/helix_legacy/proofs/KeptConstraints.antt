-- What is kept of a value is kept of its visited constraints in today's form.
use Rattle.std.proofs.Common.{◌≡◌, ◌≢◌, ℕ, ◌+◌, ◌≤◌, true, List, Option, Some, None, codes, refl, ◌∙◌, ap, arith}
use Rattle.std.specs.List.{AllByRecursion}
use Rattle.helix_json.specs.declared.value.Json.{Json, Row_of-Json, Row_of-Member}
use Rattle.helix_json.specs.declared.value.Json as json
use Rattle.helix_json.specs.declared.value.Member.{Member}
use Rattle.helix_json.specs.Values.{HaveDifferentKeys, members_nesting, items_nesting}
use Rattle.helix_legacy.specs.declared.form.Form.{Form}
use Rattle.helix_legacy.specs.declared.form.Form.TheVariants as form
use Rattle.helix_legacy.specs.declared.form.Line.{Line}
use Rattle.helix_legacy.specs.declared.form.Line.TheVariants as line
use Rattle.helix_places.specs.Members.{listed_members}
use Rattle.helix_legacy.specs.Forms.{form_of, line_of, line_for, line_for_some, word_of, is_value_word, is_general_word, is_text_word, is_number_word, is_moment_word}
use Rattle.helix_legacy.specs.Today.{the, or_empty, line_today, object_today, constraint_today, constraints_today, items_today, operands_today, branches_today}
use Rattle.helix_legacy.proofs.Kept.{differ, IsKept, AllKept, KeptMembers, KeptItems, object_kept, list_kept, first_member, other_members, first_item, other_items, Renews, renewed, members_kept, the_kept, test_kept}

field_line : (members : List Member) → line_for (codes "field") members ≡ None
unfolding line_for is_value_word is_general_word is_text_word is_number_word is_moment_word
field_line members = refl

other_word : (members : List Member) (word : Option (List ℕ)) → line_for_some word members ≡ Some line.Value
    → codes "field" ≢ or_empty word
other_word members None is same = cc
other_word members (Some word) is same =
    let there : line_for (codes "field") members ≡ Some line.Value =
    ap (λ w. line_for w members) same ∙ is in
    let nothing : line_for (codes "field") members ≡ None = field_line members in cc

-- the keyword of a test is not `field`
keyword_other : (members : List Member) → line_of members ≡ Some line.Value → codes "field" ≢ or_empty (word_of members)
unfolding line_of
keyword_other members is = other_word members (word_of members) is

module _ (B : Type 0) where
  line_kept : (least most : ℕ) (members : List Member) → least + 1 ≤ most
      → HaveDifferentKeys members × AllKept B least members → (found : Option Line) → line_of members ≡ found
      → IsKept B most (line_today found members)
  line_kept least most members less kept None is = object_kept B least most members less kept.0 kept.1
  line_kept least most members less kept (Some line.Null) is =
      test_kept B least most (the (codes "field") members) (codes "isNull") (json.Bool true) less
      (differ (codes "field") (codes "isNull") refl) (the_kept B least (codes "field") members kept.1)
      (record { keys = tt; depth = omega arith; numbers = λ b. tt })
  line_kept least most members less kept (Some line.Values) is =
      test_kept B least most (the (codes "field") members) (codes "inSet") (the (codes "values") members) less
      (differ (codes "field") (codes "inSet") refl) (the_kept B least (codes "field") members kept.1)
      (the_kept B least (codes "values") members kept.1)
  line_kept least most members less kept (Some line.File) is =
      test_kept B least most (the (codes "field") members) (codes "inSet") (the (codes "file") members) less
      (differ (codes "field") (codes "inSet") refl) (the_kept B least (codes "field") members kept.1)
      (the_kept B least (codes "file") members kept.1)
  line_kept least most members less kept (Some line.Value) is =
      test_kept B least most (the (codes "field") members) (or_empty (word_of members))
      (the (codes "value") members) less
      (keyword_other members is) (the_kept B least (codes "field") members kept.1)
      (the_kept B least (codes "value") members kept.1)

  by_form : (least most : ℕ) (f : Form) (members operands branches : List Member) → least + 1 ≤ most
      → HaveDifferentKeys members × AllKept B least members
      → HaveDifferentKeys operands × AllKept B least operands
      → HaveDifferentKeys branches × AllKept B least branches
      → IsKept B most (object_today f members operands branches)
  by_form least most form.Test members operands branches less own ops parts =
      line_kept least most members less own (line_of members) refl
  by_form least most form.Operands members operands branches less own ops parts =
      object_kept B least most operands less ops.0 ops.1
  by_form least most form.Branches members operands branches less own ops parts =
      object_kept B least most branches less parts.0 parts.1
  by_form least most form.Other members operands branches less own ops parts =
      object_kept B least most members less own.0 own.1

  mutual
    pub constraint_kept : (most : ℕ) (v : Json) → IsKept B most v → IsKept B most (constraint_today v)
    constraint_kept most json.Null kept = kept
    constraint_kept most (json.Bool b) kept = kept
    constraint_kept most (json.Number text) kept = kept
    constraint_kept most (json.Str text) kept = kept
    constraint_kept most (json.List' shape items) kept = kept
    constraint_kept most (json.Object' shape members) kept =
        let least : ℕ = members_nesting members in
        let row : KeptMembers B least members = (kept.keys, omega arith, kept.numbers) in
        by_form least most (form_of (listed_members members)) (listed_members members) (operands_today members)
        (branches_today members) kept.depth (members_kept B least members row)
        (renewed B least members (operands_today members) kept.keys (operands_renew least members row))
        (renewed B least members (branches_today members) kept.keys (branches_renew least members row))

    pub constraints_kept : (most : ℕ) (v : Json) → IsKept B most v → IsKept B most (constraints_today v)
    constraints_kept most json.Null kept = kept
    constraints_kept most (json.Bool b) kept = kept
    constraints_kept most (json.Number text) kept = kept
    constraints_kept most (json.Str text) kept = kept
    constraints_kept most (json.List' shape items) kept =
        let least : ℕ = items_nesting items in
        list_kept B least most (items_today items) kept.depth
        (items_kept least items (kept.keys, omega arith, kept.numbers))
    constraints_kept most (json.Object' shape members) kept = kept

    items_kept : {n : _} (most : ℕ) (row : Row_of-Json n) → KeptItems B most row
        → AllByRecursion (IsKept B most) (items_today row)
    items_kept most json.end_of-Json kept = tt
    items_kept most (json.more_of-Json item row) kept = (
      constraint_kept most item (first_item B most item row kept),
      items_kept most row (other_items B most item row kept),
    )

    operands_renew : {n : _} (most : ℕ) (row : Row_of-Member n) → KeptMembers B most row
        → Renews B most row (operands_today row)
    operands_renew most json.end_of-Member kept = tt
    operands_renew most (json.more_of-Member key value row) kept = (
      refl,
      constraint_kept most value (first_member B most key value row kept),
      operands_renew most row (other_members B most key value row kept),
    )

    branches_renew : {n : _} (most : ℕ) (row : Row_of-Member n) → KeptMembers B most row
        → Renews B most row (branches_today row)
    branches_renew most json.end_of-Member kept = tt
    branches_renew most (json.more_of-Member key value row) kept = (
      refl,
      constraints_kept most value (first_member B most key value row kept),
      branches_renew most row (other_members B most key value row kept),
    )
