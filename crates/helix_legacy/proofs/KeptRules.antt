-- What is known of a value of the older form is known of its form today.
use Rattle.std.proofs.Common.{◌≡◌, ◌≢◌, ℕ, zero, suc, inl, inr, Bool, true, false, IsTrue, List, [], ◌∷◌, map, Option, Some, None, slice_get, codes, if◌then◌else◌, refl, sym, ◌∙◌, ap, subst, arith}
use Rattle.std.specs.List.{AllByRecursion}
use Rattle.std.specs.Str.{bytes_eq}
use Rattle.helix_json.specs.declared.value.Json.{Json, Row_of-Json, Row_of-Member}
use Rattle.helix_json.specs.declared.value.Json as json
use Rattle.helix_json.specs.declared.value.Json.TheViews as view
use Rattle.helix_json.specs.declared.value.Member.{Member}
use Rattle.helix_json.specs.Values.{HasNumbers, HasNoRepeatedKey, HaveDifferentKeys, nesting, members_nesting, items_nesting}
use Rattle.helix_legacy.specs.declared.fault.LegacyRule.TheVariants as rule
use Rattle.helix_places.specs.declared.place.Step.{Step}
use Rattle.helix_places.specs.declared.place.Step.TheVariants as step
use Rattle.helix_places.specs.Members.{listed_members, listed_items, members_of, items_of, value_of, is_list}
use Rattle.helix_legacy.specs.Broken.{Broken, BreaksForm, BreaksRuleForm, IsUnbroken, is_older, is_rule}
use Rattle.helix_places.specs.Places.{Here}
use Rattle.helix_legacy.specs.Today.{member, the, constraints_today, rule_today, member_today, today_of}
use Rattle.helix_legacy.specs.Inner.Parts.{IsBreach}
use Rattle.helix_legacy.specs.declared.breach.Breach.{Breach}
use Rattle.helix_legacy.proofs.Converting.{older_today}
use Rattle.helix_places.specs.PlaceLaws.{and_some}
use Rattle.helix_places.specs.KeyLaws.{same_bytes, bytes_same, other_bytes, value_at}
use Rattle.helix_legacy.proofs.Kept.{IsKept, AllKept, KeptItems, object_kept, list_kept, first_item, other_items, members_kept, the_kept}
use Rattle.helix_legacy.proofs.KeptConstraints.{constraints_kept}

true_unless : (b : Bool) → ¬ (b ≡ false) → b ≡ true
true_unless true not_false = refl
true_unless false not_false = absurd (not_false refl)

-- the form of `rules` is kept
abbrev AreRules : Json → Type 0
AreRules rules = (place : List Step) → ¬ (BreaksForm rules place)

rules_list : (rules : Json) → AreRules rules → is_list rules ≡ true
rules_list rules are = true_unless (is_list rules) (λ none. are [] (inl (refl, none)))

rule_at : (rules : Json) → AreRules rules → (i : ℕ) (item : Json) → slice_get (items_of rules) i ≡ Some item
    → is_rule item ≡ true
rule_at rules are i item at = true_unless (is_rule item) (λ none. are (step.Item i ∷ [])
    (inr (and_some (slice_get (items_of rules) i) (λ w. BreaksRuleForm w []) item at (inl (refl, none)))))

module _ (B : Type 0) where
  rule_kept : (most : ℕ) (v : Json) → IsKept B most v → is_rule v ≡ true → IsKept B most (rule_today v)
  rule_kept most json.Null kept is = let e : false ≡ true = is in absurd (cc)
  rule_kept most (json.Bool b) kept is = let e : false ≡ true = is in absurd (cc)
  rule_kept most (json.Number text) kept is = let e : false ≡ true = is in absurd (cc)
  rule_kept most (json.Str text) kept is = let e : false ≡ true = is in absurd (cc)
  rule_kept most (json.List' shape items) kept is = let e : false ≡ true = is in absurd (cc)
  rule_kept most (json.Object' shape members) kept is =
      let least : ℕ = members_nesting members in
      let own : HaveDifferentKeys (listed_members members) × AllKept B least (listed_members members) =
      members_kept B least members (kept.keys, omega arith, kept.numbers) in
      object_kept B least most
      (member (codes "allOf") (constraints_today (the (codes "constraints") (listed_members members))) ∷ [])
      kept.depth (tt, tt) (
        constraints_kept B least (the (codes "constraints") (listed_members members))
            (the_kept B least (codes "constraints") (listed_members members) own.1),
        tt,
      )

  each_kept : {n : _} (most : ℕ) (row : Row_of-Json n) → KeptItems B most row
      → ((i : ℕ) (item : Json) → slice_get (listed_items row) i ≡ Some item → is_rule item ≡ true)
      → AllByRecursion (IsKept B most) (map rule_today (listed_items row))
  each_kept most json.end_of-Json kept are = tt
  each_kept most (json.more_of-Json item row) kept are = (
    rule_kept most item (first_item B most item row kept) (are zero item refl),
    each_kept most row (other_items B most item row kept) (λ i x at. are (suc i) x at),
  )

  rules_kept : (most : ℕ) (v : Json) → IsKept B most v → AreRules v
      → IsKept B most (view.List (map rule_today (items_of v)))
  rules_kept most json.Null kept are = let e : false ≡ true = rules_list json.Null are in absurd (cc)
  rules_kept most (json.Bool b) kept are = let e : false ≡ true = rules_list (json.Bool b) are in absurd (cc)
  rules_kept most (json.Number text) kept are = let e : false ≡ true = rules_list (json.Number text) are in absurd (cc)
  rules_kept most (json.Str text) kept are = let e : false ≡ true = rules_list (json.Str text) are in absurd (cc)
  rules_kept most (json.Object' shape members) kept are =
      let e : false ≡ true = rules_list (json.Object' shape members) are in absurd (cc)
  rules_kept most (json.List' shape items) kept are =
      let least : ℕ = items_nesting items in
      list_kept B least most (map rule_today (listed_items items)) kept.depth
      (each_kept least items (kept.keys, omega arith, kept.numbers) (rule_at (json.List' shape items) are))

  member_kept : (most : ℕ) (m : Member) (b : Bool) → bytes_eq m.key (codes "rules") ≡ b → IsKept B most m.value
      → (m.key ≡ codes "rules" → AreRules m.value)
      → IsKept B most (if b then member (codes "constraints") (view.List (map rule_today (items_of m.value)))
      else m).value
  member_kept most m true is kept are = rules_kept most m.value kept (are (same_bytes m.key (codes "rules") is))
  member_kept most m false is kept are = kept

  all_kept : (most : ℕ) (members : List Member) → AllKept B most members
      → ((i : ℕ) (m : Member) → slice_get members i ≡ Some m → m.key ≡ codes "rules" → AreRules m.value)
      → AllKept B most (map member_today members)
  all_kept most [] kept are = tt
  all_kept most (m ∷ members) kept are = (
    member_kept most m (bytes_eq m.key (codes "rules")) refl kept.0 (are zero m refl),
    all_kept most members kept.1 (λ i x at. are (suc i) x at),
  )

-- no member has a key
abbrev Lacks : List ℕ → List Member → Type 0
Lacks key members = AllByRecursion (λ m. m.key ≢ key) members

bytes_same_as : (a b : List ℕ) → a ≡ b → bytes_eq a b ≡ true
bytes_same_as a b is = ap (λ c. bytes_eq a c) (sym is) ∙ bytes_same a

lacks : (key : List ℕ) (members : List Member) → ((w : Json) → value_of key members ≢ Some w) → Lacks key members
lacks key [] none = tt
lacks key (m ∷ members) none =
    let other : m.key ≢ key = λ is. none m.value (ap (λ b. if b then Some m.value else value_of key members)
    ((bytes_same_as m.key key) is)) in (
      other,
      lacks key members (λ w at. none w (ap (λ b. if b then Some m.value else value_of key members)
          (other_bytes m.key key other) ∙ at)),
    )

module _ (m o : Member) (differ : m.key ≢ o.key) (m_other : m.key ≢ codes "constraints")
    (o_other : o.key ≢ codes "constraints")
  where
    keys_differ : (b c : Bool) → bytes_eq m.key (codes "rules") ≡ b → bytes_eq o.key (codes "rules") ≡ c
        → (if b then member (codes "constraints") (view.List (map rule_today (items_of m.value))) else m).key
        ≢ (if c then member (codes "constraints") (view.List (map rule_today (items_of o.value))) else o).key
    keys_differ true true b_is c_is same =
        differ (same_bytes m.key (codes "rules") b_is ∙ sym (same_bytes o.key (codes "rules") c_is))
    keys_differ true false b_is c_is same = o_other (sym same)
    keys_differ false true b_is c_is same = m_other same
    keys_differ false false b_is c_is same = differ same

    today_differ : (member_today m).key ≢ (member_today o).key
    today_differ = keys_differ (bytes_eq m.key (codes "rules")) (bytes_eq o.key (codes "rules")) refl refl

others_differ : (m : Member) (members : List Member) → AllByRecursion (λ o. m.key ≢ o.key) members
    → m.key ≢ codes "constraints" → Lacks (codes "constraints") members
    → AllByRecursion (λ o. (member_today m).key ≢ o.key) (map member_today members)
others_differ m [] differ other none = tt
others_differ m (o ∷ members) differ other none =
    (today_differ m o differ.0 other none.0, others_differ m members differ.1 other none.1)

all_differ : (members : List Member) → HaveDifferentKeys members → Lacks (codes "constraints") members
    → HaveDifferentKeys (map member_today members)
all_differ [] differ none = tt
all_differ (m ∷ members) differ none =
    (others_differ m members differ.0 none.0 none.1, all_differ members differ.1 none.1)

no_constraints : (v : Json) → IsUnbroken v → (w : Json) → value_of (codes "constraints") (members_of v) ≢ Some w
unfolding Broken
no_constraints v unbroken w is = unbroken rule.L1 (step.Member (codes "constraints") ∷ [])
    (refl, and_some (value_of (codes "constraints") (members_of v)) (λ u. Here (λ x. Unit {0}) u []) w is (refl, tt))

are_rules : (v : Json) → IsUnbroken v → (w : Json) → value_of (codes "rules") (members_of v) ≡ Some w → AreRules w
unfolding Broken
are_rules v unbroken w is place broken = unbroken rule.L2 (step.Member (codes "rules") ∷ place)
    (refl, and_some (value_of (codes "rules") (members_of v)) (λ u. BreaksForm u place) w is broken)

members_today_kept : (B : Type 0) (v : Json) → IsTrue (is_older v) → IsUnbroken v → (most : ℕ) → IsKept B most v
    → IsKept B most (view.Object (map member_today (members_of v)))
members_today_kept B json.Null older unbroken most kept = let e : false ≡ true = older in absurd (cc)
members_today_kept B (json.Bool b) older unbroken most kept = let e : false ≡ true = older in absurd (cc)
members_today_kept B (json.Number text) older unbroken most kept = let e : false ≡ true = older in absurd (cc)
members_today_kept B (json.Str text) older unbroken most kept = let e : false ≡ true = older in absurd (cc)
members_today_kept B (json.List' shape items) older unbroken most kept = let e : false ≡ true = older in absurd (cc)
members_today_kept B (json.Object' shape row) older unbroken most kept =
    let least : ℕ = members_nesting row in
    let own : HaveDifferentKeys (listed_members row) × AllKept B least (listed_members row) =
    members_kept B least row (kept.keys, omega arith, kept.numbers) in
    object_kept B least most (map member_today (listed_members row)) kept.depth
    (all_differ (listed_members row) own.0 (lacks (codes "constraints") (listed_members row)
    (no_constraints (json.Object' shape row) unbroken)))
    (all_kept B least (listed_members row) own.1
    (λ i m at is. are_rules (json.Object' shape row) unbroken m.value
    (ap (λ key. value_of key (listed_members row)) (sym is) ∙ value_at (listed_members row) i m own.0 at)))

-- a value of the older form that breaks no rule
today_kept : (v : Json) → IsTrue (is_older v) → IsUnbroken v → HasNoRepeatedKey v
    → IsKept (HasNumbers v) (nesting v) (today_of v)
today_kept v older unbroken keys =
    let whole : IsKept (HasNumbers v) (nesting v) (view.Object (map member_today (members_of v))) =
    members_today_kept (HasNumbers v) v older unbroken (nesting v)
    (record { keys = keys; depth = omega arith; numbers = λ has. has }) in
    subst (λ b. IsKept (HasNumbers v) (nesting v)
    (if b then view.Object (map member_today (members_of v)) else v)) (sym older) whole

-- the same, of what the call answers
pub answer_kept : (v : Json) (members : List Member) (found : Option Breach) (value : Json) → v ≡ view.Object members
    → IsTrue (is_older v) → HasNoRepeatedKey v → IsBreach (view.Object members) found → found ≡ None
    → value ≡ view.Object (map member_today members) → IsKept (HasNumbers v) (nesting v) value
answer_kept v members found value is older keys breach none value_is =
    let Q : Option Breach → Type 0 = λ o. IsBreach (view.Object members) o in
    let nothing : IsUnbroken (view.Object members) = subst Q none breach in
    let unbroken : IsUnbroken v = let R : Json → Type 0 = λ w. IsUnbroken w in subst R (sym is) nothing in
    subst (λ w. IsKept (HasNumbers v) (nesting v) w) (sym (value_is ∙ older_today v members is older))
    (today_kept v older unbroken keys)
