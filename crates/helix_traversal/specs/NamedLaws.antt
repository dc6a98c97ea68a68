-- A place that a property of constraints names in a profile is in a visited constraint.
use Rattle.std.proofs.Common.{◌≡◌, inl, inr, ℕ, zero, suc, ◌+◌, Bool, true, false, if◌then◌else◌, List, [], ◌∷◌, ◌++◌, Option, None, Some, slice_get, codes, refl, sym, ◌∙◌, ap, subst, arith}
use Rattle.std.specs.Option.{IsSomeAnd}
use Rattle.std.specs.Str.{bytes_eq}
use Rattle.std.proofs.lemmas.List.{append_assoc}
use Rattle.helix_constraints.specs.Visited.{InConstraint, InConstraints, Visited, role_by_form, role_of_parts}
use Rattle.helix_constraints.specs.declared.role.Role.{Role}
use Rattle.helix_constraints.specs.declared.role.Role.TheVariants as role
use Rattle.helix_json.specs.declared.value.Json.{Json, Row_of-Json, Row_of-Member}
use Rattle.helix_json.specs.declared.value.Json as json
use Rattle.helix_keywords.specs.Forms.{form_of}
use Rattle.helix_places.specs.KeyLaws.{same_bytes}
use Rattle.helix_places.specs.Members.{listed_items, listed_members, members_of, value_of}
use Rattle.helix_places.specs.Places.{InItem, part}
use Rattle.helix_places.specs.declared.place.Step.{Step}
use Rattle.helix_places.specs.declared.place.Step.TheVariants as step
use Rattle.helix_traversal.specs.Inner.Parts.{whole}
use Rattle.helix_traversal.specs.Traversal.{Visit, all_constraints, at_index, at_key, chosen, inside_of, of_branches, of_items, of_list, of_operands, of_some_list, visit, within}
use Rattle.helix_traversal.specs.declared.inside.Inside.{Inside}
use Rattle.helix_traversal.specs.declared.inside.Inside.TheVariants as inside
use Rattle.helix_traversal.specs.RoleLaws.{IsOne, no_role, one_after, one_before, role_of_inside, same_role, some_of}

module _ (P : Json → List Step → Type 0) where
  -- where a property names a place in a constraint within a value, the constraint is visited
  pub record IsNamed (place there : List Step) (visits : List Visit) : Type 0 where
    pub one : Visit
    pub rest : List Step
    pub visited : IsOne visits one
    pub named : P one.value rest
    pub is : place ++ there ≡ one.place ++ rest

  more_named : (place there other after : List Step) (visits more : List Visit) → place ++ there ≡ other ++ after
      → ((one : Visit) → IsOne visits one → IsOne more one) → IsNamed other after visits → IsNamed place there more
  more_named place there other after visits more same all named = record {
    one = named.one;
    rest = named.rest;
    visited = all named.one named.visited;
    named = named.named;
    is = same ∙ named.is;
  }

  by_other : (of : List ℕ → Json → List Visit) (b : Bool) (other key : List ℕ) (v : Json) (later : Option Json)
      (w : Json) (visits : List Visit) (one : Visit) → bytes_eq other key ≡ b
      → (if b then Some v else later) ≡ Some w → IsOne (of key w) one → (later ≡ Some w → IsOne visits one)
      → IsOne (of other v ++ visits) one
  by_other of true other key v later w visits one e is visited more = let same : v ≡ w = cc in
      one_before (of other v) visits one (subst (λ k. IsOne (of k v) one) (sym (same_bytes other key e))
      (subst (λ u. IsOne (of key u) one) (sym same) visited))
  by_other of false other key v later w visits one e is visited more =
      one_after (of other v) visits one (more is)

  operand_visited : {n : _} (members : Row_of-Member n) (place : List Step) (key : List ℕ) (w : Json) (one : Visit)
      → value_of key (listed_members members) ≡ Some w → IsOne (whole (at_key place key) w) one
      → IsOne (of_operands place members) one
  operand_visited json.end_of-Member place key w one is visited = absurd (cc)
  operand_visited (json.more_of-Member other v members) place key w one is visited =
      by_other (λ k u. whole (at_key place k) u) (bytes_eq other key) other key v
      (value_of key (listed_members members)) w (of_operands place members) one refl is visited
      (λ later. operand_visited members place key w one later visited)

  branch_visited : {n : _} (members : Row_of-Member n) (place : List Step) (key : List ℕ) (w : Json) (one : Visit)
      → value_of key (listed_members members) ≡ Some w → IsOne (of_list (at_key place key) w) one
      → IsOne (of_branches place members) one
  branch_visited json.end_of-Member place key w one is visited = absurd (cc)
  branch_visited (json.more_of-Member other v members) place key w one is visited =
      by_other (λ k u. of_list (at_key place k) u) (bytes_eq other key) other key v
      (value_of key (listed_members members)) w (of_branches place members) one refl is visited
      (λ later. branch_visited members place key w one later visited)

  item_visited : {n : _} (items : Row_of-Json n) (place : List Step) (index i : ℕ) (w : Json) (one : Visit)
      → slice_get (listed_items items) i ≡ Some w → IsOne (whole (at_index place (index + i)) w) one
      → IsOne (of_items place index items) one
  item_visited json.end_of-Json place index i w one is visited = absurd (cc)
  item_visited (json.more_of-Json item items) place index zero w one is visited =
      let same : item ≡ w = cc in let first : index + zero ≡ index = omega arith in
      one_before (whole (at_index place index) item) (of_items place (index + 1) items) one
      (subst (λ k. IsOne (whole (at_index place k) item) one) first
      (subst (λ u. IsOne (whole (at_index place (index + zero)) u) one) (sym same) visited))
  item_visited (json.more_of-Json item items) place index (suc i) w one is visited =
      let next : index + suc i ≡ (index + 1) + i = omega arith in
      one_after (whole (at_index place index) item) (of_items place (index + 1) items) one
      (item_visited items place (index + 1) i w one is
      (subst (λ k. IsOne (whole (at_index place k) w) one) next visited))

  named_inside : (place : List Step) (key : List ℕ) (there : List Step) {n : _} (members : Row_of-Member n) (w : Json)
      (next : Role) (kind : Inside) → role_of_inside kind ≡ Some next → value_of key (listed_members members) ≡ Some w
      → (next ≡ role.One → IsNamed (at_key place key) there (whole (at_key place key) w))
      → (next ≡ role.Many → IsNamed (at_key place key) there (of_list (at_key place key) w))
      → IsNamed place (step.Member key ∷ there) (chosen kind (of_operands place members) (of_branches place members))
  named_inside place key there members w next inside.Nothing e is one many =
      absurd (let none : None ≡ Some next = e in cc)
  named_inside place key there members w next inside.Operands e is one many =
      let same : next ≡ role.One = cc in
      more_named place (step.Member key ∷ there) (at_key place key) there (whole (at_key place key) w)
      (of_operands place members) (sym (append_assoc place (step.Member key ∷ []) there))
      (λ x visited. operand_visited members place key w x is visited) (one same)
  named_inside place key there members w next inside.Branches e is one many =
      let same : next ≡ role.Many = cc in
      more_named place (step.Member key ∷ there) (at_key place key) there (of_list (at_key place key) w)
      (of_branches place members) (sym (append_assoc place (step.Member key ∷ []) there))
      (λ x visited. branch_visited members place key w x is visited) (many same)

  abbrev NamesOne : List Step → Type 0
  NamesOne there = (place : List Step) (v : Json) → Visited P role.One v there → IsNamed place there (whole place v)

  abbrev NamesMany : List Step → Type 0
  NamesMany there = (place : List Step) (v : Json) → Visited P role.Many v there → IsNamed place there (of_list place v)

  module _ (to : Step) (there : List Step) (one : NamesOne there) (many : NamesMany there) where
    named_member : (place : List Step) (key : List ℕ) (v : Json) {n : _} (members : Row_of-Member n)
        → to ≡ step.Member key → members_of v ≡ listed_members members
        → IsSomeAnd (role_of_parts role.One v) (λ next. IsSomeAnd (value_of key (members_of v)) (λ w. Visited P next w there))
        → IsNamed place (step.Member key ∷ there)
        (chosen (inside_of (form_of (listed_members members))) (of_operands place members) (of_branches place members))
    named_member place key v members to_is members_are deep =
        let which = some_of (role_of_parts role.One v)
        (λ next. IsSomeAnd (value_of key (members_of v)) (λ w. Visited P next w there)) deep in
        let at = some_of (value_of key (members_of v)) (λ w. Visited P which.0 w there) which.2 in
        named_inside place key there members at.0 which.0 (inside_of (form_of (listed_members members)))
        (sym (same_role (form_of (listed_members members)))
        ∙ (ap (λ ms. role_by_form (form_of ms)) (sym members_are) ∙ which.1))
        (ap (λ ms. value_of key ms) (sym members_are) ∙ at.1)
        (λ is. one (at_key place key) at.0 (subst (λ r. Visited P r at.0 there) is at.2))
        (λ is. many (at_key place key) at.0 (subst (λ r. Visited P r at.0 there) is at.2))

    named_within : (next : Step) → to ≡ next → (place : List Step) (v : Json)
        → IsSomeAnd (role_of_parts role.One v) (λ r. IsSomeAnd (part v next) (λ w. Visited P r w there))
        → IsNamed place (next ∷ there) (within place v)
    named_within next is place json.Null deep = absurd (no_role _ deep)
    named_within next is place (json.Bool b) deep = absurd (no_role _ deep)
    named_within next is place (json.Number text) deep = absurd (no_role _ deep)
    named_within next is place (json.Str text) deep = absurd (no_role _ deep)
    named_within next is place (json.List' shape items) deep = absurd (no_role _ deep)
    named_within (step.Item i) is place (json.Object' shape members) deep =
        let which = some_of (role_of_parts role.One (json.Object' shape members))
        (λ r. IsSomeAnd (part (json.Object' shape members) (step.Item i)) (λ w. Visited P r w there)) deep in
        absurd which.2
    named_within (step.Member key) is place (json.Object' shape members) deep =
        named_member place key (json.Object' shape members) members is refl deep

    named_listed : (next : Step) (place : List Step) (v : Json)
        → IsSomeAnd (role_of_parts role.Many v) (λ r. IsSomeAnd (part v next) (λ w. Visited P r w there))
        → IsNamed place (next ∷ there) (of_list place v)
    named_listed next place json.Null deep = absurd deep
    named_listed next place (json.Bool b) deep = absurd deep
    named_listed next place (json.Number text) deep = absurd deep
    named_listed next place (json.Str text) deep = absurd deep
    named_listed next place (json.Object' shape members) deep = absurd deep
    named_listed (step.Member key) place (json.List' shape items) deep = absurd deep
    named_listed (step.Item i) place (json.List' shape items) deep =
        let at = some_of (slice_get (listed_items items) i) (λ w. Visited P role.One w there) deep in
        let same : i ≡ 0 + i = omega arith in
        more_named place (step.Item i ∷ there) (at_index place i) there (whole (at_index place i) at.0)
        (of_items place 0 items) (sym (append_assoc place (step.Item i ∷ []) there))
        (λ x visited. item_visited items place 0 i at.0 x at.1
        (subst (λ k. IsOne (whole (at_index place k) at.0) x) same visited)) (one (at_index place i) at.0 at.2)

  here : (place there : List Step) (v : Json) → P v there → IsNamed place there (whole place v)
  here place there v h = record {
    one = visit place v;
    rest = there;
    visited = inl refl;
    named = h;
    is = refl;
  }

  mutual
    pub named_in_one : (there : List Step) → NamesOne there
    named_in_one [] place v h = here place [] v h
    named_in_one (to ∷ there) place v (inl h) = here place (to ∷ there) v h
    named_in_one (to ∷ there) place v (inr deep) = more_named place (to ∷ there) place (to ∷ there) (within place v)
        (whole place v) refl (λ x is. inr is)
        (named_within to there (named_in_one there) (named_in_many there) to refl place v deep)

    pub named_in_many : (there : List Step) → NamesMany there
    named_in_many [] place v h = absurd h
    named_in_many (to ∷ there) place v (inl h) = absurd h
    named_in_many (to ∷ there) place v (inr deep) =
        named_listed to there (named_in_one there) (named_in_many there) to place v deep

  -- all constraints of a profile
  listed : (w : Json) (place : List Step) → InItem (InConstraint P) w place → Visited P role.Many w place
  listed w [] h = absurd h
  listed w (step.Member key ∷ place) h = absurd h
  listed json.Null (step.Item i ∷ place) h = absurd h
  listed (json.Bool b) (step.Item i ∷ place) h = absurd h
  listed (json.Number text) (step.Item i ∷ place) h = absurd h
  listed (json.Str text) (step.Item i ∷ place) h = absurd h
  listed (json.Object' shape members) (step.Item i ∷ place) h = absurd h
  listed (json.List' shape items) (step.Item i ∷ place) h = inr h

  abbrev under : List Step
  under = step.Member (codes "constraints") ∷ []

  named_under : (o : Option Json) (place : List Step) → IsSomeAnd o (λ w. InItem (InConstraint P) w place)
      → IsNamed under place (of_some_list under o)
  named_under None place h = absurd h
  named_under (Some w) place h = named_in_many place under w (listed w place h)

  -- a place that the property names is in a visited constraint,
  pub named_in_all : (v : Json) (place : List Step) → InConstraints P v place → IsNamed [] place (all_constraints v)
  named_in_all v [] h = absurd h
  named_in_all v (step.Item i ∷ place) h = absurd h
  named_in_all v (step.Member key ∷ place) h = more_named [] (step.Member key ∷ place) under place (all_constraints v)
      (all_constraints v) (ap (λ k. step.Member k ∷ place) h.0) (λ one is. is)
      (named_under (value_of (codes "constraints") (members_of v)) place h.1)
