-- The members of a constraint, one after the other.
use Rattle.std.proofs.Common.{◌≡◌, ◌↔◌, ℕ, ◌<◌, ◌≤◌, Bool, true, false, IsTrue, List, [], ◌∷◌, length, ◌+◌, ◌∙◌, Option, Some, None, get_or, Result, IfOk, sym, subst, ap}
use Rattle.std.specs.Option.{IsSomeAnd}
use Rattle.helix_base.specs.declared.memory.Memory.{Memory}
use Rattle.helix_json.specs.declared.value.Json.{Json}
use Rattle.helix_json.specs.declared.value.Json.TheViews as view
use Rattle.helix_json.specs.declared.value.Member.{Member}
use Rattle.helix_json.specs.Values.{HasNoRepeatedKey}
use Rattle.helix_keywords.specs.declared.form.Form.{Form}
use Rattle.helix_keywords.specs.Forms.{form_of}
use Rattle.helix_places.specs.declared.place.Step.{Step}
use Rattle.helix_places.specs.declared.place.Step.TheVariants as step
use Rattle.helix_places.specs.Members.{members_of, value_of}
use Rattle.helix_places.specs.Places.{Finds}
use Rattle.helix_places.specs.KeyLaws.{NoneBefore, none_more}
use Rattle.helix_places.specs.ViewLaws.{members_of_object}
use Rattle.helix_profile.specs.declared.field.Field.{Field}
use Rattle.helix_references.specs.declared.rule.ReferenceRule.{ReferenceRule}
use Rattle.helix_references.specs.AtMember.{AtMember}
use Rattle.helix_references.specs.MemberLaws.{HasFault, SaysAt, found_faulty, no_more_faulty}
use Rattle.helix_references.specs.Rules.{Breaks, IsFaulty as FaultyBy}

-- what a search says of a value whose keys differ
abbrev pub Says : ReferenceRule → List Field → Json → Option (List Step) → Type 0
Says rule fields v found = HasNoRepeatedKey v → Finds v (Breaks rule fields v) found

module _ (rule : ReferenceRule) (fields : List Field) (members : List Member) (form : Option Form)
    (form_is : form ≡ form_of members) where
  says_of : (found : Option (List Step)) → SaysAt (FaultyBy rule fields members form) members found
      → Says rule fields (view.Object members) found
  says_of found says keys =
      let Q : List Member → Type 0 = λ l. Finds (view.Object members)
      (AtMember (FaultyBy rule fields l (form_of l)) (view.Object members)) found in
      let R : Option Form → Type 0 = λ f. Finds (view.Object members)
      (AtMember (FaultyBy rule fields members f) (view.Object members)) found in
      subst Q (sym (members_of_object members)) (subst R form_is (says keys))

  pub no_more_members : (i : ℕ) → length members ≤ i
      → NoneBefore (HasFault (FaultyBy rule fields members form)) members i
      → Says rule fields (view.Object members) None
  no_more_members i all none = says_of None (no_more_faulty (FaultyBy rule fields members form) members i all none)

  module _ (i : ℕ) (m : Member) (within : i < length members) (read : m ≡ get_or members i m)
      (none : NoneBefore (HasFault (FaultyBy rule fields members form)) members i) (key : List ℕ) (key_is : key ≡ m.key)
      (answer : Bool) (answer_is : IsTrue answer ↔ FaultyBy rule fields members form key m.value)
    where
      faulty_is : FaultyBy rule fields members form key m.value ≡ FaultyBy rule fields members form m.key m.value
      faulty_is = ap (λ k. FaultyBy rule fields members form k m.value) key_is

      pub next_member : answer ≡ false → NoneBefore (HasFault (FaultyBy rule fields members form)) members (i + 1)
      next_member not_faulty = none_more (HasFault (FaultyBy rule fields members form)) members i m within read none
          (λ faulty. let is_true : answer ≡ true = answer_is.1 (subst (λ T. T) (sym faulty_is) faulty) in
          let P : true ≡ false = sym is_true ∙ not_faulty in cc)

      pub this_member : answer ≡ true → (copied : List ℕ) (new : List Step) → copied ≡ m.key
          → new ≡ step.Member copied ∷ [] → Says rule fields (view.Object members) (Some new)
      this_member is_faulty copied new copied_is new_is = says_of (Some new)
          (found_faulty (FaultyBy rule fields members form) members i m within read none
          (subst (λ T. T) faulty_is (answer_is.0 is_faulty)) copied new copied_is new_is)

-- a value that is an object, or is none
pub object_says : (rule : ReferenceRule) (fields : List Field) (v : Json) (members : List Member)
    (r : Result (Option (List Step)) Memory) → v ≡ view.Object members
    → IfOk r (Says rule fields (view.Object members)) → IfOk r (Says rule fields v)
object_says rule fields v members r is says =
    let Q : Json → Type 0 = λ w. IfOk r (Says rule fields w) in subst Q (sym is) says

pub other_says : (rule : ReferenceRule) (fields : List Field) (v : Json) → members_of v ≡ []
    → Says rule fields v None
other_says rule fields v none keys [] h = h
other_says rule fields v none keys (step.Item index ∷ place) h = h
other_says rule fields v none keys (step.Member key ∷ place) h =
    let Q : List Member → Type 0 = λ l. IsSomeAnd (value_of key l)
    (FaultyBy rule fields (members_of v) (form_of (members_of v)) key) in subst Q none h.1
