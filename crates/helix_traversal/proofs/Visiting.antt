-- The constraints within an object and a list, as code visits them.
use Rattle.std.proofs.Common.{◌≡◌, ℕ, ◌+◌, List, [], ◌∷◌, ◌++◌, Option, None, Result, Ok, Err, OnOk, refl, sym, ◌∙◌, ap}
use Rattle.std.proofs.lemmas.List.{append-nil}
use Rattle.helix_base.specs.declared.memory.Memory.{Memory}
use Rattle.helix_json.specs.declared.value.Json.{Json}
use Rattle.helix_json.specs.declared.value.Json as json
use Rattle.helix_json.specs.declared.value.Json.TheViews as view
use Rattle.helix_json.specs.declared.value.Member.{Member}
use Rattle.helix_keywords.specs.declared.form.Form.{Form}
use Rattle.helix_keywords.specs.Forms.{form_of, has_form, key_sets}
use Rattle.helix_places.specs.declared.place.Step.{Step}
use Rattle.helix_places.specs.Members.{members_of}
use Rattle.helix_places.specs.ViewLaws.{members_of_object}
use Rattle.helix_traversal.specs.declared.inside.Inside.{Inside}
use Rattle.helix_traversal.specs.Inner.Parts.{branches, items_from, operands, whole}
use Rattle.helix_traversal.specs.Traversal.{Visit, at_index, at_key, chosen, collected, inside_of, of_branches, of_items, of_list, of_operands, within}

on_ok : {A : Type 0} (r : Result A Memory) (P Q : Type 0) → (P → Q) → OnOk r P → OnOk r Q
on_ok (Ok x) P Q f h = f h
on_ok (Err e) P Q f h = h

no_form : form_of [] ≡ None
unfolding form_of has_form key_sets
no_form = refl

module _ (place : List Step) where
  abbrev operands_at : Json → List Visit
  operands_at (json.Object' shape members) = of_operands place members
  operands_at v = []

  abbrev branches_at : Json → List Visit
  branches_at (json.Object' shape members) = of_branches place members
  branches_at v = []

  abbrev items_at : ℕ → Json → List Visit
  items_at index (json.List' shape items) = of_items place index items
  items_at index v = []

  operands_are : (members : List Member) → operands_at (view.Object members) ≡ operands place members
  unfolding Rattle.helix_json.specs.declared.value.Json.TheBlock.hidden-the_row-Member-1 denote.Hole.Carrier.hidden
  operands_are [] = refl
  operands_are (m ∷ members) = ap (λ l. whole (at_key place m.key) m.value ++ l) (operands_are members)

  branches_are : (members : List Member) → branches_at (view.Object members) ≡ branches place members
  unfolding Rattle.helix_json.specs.declared.value.Json.TheBlock.hidden-the_row-Member-1 denote.Hole.Carrier.hidden
  branches_are [] = refl
  branches_are (m ∷ members) = ap (λ l. of_list (at_key place m.key) m.value ++ l) (branches_are members)

  items_are : (index : ℕ) (items : List Json) → items_at index (view.List items) ≡ items_from place index items
  unfolding Rattle.helix_json.specs.declared.value.Json.TheBlock.hidden-the_row-Json-0 denote.Hole.Carrier.hidden
  items_are index [] = refl
  items_are index (item ∷ items) = ap (λ l. whole (at_index place index) item ++ l) (items_are (index + 1) items)

  same_list : (v : Json) → of_list place v ≡ items_at 0 v
  same_list json.Null = refl
  same_list (json.Bool b) = refl
  same_list (json.Number text) = refl
  same_list (json.Str text) = refl
  same_list (json.List' shape items) = refl
  same_list (json.Object' shape members) = refl

  object_is : (members : List Member) → within place (view.Object members)
      ≡ chosen (inside_of (form_of members)) (operands place members) (branches place members)
  object_is members =
      ap (λ l. chosen (inside_of (form_of l)) (operands_at (view.Object members)) (branches_at (view.Object members)))
      (members_of_object members)
      ∙ (ap (λ l. chosen (inside_of (form_of members)) l (branches_at (view.Object members))) (operands_are members)
      ∙ ap (λ l. chosen (inside_of (form_of members)) (operands place members) l) (branches_are members))

  -- a value that has no members has nothing within it
  none_within : (v : Json) → members_of v ≡ [] → within place v ≡ []
  none_within json.Null none = refl
  none_within (json.Bool b) none = refl
  none_within (json.Number text) none = refl
  none_within (json.Str text) none = refl
  none_within (json.List' shape items) none = refl
  none_within (json.Object' shape row) none =
      ap (λ ms. chosen (inside_of (form_of ms)) (of_operands place row) (of_branches place row)) none
      ∙ ap (λ f. chosen (inside_of f) (of_operands place row) (of_branches place row)) no_form

-- what was found, where `own` says what each constraint adds
module _ {Item : Type 0} (own : List Step → Json → List Item) (place : List Step) where
  -- for an object, by what it has inside
  pub by_inside : {A : Type 0} (members : List Member) (f : Option Form) (which other : Inside)
      (old new : List Item) (r : Result A Memory) → f ≡ form_of members → which ≡ inside_of f → which ≡ other
      → OnOk r (new ≡ old ++ collected own (chosen other (operands place members) (branches place members)))
      → OnOk r (new ≡ old ++ collected own (within place (view.Object members)))
  by_inside members f which other old new r f_is which_is is = on_ok r _ _ (λ e. e ∙ ap (λ l. old ++ collected own l)
      (ap (λ w. chosen w (operands place members) (branches place members)) (sym is ∙ which_is)
      ∙ (ap (λ g. chosen (inside_of g) (operands place members) (branches place members)) f_is
      ∙ sym (object_is place members))))

  pub nothing_inside : (members : List Member) (f : Option Form) (which other : Inside) (old : List Item)
      → f ≡ form_of members → which ≡ inside_of f → which ≡ other
      → chosen other (operands place members) (branches place members) ≡ []
      → old ≡ old ++ collected own (within place (view.Object members))
  nothing_inside members f which other old f_is which_is is none = sym (append-nil old)
      ∙ ap (λ l. old ++ collected own l) (sym none
      ∙ (ap (λ w. chosen w (operands place members) (branches place members)) (sym is ∙ which_is)
      ∙ (ap (λ g. chosen (inside_of g) (operands place members) (branches place members)) f_is
      ∙ sym (object_is place members))))

  -- for a list
  pub from_items : {A : Type 0} (v : Json) (items : List Json) (old new : List Item) (r : Result A Memory)
      → v ≡ view.List items → OnOk r (new ≡ old ++ collected own (items_from place 0 items))
      → OnOk r (new ≡ old ++ collected own (of_list place v))
  from_items v items old new r is = on_ok r _ _ (λ e. e
      ∙ ap (λ l. old ++ collected own l) (sym (ap (of_list place) is ∙ (same_list place (view.List items)
      ∙ items_are place 0 items))))

  -- for a constraint without members
  pub alone : (v : Json) (seen : List Step) (old new : List Item) → members_of v ≡ [] → seen ≡ place
      → new ≡ old ++ own seen v → new ≡ old ++ (own place v ++ collected own (within place v))
  alone v seen old new none same is = is ∙ ap (λ at. old ++ own at v) same ∙ ap (λ l. old ++ l)
      (sym (ap (λ l. own place v ++ collected own l) (none_within place v none) ∙ append-nil (own place v)))
