-- The lines of an object and of a list, as code collects them.
use Rattle.std.proofs.Common.{◌≡◌, List, [], ◌∷◌, ◌++◌, Option, None, Result, Ok, Err, OnOk, refl, sym, ◌∙◌, ap}
use Rattle.std.specs.List.{flat_map}
use Rattle.std.proofs.lemmas.List.{append-nil}
use Rattle.helix_base.specs.declared.memory.Memory.{Memory}
use Rattle.helix_json.specs.declared.value.Json.{Json}
use Rattle.helix_json.specs.declared.value.Json as json
use Rattle.helix_json.specs.declared.value.Json.TheViews as view
use Rattle.helix_json.specs.declared.value.Member.{Member}
use Rattle.helix_keywords.specs.declared.form.Form.{Form}
use Rattle.helix_keywords.specs.Forms.{form_of, has_form, key_sets}
use Rattle.helix_places.specs.Members.{members_of}
use Rattle.helix_places.specs.ViewLaws.{members_of_object}
use Rattle.helix_profile.specs.declared.field.Field.{Field}
use Rattle.helix_profile.specs.declared.relation.Relation.{Relation}
use Rattle.helix_rules.specs.declared.lines.Inside.{Inside}
use Rattle.helix_rules.specs.Inner.Parts.{branches, operands}
use Rattle.helix_rules.specs.Lines.{branch_lines, chosen_lines, inside_of, lines_in, list_lines, object_lines, operand_lines, own_lines, related_of}

on_ok : {A : Type 0} (r : Result A Memory) (P Q : Type 0) → (P → Q) → OnOk r P → OnOk r Q
on_ok (Ok x) P Q f h = f h
on_ok (Err e) P Q f h = h

no_form : form_of [] ≡ None
unfolding form_of has_form key_sets
no_form = refl

module _ (fields : List Field) where
  abbrev operands_of : Json → List Relation
  operands_of (json.Object' shape members) = operand_lines fields members
  operands_of v = []

  abbrev branches_of : Json → List Relation
  branches_of (json.Object' shape members) = branch_lines fields members
  branches_of v = []

  operands_are : (members : List Member) → operands_of (view.Object members) ≡ operands fields members
  unfolding Rattle.helix_json.specs.declared.value.Json.TheBlock.hidden-the_row-Member-1 denote.Hole.Carrier.hidden
  operands_are [] = refl
  operands_are (m ∷ members) = ap (λ l. lines_in fields m.value ++ l) (operands_are members)

  branches_are : (members : List Member) → branches_of (view.Object members) ≡ branches fields members
  unfolding Rattle.helix_json.specs.declared.value.Json.TheBlock.hidden-the_row-Member-1 denote.Hole.Carrier.hidden
  branches_are [] = refl
  branches_are (m ∷ members) = ap (λ l. list_lines fields m.value ++ l) (branches_are members)

  pub list_is : (items : List Json) → list_lines fields (view.List items) ≡ flat_map (lines_in fields) items
  unfolding Rattle.helix_json.specs.declared.value.Json.TheBlock.hidden-the_row-Json-0 denote.Hole.Carrier.hidden
  list_is [] = refl
  list_is (item ∷ items) = ap (λ l. lines_in fields item ++ l) (list_is items)

  object_is : (members : List Member) → lines_in fields (view.Object members)
      ≡ object_lines fields members (operands fields members) (branches fields members)
  object_is members =
      ap (λ l. object_lines fields l (operands_of (view.Object members)) (branches_of (view.Object members)))
      (members_of_object members)
      ∙ (ap (λ l. object_lines fields members l (branches_of (view.Object members))) (operands_are members)
      ∙ ap (λ l. object_lines fields members (operands fields members) l) (branches_are members))

  -- what was appended for an object, by what it has inside
  pub by_inside : {A : Type 0} (members : List Member) (f : Option Form) (which other : Inside)
      (old new : List Relation) (r : Result A Memory) → f ≡ form_of members → which ≡ inside_of f → which ≡ other
      → OnOk r (new ≡ old ++ chosen_lines other (own_lines fields (related_of f) members) (operands fields members)
      (branches fields members)) → OnOk r (new ≡ old ++ lines_in fields (view.Object members))
  by_inside members f which other old new r f_is which_is is = on_ok r _ _ (λ e. e ∙ ap (λ l. old ++ l)
      (ap (λ w. chosen_lines w (own_lines fields (related_of f) members) (operands fields members)
      (branches fields members)) (sym is ∙ which_is)
      ∙ (ap (λ g. chosen_lines (inside_of g) (own_lines fields (related_of g) members) (operands fields members)
      (branches fields members)) f_is ∙ sym (object_is members))))

  -- for a list
  pub from_items : {A : Type 0} (v : Json) (items : List Json) (old new : List Relation) (r : Result A Memory)
      → v ≡ view.List items → OnOk r (new ≡ old ++ flat_map (lines_in fields) items)
      → OnOk r (new ≡ old ++ list_lines fields v)
  from_items v items old new r is = on_ok r _ _ (λ e. e
      ∙ ap (λ l. old ++ l) (sym (ap (list_lines fields) is ∙ list_is items)))

  -- and for a value that has no members
  none_in : (v : Json) → members_of v ≡ [] → lines_in fields v ≡ []
  none_in json.Null none = refl
  none_in (json.Bool b) none = refl
  none_in (json.Number text) none = refl
  none_in (json.Str text) none = refl
  none_in (json.List' shape items) none = refl
  none_in (json.Object' shape row) none =
      ap (λ ms. object_lines fields ms (operand_lines fields row) (branch_lines fields row)) none
      ∙ ap (λ f. chosen_lines (inside_of f) (own_lines fields (related_of f) []) (operand_lines fields row)
      (branch_lines fields row)) no_form

  pub nothing_more : (v : Json) (old : List Relation) → members_of v ≡ [] → old ≡ old ++ lines_in fields v
  nothing_more v old none = sym (ap (λ l. old ++ l) (none_in v none) ∙ append-nil old)
