-- The operand of `anyOf` or `allOf`.
use Rattle.std.proofs.Common.{◌≡◌, ◌==◌, ℕ, Bool, true, List, length, Option, Some, None, Result, IfOk, sym, ◌∙◌, ap}
use Rattle.helix_base.specs.declared.memory.Memory.{Memory}
use Rattle.helix_json.specs.declared.value.Json.{Json}
use Rattle.helix_json.specs.declared.value.Json.TheViews as view
use Rattle.helix_keywords.specs.declared.form.Form.{Form}
use Rattle.helix_places.specs.declared.place.Step.{Step}
use Rattle.helix_places.specs.Places.{Here, InMember}
use Rattle.helix_places.specs.PartLaws.{Says}
use Rattle.helix_places.specs.PlaceLaws.{finds_same, some_and, and_some}
use Rattle.helix_places.specs.ViewLaws.{items_of_list}
use Rattle.helix_fields.specs.SearchLaws.{if_ok}
use Rattle.helix_constraints.specs.Rules.{AtOperand, form_in, is_empty_list, list_key}

pub empty_list : (v : Json) (items : List Json) → v ≡ view.List items → (length items == 0) ≡ is_empty_list v
empty_list v items is = sym (ap is_empty_list is ∙ ap (λ l. length l == 0) (items_of_list items))

pub operand_says : (test : Json → Bool) (v : Json) (key : List ℕ) (form : Option Form)
    (r : Result (Option (List Step)) Memory) → Some key ≡ list_key form → form ≡ form_in v
    → IfOk r (Says (InMember key (Here (λ w. test w ≡ true))) v) → IfOk r (Says (AtOperand test) v)
operand_says test v key form r is form_is =
    let key_is : list_key (form_in v) ≡ Some key = sym (is ∙ ap list_key form_is) in
    if_ok r _ _ (λ found says keys. finds_same v (InMember key (Here (λ w. test w ≡ true)) v) (AtOperand test v) found
    (λ place. (
      (λ h. and_some (list_key (form_in v)) (λ k. InMember k (Here (λ w. test w ≡ true)) v place) key key_is h),
      (λ h. some_and (list_key (form_in v)) (λ k. InMember k (Here (λ w. test w ≡ true)) v place) key key_is h),
    )) (says keys))

-- it has a form
pub some_form : (form : Option Form) (v : Json) (f : Form) → form ≡ form_in v → form ≡ Some f → ¬ (form_in v ≡ None)
some_form form v f is some none = let both : Some f ≡ None = sym some ∙ (is ∙ none) in cc
