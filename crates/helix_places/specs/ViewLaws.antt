-- Lists and objects as code sees them.
use Rattle.std.proofs.Common.{◌≡◌, ℕ, true, List, [], ◌∷◌, refl, sym, ◌∙◌, ap}
use Rattle.helix_json.specs.declared.value.Json.{Json}
use Rattle.helix_json.specs.declared.value.Json.TheViews as view
use Rattle.helix_json.specs.declared.value.Member.{Member}
use Rattle.helix_places.specs.Members.{members_of, items_of, value_of, is_list}

pub members_of_object : (members : List Member) → members_of (view.Object members) ≡ members
unfolding Rattle.helix_json.specs.declared.value.Json.TheBlock.hidden-the_row-Member-1 denote.Hole.Carrier.hidden
members_of_object [] = refl
members_of_object (member ∷ members) = ap (λ l. member ∷ l) (members_of_object members)

pub items_of_list : (items : List Json) → items_of (view.List items) ≡ items
unfolding Rattle.helix_json.specs.declared.value.Json.TheBlock.hidden-the_row-Json-0 denote.Hole.Carrier.hidden
items_of_list [] = refl
items_of_list (item ∷ items) = ap (λ l. item ∷ l) (items_of_list items)

pub items_of_object : (members : List Member) → items_of (view.Object members) ≡ []
items_of_object members = refl

pub members_of_list : (items : List Json) → members_of (view.List items) ≡ []
members_of_list items = refl

pub list_is_list : (items : List Json) → is_list (view.List items) ≡ true
list_is_list items = refl

-- a member of an object
pub value_in : (v : Json) (members : List Member) (key : List ℕ) → v ≡ view.Object members
    → value_of key members ≡ value_of key (members_of v)
value_in v members key is =
    ap (value_of key) (sym (members_of_object members)) ∙ ap (λ w. value_of key (members_of w)) (sym is)

-- the items of a list
pub items_in : (v : Json) (items : List Json) → v ≡ view.List items → items ≡ items_of v
items_in v items is = sym (items_of_list items) ∙ ap items_of (sym is)
