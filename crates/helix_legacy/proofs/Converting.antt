-- Today's form of an object and of a list, as code sees them.
use Rattle.std.proofs.Common.{◌≡◌, List, [], ◌∷◌, map, IsTrue, if◌then◌else◌, Result, IfOk, refl, sym, ◌∙◌, ap}
use Rattle.helix_json.specs.declared.value.Json.{Json}
use Rattle.helix_json.specs.declared.value.Json as json
use Rattle.helix_json.specs.declared.value.Json.TheViews as view
use Rattle.helix_json.specs.declared.value.Member.{Member}
use Rattle.helix_legacy.specs.declared.form.Form.{Form}
use Rattle.helix_places.specs.Members.{members_of}
use Rattle.helix_legacy.specs.Forms.{form_of}
use Rattle.helix_legacy.specs.Inner.Converted.{operands, branches}
use Rattle.helix_legacy.specs.Today.{member, constraint_today, constraints_today, items_today, operands_today, branches_today, object_today, member_today, today_of}
use Rattle.helix_legacy.specs.Broken.{is_older}
use Rattle.helix_base.specs.declared.memory.Memory.{Memory}
use Rattle.helix_places.specs.ViewLaws.{members_of_object}
use Rattle.helix_legacy.proofs.Visiting.{if_ok}

abbrev operands_of : Json → List Member
operands_of (json.Object' shape members) = operands_today members
operands_of v = []

abbrev branches_of : Json → List Member
branches_of (json.Object' shape members) = branches_today members
branches_of v = []

abbrev constraints_of : Json → List Json
constraints_of (json.List' shape items) = items_today items
constraints_of v = []

operands_are : (members : List Member) → operands_of (view.Object members) ≡ operands members
unfolding Rattle.helix_json.specs.declared.value.Json.TheBlock.hidden-the_row-Member-1 denote.Hole.Carrier.hidden
operands_are [] = refl
operands_are (old ∷ members) = ap (λ l. member old.key (constraint_today old.value) ∷ l) (operands_are members)

branches_are : (members : List Member) → branches_of (view.Object members) ≡ branches members
unfolding Rattle.helix_json.specs.declared.value.Json.TheBlock.hidden-the_row-Member-1 denote.Hole.Carrier.hidden
branches_are [] = refl
branches_are (old ∷ members) = ap (λ l. member old.key (constraints_today old.value) ∷ l) (branches_are members)

constraints_are : (items : List Json) → constraints_of (view.List items) ≡ map constraint_today items
unfolding Rattle.helix_json.specs.declared.value.Json.TheBlock.hidden-the_row-Json-0 denote.Hole.Carrier.hidden
constraints_are [] = refl
constraints_are (item ∷ items) = ap (λ l. constraint_today item ∷ l) (constraints_are items)

pub object_is : (members : List Member) → constraint_today (view.Object members)
    ≡ object_today (form_of members) members (operands members) (branches members)
object_is members =
    ap (λ l. object_today (form_of l) l (operands_of (view.Object members)) (branches_of (view.Object members)))
    (members_of_object members)
    ∙ (ap (λ l. object_today (form_of members) members l (branches_of (view.Object members))) (operands_are members)
    ∙ ap (λ l. object_today (form_of members) members (operands members) l) (branches_are members))

pub list_is : (items : List Json) → constraints_today (view.List items) ≡ view.List (map constraint_today items)
list_is items = ap view.List (constraints_are items)

-- a list is no object, and stays
pub list_stays : (items : List Json) → constraint_today (view.List items) ≡ view.List items
list_stays items = refl

pub object_stays : (members : List Member) → constraints_today (view.Object members) ≡ view.Object members
object_stays members = refl

-- the same of the answers of calls
pub by_form : (members : List Member) (f : Form) (r : Result Json Memory) → form_of members ≡ f
    → IfOk r (λ today. today ≡ object_today f members (operands members) (branches members))
    → IfOk r (λ today. today ≡ constraint_today (view.Object members))
by_form members f r is = if_ok r _ _ (λ today form_today. form_today ∙ sym (object_is members
    ∙ ap (λ g. object_today g members (operands members) (branches members)) is))

pub object_converts : (v : Json) (members slice : List Member) (r : Result Json Memory) → v ≡ view.Object members
    → slice ≡ members → IfOk r (λ today. today ≡ constraint_today (view.Object slice))
    → IfOk r (λ today. today ≡ constraint_today v)
object_converts v members slice r is slice_is = if_ok r _ _
    (λ today slice_today. slice_today ∙ (ap (λ l. constraint_today (view.Object l)) slice_is
    ∙ ap constraint_today (sym is)))

pub list_converts : (v : Json) (items slice : List Json) (r : Result Json Memory) → v ≡ view.List items
    → slice ≡ items → IfOk r (λ today. today ≡ view.List (map constraint_today slice))
    → IfOk r (λ today. today ≡ constraints_today v)
list_converts v items slice r is slice_is = if_ok r _ _
    (λ today slice_today. slice_today ∙ (ap (λ l. view.List (map constraint_today l)) slice_is
    ∙ (sym (list_is items) ∙ ap constraints_today (sym is))))

pub list_copied : (v : Json) (items : List Json) (r : Result Json Memory) → v ≡ view.List items
    → IfOk r (λ copy. copy ≡ v) → IfOk r (λ today. today ≡ constraint_today v)
list_copied v items r is = if_ok r _ _
    (λ today copy. copy ∙ (is ∙ (sym (list_stays items) ∙ ap constraint_today (sym is))))

pub object_copied : (v : Json) (members : List Member) (r : Result Json Memory) → v ≡ view.Object members
    → IfOk r (λ copy. copy ≡ v) → IfOk r (λ today. today ≡ constraints_today v)
object_copied v members r is = if_ok r _ _
    (λ today copy. copy ∙ (is ∙ (sym (object_stays members) ∙ ap constraints_today (sym is))))

-- a whole value
pub older_today : (v : Json) (members : List Member) → v ≡ view.Object members → IsTrue (is_older v)
    → view.Object (map member_today members) ≡ today_of v
older_today v members is older =
    ap (λ l. view.Object (map member_today l)) (sym (members_of_object members) ∙ ap members_of (sym is))
    ∙ sym (ap (λ b. if b then view.Object (map member_today (members_of v)) else v) older)
