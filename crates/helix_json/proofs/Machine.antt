-- Where the tokens of a value lead.
use Rattle.std.proofs.Common.{◌≡◌, ◌≢◌, ℕ, true, false, Option, Some, None, List, [], ◌∷◌, ◌++◌, refl, sym, ◌∙◌, ap, append_assoc}
use Rattle.std.proofs.lemmas.List.{append-nil}
use Rattle.helix_json.specs.declared.value.Json.{Json, Row_of-Json, Row_of-Member}
use Rattle.helix_json.specs.declared.value.Json as json
use Rattle.helix_json.specs.declared.value.Json.TheViews as view
use Rattle.helix_json.specs.declared.value.Member.{Member}
use Rattle.helix_json.specs.declared.token.Token.{Token}
use Rattle.helix_json.specs.Tokens.{tokens, first_item as first_item_tokens, next_item, first_member, next_member}
use Rattle.helix_json.specs.Inner.Machine.{Frame, in_list, in_object, Reading, value, first_item, first_key, after, step, on_some, run}

-- rows as lists
abbrev pub items : {n : _} → Row_of-Json n → List Json
items json.end_of-Json = []
items (json.more_of-Json x row) = x ∷ items row

abbrev pub members : {n : _} → Row_of-Member n → List Member
members json.end_of-Member = []
members (json.more_of-Member k x row) = record { key = k; value = x } ∷ members row

abbrev ItemRow : Type 0
ItemRow = (s : _)
    × Row_of-Json (mathlib.Core.Former.arity
    (Rattle.sqlite_items.specs.formers.items.Items.the_former (mathlib.Core.Former.this {0})) s)

abbrev MemberRow : Type 0
MemberRow = (s : _)
    × Row_of-Member (mathlib.Core.Former.arity
    (Rattle.sqlite_items.specs.formers.items.Items.the_former (mathlib.Core.Former.this {0})) s)

unfoldable pub item_row : Json → ItemRow
item_row (json.List' s row) = (s, row)
item_row _ = ([], json.end_of-Json)

unfoldable pub member_row : Json → MemberRow
member_row (json.Object' s row) = (s, row)
member_row _ = ([], json.end_of-Member)

item_rows : (shape : _) (row : _) → item_row (json.List' shape row) ≡ item_row (view.List (items row))
unfolding Rattle.helix_json.specs.declared.value.Json.TheBlock.hidden-the_row-Json-0 denote.Hole.Carrier.hidden item_row
item_rows [] json.end_of-Json = refl
item_rows (a ∷ rest) (json.more_of-Json x row) =
    ap (λ (p : ItemRow). (tt ∷ p.0, json.more_of-Json x p.1)) (item_rows rest row)

pub list_is : (shape : _) (row : _) → json.List' shape row ≡ view.List (items row)
unfolding Rattle.helix_json.specs.declared.value.Json.TheBlock.hidden-the_row-Json-0 denote.Hole.Carrier.hidden item_row
list_is shape row = ap (λ (p : ItemRow). json.List' p.0 p.1) (item_rows shape row)

member_rows : (shape : _) (row : _) → member_row (json.Object' shape row) ≡ member_row (view.Object (members row))
unfolding Rattle.helix_json.specs.declared.value.Json.TheBlock.hidden-the_row-Member-1 denote.Hole.Carrier.hidden
    member_row
member_rows [] json.end_of-Member = refl
member_rows (a ∷ rest) (json.more_of-Member k x row) =
    ap (λ (p : MemberRow). (tt ∷ p.0, json.more_of-Member k x p.1)) (member_rows rest row)

pub object_is : (shape : _) (row : _) → json.Object' shape row ≡ view.Object (members row)
unfolding Rattle.helix_json.specs.declared.value.Json.TheBlock.hidden-the_row-Member-1 denote.Hole.Carrier.hidden
    member_row
object_is shape row = ap (λ (p : MemberRow). json.Object' p.0 p.1) (member_rows shape row)

-- an item after `[` is read as a value of a list with nothing yet
first_is_next : (v : Json) (fs : List Frame) (r : List Token)
    → run (first_item fs) (tokens v ++ r) ≡ run (value (in_list [] ∷ fs)) (tokens v ++ r)
first_is_next json.Null fs r = refl
first_is_next (json.Bool true) fs r = refl
first_is_next (json.Bool false) fs r = refl
first_is_next (json.Number n) fs r = refl
first_is_next (json.Str s) fs r = refl
first_is_next (json.List' shape row) fs r = refl
first_is_next (json.Object' shape row) fs r = refl

regroup : (state : Reading) (a b r : List Token) → run state ((a ++ b) ++ r) ≡ run state (a ++ (b ++ r))
regroup state a b r = ap (run state) (append_assoc a b r)

mutual
  pub run_value : (v : Json) (fs : List Frame) (r : List Token) → run (value fs) (tokens v ++ r) ≡ run (after v fs) r
  run_value json.Null fs r = refl
  run_value (json.Bool true) fs r = refl
  run_value (json.Bool false) fs r = refl
  run_value (json.Number n) fs r = refl
  run_value (json.Str s) fs r = refl
  run_value (json.List' shape row) fs r = run_first row fs r ∙ ap (λ x. run (after x fs) r) (sym (list_is shape row))
  run_value (json.Object' shape row) fs r =
      run_first_member row fs r ∙ ap (λ x. run (after x fs) r) (sym (object_is shape row))

  run_first : {n : _} (row : Row_of-Json n) (fs : List Frame) (r : List Token)
      → run (first_item fs) (first_item_tokens row ++ r) ≡ run (after (view.List (items row)) fs) r
  run_first json.end_of-Json fs r = refl
  run_first (json.more_of-Json x row) fs r = regroup (first_item fs) (tokens x) (next_item row) r
      ∙ (first_is_next x fs (next_item row ++ r)
      ∙ (run_value x (in_list [] ∷ fs) (next_item row ++ r) ∙ run_next row [] x fs r))

  run_next : {n : _} (row : Row_of-Json n) (xs : List Json) (x : Json) (fs : List Frame) (r : List Token)
      → run (after x (in_list xs ∷ fs)) (next_item row ++ r) ≡ run (after (view.List (xs ++ x ∷ items row)) fs) r
  run_next json.end_of-Json xs x fs r = refl
  run_next (json.more_of-Json y row) xs x fs r =
      regroup (value (in_list (xs ++ x ∷ []) ∷ fs)) (tokens y) (next_item row) r
      ∙ (run_value y (in_list (xs ++ x ∷ []) ∷ fs) (next_item row ++ r) ∙ (run_next row (xs ++ x ∷ []) y fs r
      ∙ ap (λ l. run (after (view.List l) fs) r) (append_assoc xs (x ∷ []) (y ∷ items row))))

  run_first_member : {n : _} (row : Row_of-Member n) (fs : List Frame) (r : List Token)
      → run (first_key fs) (first_member row ++ r) ≡ run (after (view.Object (members row)) fs) r
  run_first_member json.end_of-Member fs r = refl
  run_first_member (json.more_of-Member k x row) fs r =
      regroup (value (in_object [] k ∷ fs)) (tokens x) (next_member row) r
      ∙ (run_value x (in_object [] k ∷ fs) (next_member row ++ r) ∙ run_next_member row [] k x fs r)

  run_next_member : {n : _} (row : Row_of-Member n) (ms : List Member) (k : List ℕ) (x : Json) (fs : List Frame)
      (r : List Token)
      → run (after x (in_object ms k ∷ fs)) (next_member row ++ r)
      ≡ run (after (view.Object (ms ++ record { key = k; value = x } ∷ members row)) fs) r
  run_next_member json.end_of-Member ms k x fs r = refl
  run_next_member (json.more_of-Member l y row) ms k x fs r =
      regroup (value (in_object (ms ++ record { key = k; value = x } ∷ []) l ∷ fs)) (tokens y) (next_member row) r
      ∙ (run_value y (in_object (ms ++ record { key = k; value = x } ∷ []) l ∷ fs) (next_member row ++ r)
      ∙ (run_next_member row (ms ++ record { key = k; value = x } ∷ []) l y fs r
      ∙ ap (λ m. run (after (view.Object m) fs) r)
      (append_assoc ms (record { key = k; value = x } ∷ []) (record { key = l; value = y } ∷ members row))))

-- the tokens of a value lead to it
pub run_tokens : (v : Json) → run (value []) (tokens v) ≡ Some (after v [])
run_tokens v = ap (run (value [])) (sym (append-nil (tokens v))) ∙ run_value v [] []

reached : Reading → Json
reached (after v fs) = v
reached _ = json.Null

same_reached : (r s : Reading) → Some r ≡ Some s → reached r ≡ reached s
same_reached r s e = let f : r ≡ s = cc in ap reached f

-- a value is known by its tokens
pub tokens_same : (v w : Json) → tokens v ≡ tokens w → v ≡ w
unfolding reached
tokens_same v w e = same_reached (after v []) (after w []) (sym (run_tokens v) ∙ (ap (run (value [])) e ∙ run_tokens w))

-- what follows tokens that lead somewhere
run_on : (o : Option Reading) (s : Reading) (xs ys : List Token)
    → ((r : Reading) → run r xs ≡ Some s → run r (xs ++ ys) ≡ run s ys)
    → on_some o (λ next. run next xs) ≡ Some s → on_some o (λ next. run next (xs ++ ys)) ≡ run s ys
run_on None s xs ys ih e = cc
run_on (Some r) s xs ys ih e = ih r e

pub run-append : (xs ys : List Token) (r s : Reading) → run r xs ≡ Some s → run r (xs ++ ys) ≡ run s ys
run-append [] ys r s e = let f : r ≡ s = cc in ap (λ x. run x ys) f
run-append (x ∷ xs) ys r s e = run_on (step r x) s xs ys (λ q. run-append xs ys q s) e

-- tokens that a step refuses begin no value
pub refused : (r : Reading) (ds : List Token) (t : Token) → run (value []) ds ≡ Some r → step r t ≡ None
    → (v : Json) (ts : List Token) → tokens v ≢ ds ++ t ∷ ts
refused r ds t so_far none v ts e =
    let f : run (value []) (ds ++ t ∷ ts) ≡ None = run-append ds (t ∷ ts) (value []) r so_far
    ∙ ap (λ o. on_some o (λ next. run next ts)) none in
    let g : Some (after v []) ≡ None = sym (run_tokens v) ∙ (ap (run (value [])) e ∙ f) in cc
