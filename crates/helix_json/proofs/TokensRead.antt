-- The tokens that led to a reading: those of a value lead to it and no others do.
use Rattle.std.proofs.Common.{◌≡◌, ℕ, true, false, Option, Some, None, List, [], ◌∷◌, ◌++◌, refl, sym, ◌∙◌, ap, append_assoc}
use Rattle.std.proofs.lemmas.List.{append-nil}
use Rattle.helix_json.specs.declared.value.Json.{Json, Row_of-Json, Row_of-Member}
use Rattle.helix_json.specs.declared.value.Json as json
use Rattle.helix_json.specs.declared.value.Json.TheViews as view
use Rattle.helix_json.specs.declared.value.Member.{Member}
use Rattle.helix_json.specs.declared.token.Token.{Token}
use Rattle.helix_json.specs.declared.token.Token.TheVariants as token
use Rattle.helix_json.specs.Tokens.{tokens, next_item, next_member}
use Rattle.helix_json.specs.Inner.Machine.{Frame, in_list, in_object, Reading, value, first_item, first_key, key, colon, after, step, value_step, on_some, run}
use Rattle.helix_json.proofs.Machine.{item_row, member_row}

-- the tokens that led to a reading
abbrev pub item_prefix : List Json → List Token
item_prefix [] = []
item_prefix (x ∷ xs) = tokens x ++ token.Comma ∷ item_prefix xs

abbrev pub member_prefix : List Member → List Token
member_prefix [] = []
member_prefix (m ∷ ms) = token.Str m.key ∷ token.Colon ∷ tokens m.value ++ token.Comma ∷ member_prefix ms

abbrev pub frames_prefix : List Frame → List Token
frames_prefix [] = []
frames_prefix (in_list xs ∷ fs) = frames_prefix fs ++ token.OpenList ∷ item_prefix xs
frames_prefix (in_object ms k ∷ fs) = frames_prefix fs
    ++ token.OpenObject ∷ (member_prefix ms ++ token.Str k ∷ token.Colon ∷ [])

abbrev pub prefix : Reading → List Token
prefix (value fs) = frames_prefix fs
prefix (first_item fs) = frames_prefix fs ++ token.OpenList ∷ []
prefix (first_key fs) = frames_prefix fs ++ token.OpenObject ∷ []
prefix (key ms fs) = frames_prefix fs ++ token.OpenObject ∷ member_prefix ms
prefix (colon ms k fs) = frames_prefix fs ++ token.OpenObject ∷ (member_prefix ms ++ token.Str k ∷ [])
prefix (after x fs) = frames_prefix fs ++ tokens x

-- the tokens of a list, and of an object, from what it holds
abbrev more_tokens : List Json → List Token
more_tokens [] = token.CloseList ∷ []
more_tokens (x ∷ xs) = token.Comma ∷ tokens x ++ more_tokens xs

abbrev list_tokens : List Json → List Token
list_tokens [] = token.CloseList ∷ []
list_tokens (x ∷ xs) = tokens x ++ more_tokens xs

abbrev more_members : List Member → List Token
more_members [] = token.CloseObject ∷ []
more_members (m ∷ ms) = token.Comma ∷ token.Str m.key ∷ token.Colon ∷ tokens m.value ++ more_members ms

abbrev object_tokens : List Member → List Token
object_tokens [] = token.CloseObject ∷ []
object_tokens (m ∷ ms) = token.Str m.key ∷ token.Colon ∷ tokens m.value ++ more_members ms

next_items : (xs : List Json) → next_item (item_row (view.List xs)).1 ≡ more_tokens xs
unfolding Rattle.helix_json.specs.declared.value.Json.TheBlock.hidden-the_row-Json-0 denote.Hole.Carrier.hidden item_row
next_items [] = refl
next_items (x ∷ xs) = ap (λ t. token.Comma ∷ tokens x ++ t) (next_items xs)

tokens-List : (xs : List Json) → tokens (view.List xs) ≡ token.OpenList ∷ list_tokens xs
unfolding Rattle.helix_json.specs.declared.value.Json.TheBlock.hidden-the_row-Json-0 denote.Hole.Carrier.hidden item_row
tokens-List [] = refl
tokens-List (x ∷ xs) = ap (λ t. token.OpenList ∷ tokens x ++ t) (next_items xs)

next_fields : (ms : List Member) → next_member (member_row (view.Object ms)).1 ≡ more_members ms
unfolding Rattle.helix_json.specs.declared.value.Json.TheBlock.hidden-the_row-Member-1 denote.Hole.Carrier.hidden
    member_row
next_fields [] = refl
next_fields (m ∷ ms) = ap (λ t. token.Comma ∷ token.Str m.key ∷ token.Colon ∷ tokens m.value ++ t) (next_fields ms)

tokens-Object : (ms : List Member) → tokens (view.Object ms) ≡ token.OpenObject ∷ object_tokens ms
unfolding Rattle.helix_json.specs.declared.value.Json.TheBlock.hidden-the_row-Member-1 denote.Hole.Carrier.hidden
    member_row
tokens-Object [] = refl
tokens-Object (m ∷ ms) = ap (λ t. token.OpenObject ∷ token.Str m.key ∷ token.Colon ∷ tokens m.value ++ t)
    (next_fields ms)

more_is : (xs : List Json) (x : Json) → more_tokens (xs ++ x ∷ []) ≡ token.Comma ∷ list_tokens (xs ++ x ∷ [])
more_is [] x = refl
more_is (y ∷ ys) x = refl

list_push : (xs : List Json) (x : Json)
    → list_tokens (xs ++ x ∷ []) ≡ item_prefix xs ++ (tokens x ++ token.CloseList ∷ [])
list_push [] x = refl
list_push (y ∷ ys) x = ap (λ t. tokens y ++ t) (more_is ys x ∙ ap (λ t. token.Comma ∷ t) (list_push ys x))
    ∙ sym (append_assoc (tokens y) (token.Comma ∷ item_prefix ys) (tokens x ++ token.CloseList ∷ []))

item_prefix-push : (xs : List Json) (x : Json)
    → item_prefix (xs ++ x ∷ []) ≡ item_prefix xs ++ (tokens x ++ token.Comma ∷ [])
item_prefix-push [] x = refl
item_prefix-push (y ∷ ys) x = ap (λ t. tokens y ++ token.Comma ∷ t) (item_prefix-push ys x)
    ∙ sym (append_assoc (tokens y) (token.Comma ∷ item_prefix ys) (tokens x ++ token.Comma ∷ []))

abbrev pub field : List ℕ → Json → Member
field k x = record { key = k; value = x }

more_fields_is : (ms : List Member) (m : Member)
    → more_members (ms ++ m ∷ []) ≡ token.Comma ∷ object_tokens (ms ++ m ∷ [])
more_fields_is [] m = refl
more_fields_is (l ∷ ls) m = refl

object_push : (ms : List Member) (m : Member)
    → object_tokens (ms ++ m ∷ []) ≡ member_prefix ms
    ++ (token.Str m.key ∷ token.Colon ∷ tokens m.value ++ token.CloseObject ∷ [])
object_push [] m = refl
object_push (l ∷ ls) m = ap (λ t. token.Str l.key ∷ token.Colon ∷ tokens l.value ++ t) (more_fields_is ls m
    ∙ ap (λ t. token.Comma ∷ t) (object_push ls m))
    ∙ ap (λ t. token.Str l.key ∷ token.Colon ∷ t)
    (sym (append_assoc (tokens l.value) (token.Comma ∷ member_prefix ls)
    (token.Str m.key ∷ token.Colon ∷ tokens m.value ++ token.CloseObject ∷ [])))

member_prefix-push : (ms : List Member) (m : Member)
    → member_prefix (ms ++ m ∷ []) ≡ member_prefix ms
    ++ (token.Str m.key ∷ token.Colon ∷ tokens m.value ++ token.Comma ∷ [])
member_prefix-push [] m = refl
member_prefix-push (l ∷ ls) m = ap (λ t. token.Str l.key ∷ token.Colon ∷ tokens l.value ++ token.Comma ∷ t)
    (member_prefix-push ls m)
    ∙ ap (λ t. token.Str l.key ∷ token.Colon ∷ t)
    (sym (append_assoc (tokens l.value) (token.Comma ∷ member_prefix ls)
    (token.Str m.key ∷ token.Colon ∷ tokens m.value ++ token.Comma ∷ [])))

same_prefix : (q s : Reading) (w : List Token) → Some q ≡ Some s → prefix q ≡ w → prefix s ≡ w
same_prefix q s w e f = let g : q ≡ s = cc in ap prefix (sym g) ∙ f

value_prefix : (fs : List Frame) (t : Token) (s : Reading) → value_step fs t ≡ Some s
    → prefix s ≡ frames_prefix fs ++ t ∷ []
value_prefix fs token.Null s e = same_prefix (after json.Null fs) s _ e refl
value_prefix fs token.True s e = same_prefix (after (json.Bool true) fs) s _ e refl
value_prefix fs token.False s e = same_prefix (after (json.Bool false) fs) s _ e refl
value_prefix fs (token.Number n) s e = same_prefix (after (json.Number n) fs) s _ e refl
value_prefix fs (token.Str n) s e = same_prefix (after (json.Str n) fs) s _ e refl
value_prefix fs token.OpenList s e = same_prefix (first_item fs) s _ e refl
value_prefix fs token.OpenObject s e = same_prefix (first_key fs) s _ e refl
value_prefix fs token.CloseList s e = cc
value_prefix fs token.CloseObject s e = cc
value_prefix fs token.Comma s e = cc
value_prefix fs token.Colon s e = cc

-- (a ++ b ∷ c) ++ d
tail_of : (a : List Token) (b : Token) (c d : List Token) → (a ++ b ∷ c) ++ d ≡ a ++ b ∷ (c ++ d)
tail_of a b c d = append_assoc a (b ∷ c) d

first_item_prefix : (fs : List Frame) (t : Token) (s : Reading) → step (first_item fs) t ≡ Some s
    → prefix s ≡ prefix (first_item fs) ++ t ∷ []
first_item_prefix fs token.CloseList s e = same_prefix (after (view.List []) fs) s _ e
    (ap (λ x. frames_prefix fs ++ x) (tokens-List [])
    ∙ sym (tail_of (frames_prefix fs) token.OpenList [] (token.CloseList ∷ [])))
first_item_prefix fs token.Null s e = value_prefix (in_list [] ∷ fs) token.Null s e
first_item_prefix fs token.True s e = value_prefix (in_list [] ∷ fs) token.True s e
first_item_prefix fs token.False s e = value_prefix (in_list [] ∷ fs) token.False s e
first_item_prefix fs (token.Number n) s e = value_prefix (in_list [] ∷ fs) (token.Number n) s e
first_item_prefix fs (token.Str n) s e = value_prefix (in_list [] ∷ fs) (token.Str n) s e
first_item_prefix fs token.OpenList s e = value_prefix (in_list [] ∷ fs) token.OpenList s e
first_item_prefix fs token.OpenObject s e = value_prefix (in_list [] ∷ fs) token.OpenObject s e
first_item_prefix fs token.CloseObject s e = cc
first_item_prefix fs token.Comma s e = cc
first_item_prefix fs token.Colon s e = cc

-- ((f ++ o ∷ i) ++ t) ++ c
group : (f : List Token) (o : Token) (i t c : List Token) → ((f ++ o ∷ i) ++ t) ++ c ≡ f ++ o ∷ (i ++ (t ++ c))
group f o i t c = append_assoc (f ++ o ∷ i) t c ∙ append_assoc f (o ∷ i) (t ++ c)

field_group : (f : List Token) (ms : List Member) (k : List ℕ) (t c : List Token)
    → ((f ++ token.OpenObject ∷ (member_prefix ms ++ token.Str k ∷ token.Colon ∷ [])) ++ t) ++ c
    ≡ f ++ token.OpenObject ∷ (member_prefix ms ++ token.Str k ∷ token.Colon ∷ (t ++ c))
field_group f ms k t c = group f token.OpenObject (member_prefix ms ++ token.Str k ∷ token.Colon ∷ []) t c
    ∙ ap (λ l. f ++ token.OpenObject ∷ l) (append_assoc (member_prefix ms) (token.Str k ∷ token.Colon ∷ []) (t ++ c))

after_list_prefix : (x : Json) (xs : List Json) (fs : List Frame) (t : Token) (s : Reading)
    → step (after x (in_list xs ∷ fs)) t ≡ Some s → prefix s ≡ prefix (after x (in_list xs ∷ fs)) ++ t ∷ []
after_list_prefix x xs fs token.Comma s e = same_prefix (value (in_list (xs ++ x ∷ []) ∷ fs)) s _ e
    (ap (λ l. frames_prefix fs ++ token.OpenList ∷ l) (item_prefix-push xs x)
    ∙ sym (group (frames_prefix fs) token.OpenList (item_prefix xs) (tokens x) (token.Comma ∷ [])))
after_list_prefix x xs fs token.CloseList s e = same_prefix (after (view.List (xs ++ x ∷ [])) fs) s _ e
    (ap (λ l. frames_prefix fs ++ l) (tokens-List (xs ++ x ∷ []) ∙ ap (λ l. token.OpenList ∷ l) (list_push xs x))
    ∙ sym (group (frames_prefix fs) token.OpenList (item_prefix xs) (tokens x) (token.CloseList ∷ [])))
after_list_prefix x xs fs _ s e = cc

pub step_prefix : (r : Reading) (t : Token) (s : Reading) → step r t ≡ Some s → prefix s ≡ prefix r ++ t ∷ []
step_prefix (value fs) t s e = value_prefix fs t s e
step_prefix (first_item fs) t s e = first_item_prefix fs t s e
step_prefix (first_key fs) token.CloseObject s e = same_prefix (after (view.Object []) fs) s _ e
    (ap (λ x. frames_prefix fs ++ x) (tokens-Object [])
    ∙ sym (tail_of (frames_prefix fs) token.OpenObject [] (token.CloseObject ∷ [])))
step_prefix (first_key fs) (token.Str k) s e =
    same_prefix (colon [] k fs) s _ e (sym (tail_of (frames_prefix fs) token.OpenObject [] (token.Str k ∷ [])))
step_prefix (first_key fs) _ s e = cc
step_prefix (key ms fs) (token.Str k) s e =
    same_prefix (colon ms k fs) s _ e (sym (tail_of (frames_prefix fs) token.OpenObject (member_prefix ms)
    (token.Str k ∷ [])))
step_prefix (key ms fs) _ s e = cc
step_prefix (colon ms k fs) token.Colon s e = same_prefix (value (in_object ms k ∷ fs)) s _ e
    (sym (tail_of (frames_prefix fs) token.OpenObject (member_prefix ms ++ token.Str k ∷ []) (token.Colon ∷ [])
    ∙ ap (λ l. frames_prefix fs ++ token.OpenObject ∷ l)
    (append_assoc (member_prefix ms) (token.Str k ∷ []) (token.Colon ∷ []))))
step_prefix (colon ms k fs) _ s e = cc
step_prefix (after x []) t s e = cc
step_prefix (after x (in_list xs ∷ fs)) t s e = after_list_prefix x xs fs t s e
step_prefix (after x (in_object ms k ∷ fs)) token.Comma s e = same_prefix (key (ms ++ field k x ∷ []) fs) s _ e
    (ap (λ l. frames_prefix fs ++ token.OpenObject ∷ l) (member_prefix-push ms (field k x))
    ∙ sym (field_group (frames_prefix fs) ms k (tokens x) (token.Comma ∷ [])))
step_prefix (after x (in_object ms k ∷ fs)) token.CloseObject s e =
    same_prefix (after (view.Object (ms ++ field k x ∷ [])) fs) s _ e
    (ap (λ l. frames_prefix fs ++ l) (tokens-Object (ms ++ field k x ∷ [])
    ∙ ap (λ l. token.OpenObject ∷ l) (object_push ms (field k x)))
    ∙ sym (field_group (frames_prefix fs) ms k (tokens x) (token.CloseObject ∷ [])))
step_prefix (after x (in_object ms k ∷ fs)) _ s e = cc

prefix_on : (o : Option Reading) (r s : Reading) (t : Token) (ts : List Token) → step r t ≡ o
    → ((q : Reading) → run q ts ≡ Some s → prefix s ≡ prefix q ++ ts) → on_some o (λ next. run next ts) ≡ Some s
    → prefix s ≡ prefix r ++ t ∷ ts
prefix_on None r s t ts is ih e = cc
prefix_on (Some q) r s t ts is ih e = ih q e
    ∙ (ap (λ l. l ++ ts) (step_prefix r t q is) ∙ append_assoc (prefix r) (t ∷ []) ts)

pub run_prefix : (ts : List Token) (r s : Reading) → run r ts ≡ Some s → prefix s ≡ prefix r ++ ts
run_prefix [] r s e = let f : r ≡ s = cc in ap prefix (sym f) ∙ sym (append-nil (prefix r))
run_prefix (t ∷ ts) r s e = prefix_on (step r t) r s t ts refl (λ q. run_prefix ts q s) e

-- tokens that lead to a value are its tokens
pub tokens_from : (ts : List Token) (v : Json) → run (value []) ts ≡ Some (after v []) → tokens v ≡ ts
tokens_from ts v e = run_prefix ts (value []) (after v []) e
