-- Which token may come next is known without the values.
use Rattle.std.proofs.Common.{◌≡◌, Option, Some, None, List, [], ◌∷◌, ◌++◌, refl, sym, ap, subst}
use Rattle.helix_json.specs.declared.value.Json.{Json}
use Rattle.helix_json.specs.declared.token.Token.{Token}
use Rattle.helix_json.specs.declared.token.Token.TheVariants as token
use Rattle.helix_json.specs.declared.need.Need.TheVariants as need
use Rattle.helix_json.specs.declared.need.Container.{Container}
use Rattle.helix_json.specs.declared.need.Container.TheVariants as container
use Rattle.helix_json.specs.declared.need.Advance.{Advance}
use Rattle.helix_json.specs.declared.need.Advance.TheVariants as advance
use Rattle.helix_json.specs.Inner.Machine.{Reading, value, first_item, first_key, key, colon, after, Frame, in_list, in_object, step, value_step}
use Rattle.helix_json.specs.Inner.Need.{kind_of_token, need_step, value_need, need_of, opened, containers, innermost}

-- after a value the innermost container is known
abbrev pub Knows : Reading → Option Container → Type 0
Knows (after x fs) i = i ≡ innermost fs
Knows _ i = Unit {0}

-- what an advance says of the step
abbrev pub Does : Advance → Option Reading → Reading → Type 0
Does advance.Refuse o r = o ≡ None
Does (advance.Stay n) o r = (q : Reading) × (o ≡ Some q) × (need_of q ≡ n) × (containers q ≡ containers r)
Does (advance.Open n c) o r = (q : Reading) × (o ≡ Some q) × (need_of q ≡ n) × (containers q ≡ containers r ++ c ∷ [])
Does advance.Close o r = (q : Reading) × (c : Container) × (o ≡ Some q) × (need_of q ≡ need.After)
    × (containers r ≡ containers q ++ c ∷ [])

value_does : (fs : List Frame) (t : Token) (r : Reading) → containers r ≡ opened fs
    → Does (value_need (kind_of_token t)) (value_step fs t) r
value_does fs token.Null r e = (_, refl, refl, sym e)
value_does fs token.True r e = (_, refl, refl, sym e)
value_does fs token.False r e = (_, refl, refl, sym e)
value_does fs (token.Number n) r e = (_, refl, refl, sym e)
value_does fs (token.Str n) r e = (_, refl, refl, sym e)
value_does fs token.OpenList r e = (_, refl, refl, ap (λ l. l ++ container.List ∷ []) (sym e))
value_does fs token.OpenObject r e = (_, refl, refl, ap (λ l. l ++ container.Object ∷ []) (sym e))
value_does fs token.CloseList r e = refl
value_does fs token.CloseObject r e = refl
value_does fs token.Comma r e = refl
value_does fs token.Colon r e = refl

item_does : (fs : List Frame) (t : Token) (i : Option Container)
    → Does (need_step need.FirstItem i (kind_of_token t)) (step (first_item fs) t) (first_item fs)
item_does fs token.CloseList i = (_, container.List, refl, refl, refl)
item_does fs token.Null i = value_does (in_list [] ∷ fs) token.Null (first_item fs) refl
item_does fs token.True i = value_does (in_list [] ∷ fs) token.True (first_item fs) refl
item_does fs token.False i = value_does (in_list [] ∷ fs) token.False (first_item fs) refl
item_does fs (token.Number n) i = value_does (in_list [] ∷ fs) (token.Number n) (first_item fs) refl
item_does fs (token.Str n) i = value_does (in_list [] ∷ fs) (token.Str n) (first_item fs) refl
item_does fs token.OpenList i = value_does (in_list [] ∷ fs) token.OpenList (first_item fs) refl
item_does fs token.OpenObject i = value_does (in_list [] ∷ fs) token.OpenObject (first_item fs) refl
item_does fs token.CloseObject i = refl
item_does fs token.Comma i = refl
item_does fs token.Colon i = refl

after_does : (x : Json) (fs : List Frame) (t : Token)
    → Does (need_step need.After (innermost fs) (kind_of_token t)) (step (after x fs) t) (after x fs)
after_does x [] t = refl
after_does x (in_list xs ∷ fs) token.Comma = (_, refl, refl, refl)
after_does x (in_list xs ∷ fs) token.CloseList = (_, container.List, refl, refl, refl)
after_does x (in_list xs ∷ fs) _ = refl
after_does x (in_object ms k ∷ fs) token.Comma = (_, refl, refl, refl)
after_does x (in_object ms k ∷ fs) token.CloseObject = (_, container.Object, refl, refl, refl)
after_does x (in_object ms k ∷ fs) _ = refl

pub does : (r : Reading) (t : Token) (i : Option Container) → Knows r i
    → Does (need_step (need_of r) i (kind_of_token t)) (step r t) r
does (value fs) t i knows = value_does fs t (value fs) refl
does (first_item fs) t i knows = item_does fs t i
does (first_key fs) token.CloseObject i knows = (_, container.Object, refl, refl, refl)
does (first_key fs) (token.Str k) i knows = (_, refl, refl, refl)
does (first_key fs) _ i knows = refl
does (key ms fs) (token.Str k) i knows = (_, refl, refl, refl)
does (key ms fs) _ i knows = refl
does (colon ms k fs) token.Colon i knows = (_, refl, refl, refl)
does (colon ms k fs) _ i knows = refl
does (after x fs) t i knows =
    subst (λ j. Does (need_step need.After j (kind_of_token t)) (step (after x fs) t) (after x fs)) (sym knows)
    (after_does x fs t)
