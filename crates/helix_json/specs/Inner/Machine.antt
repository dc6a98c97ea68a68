-- The values of tokens, one token after the other.
use Rattle.std.specs.Prelude.{ℕ, true, false, Option, Some, None, List, [], ◌∷◌, ◌++◌}
use Rattle.helix_json.specs.declared.value.Json.{Json}
use Rattle.helix_json.specs.declared.value.Json as json
use Rattle.helix_json.specs.declared.value.Json.TheViews as view
use Rattle.helix_json.specs.declared.value.Member.{Member}
use Rattle.helix_json.specs.declared.token.Token.{Token}
use Rattle.helix_json.specs.declared.token.Token.TheVariants as token

-- a list or an object that is open: what it has so far, and the key whose value is read
pub data Frame : Type 0 where
  in_list : List Json → Frame
  in_object : List Member → List ℕ → Frame

-- what comes next, inside of the open frames
pub data Reading : Type 0 where
  value : List Frame → Reading
  first_item : List Frame → Reading
  first_key : List Frame → Reading
  key : List Member → List Frame → Reading
  colon : List Member → List ℕ → List Frame → Reading
  after : Json → List Frame → Reading

abbrev pub value_step : List Frame → Token → Option Reading
value_step fs token.Null = Some (after json.Null fs)
value_step fs token.True = Some (after (json.Bool true) fs)
value_step fs token.False = Some (after (json.Bool false) fs)
value_step fs (token.Number n) = Some (after (json.Number n) fs)
value_step fs (token.Str s) = Some (after (json.Str s) fs)
value_step fs token.OpenList = Some (first_item fs)
value_step fs token.OpenObject = Some (first_key fs)
value_step fs _ = None

abbrev pub step : Reading → Token → Option Reading
step (value fs) t = value_step fs t
step (first_item fs) token.CloseList = Some (after (view.List []) fs)
step (first_item fs) t = value_step (in_list [] ∷ fs) t
step (first_key fs) token.CloseObject = Some (after (view.Object []) fs)
step (first_key fs) (token.Str k) = Some (colon [] k fs)
step (first_key fs) _ = None
step (key ms fs) (token.Str k) = Some (colon ms k fs)
step (key ms fs) _ = None
step (colon ms k fs) token.Colon = Some (value (in_object ms k ∷ fs))
step (colon ms k fs) _ = None
step (after x []) _ = None
step (after x (in_list xs ∷ fs)) token.Comma = Some (value (in_list (xs ++ x ∷ []) ∷ fs))
step (after x (in_list xs ∷ fs)) token.CloseList = Some (after (view.List (xs ++ x ∷ [])) fs)
step (after x (in_list xs ∷ fs)) _ = None
step (after x (in_object ms k ∷ fs)) token.Comma = Some (key (ms ++ record { key = k; value = x } ∷ []) fs)
step (after x (in_object ms k ∷ fs)) token.CloseObject =
    Some (after (view.Object (ms ++ record { key = k; value = x } ∷ [])) fs)
step (after x (in_object ms k ∷ fs)) _ = None

abbrev pub on_some : Option Reading → (Reading → Option Reading) → Option Reading
on_some None f = None
on_some (Some r) f = f r

-- where tokens lead
abbrev pub run : Reading → List Token → Option Reading
run r [] = Some r
run r (t ∷ ts) = on_some (step r t) (λ next. run next ts)
