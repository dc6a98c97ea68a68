-- Each reading can end in a value.
use Rattle.std.proofs.Common.{◌≡◌, Some, List, [], ◌∷◌, ◌++◌, refl}
use Rattle.helix_json.specs.declared.value.Json.{Json, Row_of-Json, Row_of-Member}
use Rattle.helix_json.specs.declared.value.Json as json
use Rattle.helix_json.specs.declared.value.Json.TheViews as view
use Rattle.helix_json.specs.declared.token.Token.{Token}
use Rattle.helix_json.specs.declared.token.Token.TheVariants as token
use Rattle.helix_json.specs.Inner.Machine.{Frame, in_list, in_object, Reading, value, first_item, first_key, key, colon, after, run}
use Rattle.helix_json.proofs.TokensRead.{field}

-- each reading can end in a value
abbrev pub closers : List Frame → List Token
closers [] = []
closers (in_list xs ∷ fs) = token.CloseList ∷ closers fs
closers (in_object ms k ∷ fs) = token.CloseObject ∷ closers fs

abbrev pub finish : Reading → List Token
finish (value fs) = token.Null ∷ closers fs
finish (first_item fs) = token.CloseList ∷ closers fs
finish (first_key fs) = token.CloseObject ∷ closers fs
finish (key ms fs) = token.Str [] ∷ token.Colon ∷ token.Null ∷ token.CloseObject ∷ closers fs
finish (colon ms k fs) = token.Colon ∷ token.Null ∷ token.CloseObject ∷ closers fs
finish (after x fs) = closers fs

abbrev pub Finishes : Reading → List Token → Type 0
Finishes r ts = (v : Json) × (run r ts ≡ Some (after v []))

closes : (fs : List Frame) (x : Json) → Finishes (after x fs) (closers fs)
closes [] x = (x, refl)
closes (in_list xs ∷ fs) x = closes fs (view.List (xs ++ x ∷ []))
closes (in_object ms k ∷ fs) x = closes fs (view.Object (ms ++ field k x ∷ []))

pub finishes : (r : Reading) → Finishes r (finish r)
finishes (value fs) = closes fs json.Null
finishes (first_item fs) = closes fs (view.List [])
finishes (first_key fs) = closes fs (view.Object [])
finishes (key ms fs) = closes fs (view.Object (ms ++ field [] json.Null ∷ []))
finishes (colon ms k fs) = closes fs (view.Object (ms ++ field k json.Null ∷ []))
finishes (after x fs) = closes fs x
