-- Which token may come next, whatever the values are.
use Rattle.std.specs.Prelude.{◌≡◌, Option, Some, None, List, [], ◌∷◌, ◌++◌}
use Rattle.helix_json.specs.declared.token.Token.{Token}
use Rattle.helix_json.specs.declared.token.Token.TheVariants as token
use Rattle.helix_json.specs.declared.need.Need.{Need}
use Rattle.helix_json.specs.declared.need.Need.TheVariants as need
use Rattle.helix_json.specs.declared.need.Container.{Container}
use Rattle.helix_json.specs.declared.need.Container.TheVariants as container
use Rattle.helix_json.specs.declared.need.TokenKind.{TokenKind}
use Rattle.helix_json.specs.declared.need.TokenKind.TheVariants as kind
use Rattle.helix_json.specs.declared.need.Advance.{Advance}
use Rattle.helix_json.specs.declared.need.Advance.TheVariants as advance
use Rattle.helix_json.specs.Inner.Machine.{Reading, value, first_item, first_key, key, colon, after, Frame, in_list, in_object}

abbrev pub kind_of_token : Token → TokenKind
kind_of_token token.OpenList = kind.OpenList
kind_of_token token.CloseList = kind.CloseList
kind_of_token token.OpenObject = kind.OpenObject
kind_of_token token.CloseObject = kind.CloseObject
kind_of_token token.Comma = kind.Comma
kind_of_token token.Colon = kind.Colon
kind_of_token token.Null = kind.Scalar
kind_of_token token.True = kind.Scalar
kind_of_token token.False = kind.Scalar
kind_of_token (token.Number n) = kind.Scalar
kind_of_token (token.Str s) = kind.Str

abbrev pub value_need : TokenKind → Advance
value_need kind.OpenList = advance.Open need.FirstItem container.List
value_need kind.OpenObject = advance.Open need.FirstKey container.Object
value_need kind.Scalar = advance.Stay need.After
value_need kind.Str = advance.Stay need.After
value_need _ = advance.Refuse

abbrev pub need_step : Need → Option Container → TokenKind → Advance
need_step need.Value c k = value_need k
need_step need.FirstItem c kind.CloseList = advance.Close
need_step need.FirstItem c k = value_need k
need_step need.FirstKey c kind.CloseObject = advance.Close
need_step need.FirstKey c kind.Str = advance.Stay need.Colon
need_step need.FirstKey c _ = advance.Refuse
need_step need.Key c kind.Str = advance.Stay need.Colon
need_step need.Key c _ = advance.Refuse
need_step need.Colon c kind.Colon = advance.Stay need.Value
need_step need.Colon c _ = advance.Refuse
need_step need.After (Some container.List) kind.Comma = advance.Stay need.Value
need_step need.After (Some container.List) kind.CloseList = advance.Close
need_step need.After (Some container.Object) kind.Comma = advance.Stay need.Key
need_step need.After (Some container.Object) kind.CloseObject = advance.Close
need_step need.After _ _ = advance.Refuse

abbrev pub need_of : Reading → Need
need_of (value fs) = need.Value
need_of (first_item fs) = need.FirstItem
need_of (first_key fs) = need.FirstKey
need_of (key ms fs) = need.Key
need_of (colon ms k fs) = need.Colon
need_of (after x fs) = need.After

-- the open containers, the innermost last
abbrev pub opened : List Frame → List Container
opened [] = []
opened (in_list xs ∷ fs) = opened fs ++ container.List ∷ []
opened (in_object ms k ∷ fs) = opened fs ++ container.Object ∷ []

abbrev pub containers : Reading → List Container
containers (value fs) = opened fs
containers (first_item fs) = opened fs ++ container.List ∷ []
containers (first_key fs) = opened fs ++ container.Object ∷ []
containers (key ms fs) = opened fs ++ container.Object ∷ []
containers (colon ms k fs) = opened fs ++ container.Object ∷ []
containers (after x fs) = opened fs

abbrev pub innermost : List Frame → Option Container
innermost [] = None
innermost (in_list xs ∷ fs) = Some container.List
innermost (in_object ms k ∷ fs) = Some container.Object

-- the last container, if there is one
abbrev pub IsLast : List Container → Option Container → Type 0
IsLast cs None = cs ≡ []
IsLast cs (Some c) = (outer : List Container) × (cs ≡ outer ++ c ∷ [])
