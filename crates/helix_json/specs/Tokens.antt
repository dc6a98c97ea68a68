-- The tokens of a value: RFC 8259, sections 2 to 5.
use Rattle.std.specs.Prelude.{true, false, List, [], ◌∷◌, ◌++◌}
use Rattle.helix_json.specs.declared.value.Json.{Json, Row_of-Json, Row_of-Member}
use Rattle.helix_json.specs.declared.value.Json as json
use Rattle.helix_json.specs.declared.token.Token.{Token}
use Rattle.helix_json.specs.declared.token.Token.TheVariants as token

abbrev mutual
  -- the tokens that a value is written with, one after the other
  pub tokens : Json → List Token
  tokens json.Null = token.Null ∷ []
  tokens (json.Bool true) = token.True ∷ []
  tokens (json.Bool false) = token.False ∷ []
  tokens (json.Number text) = token.Number text ∷ []
  tokens (json.Str text) = token.Str text ∷ []
  tokens (json.List' shape items) = token.OpenList ∷ first_item items
  tokens (json.Object' shape members) = token.OpenObject ∷ first_member members

  -- after `[`: the first item and what is after it, or `]`
  pub first_item : {n : _} → Row_of-Json n → List Token
  first_item json.end_of-Json = token.CloseList ∷ []
  first_item (json.more_of-Json item items) = tokens item ++ next_item items

  -- after an item: `,`, the next item and what is after it, or `]`
  pub next_item : {n : _} → Row_of-Json n → List Token
  next_item json.end_of-Json = token.CloseList ∷ []
  next_item (json.more_of-Json item items) = token.Comma ∷ tokens item ++ next_item items

  -- after `{`: the first member and what is after it, or `}`
  pub first_member : {n : _} → Row_of-Member n → List Token
  first_member json.end_of-Member = token.CloseObject ∷ []
  first_member (json.more_of-Member key value members) =
      token.Str key ∷ token.Colon ∷ tokens value ++ next_member members

  -- after a member: `,`, the next member and what is after it, or `}`
  pub next_member : {n : _} → Row_of-Member n → List Token
  next_member json.end_of-Member = token.CloseObject ∷ []
  next_member (json.more_of-Member key value members) =
      token.Comma ∷ token.Str key ∷ token.Colon ∷ tokens value ++ next_member members
