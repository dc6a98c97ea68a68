-- The numbers of a value that a text spells are JSON numbers.
use Rattle.std.proofs.Common.{ℕ, List, [], ◌∷◌, ◌++◌}
use Rattle.helix_json.specs.declared.value.Json.{Json, Row_of-Json, Row_of-Member}
use Rattle.helix_json.specs.declared.value.Json as json
use Rattle.helix_json.specs.declared.token.Token.{Token}
use Rattle.helix_json.specs.declared.token.Token.TheVariants as token
use Rattle.helix_json.specs.Numbers.{IsNumber}
use Rattle.helix_json.specs.Tokens.{tokens, first_item, next_item, first_member, next_member}
use Rattle.helix_json.specs.Text.{SpellsToken, Cuts}
use Rattle.helix_json.specs.Broken.{SpellsJson}
use Rattle.helix_json.specs.Values.{HasNumbers, ItemsHaveNumbers, MembersHaveNumbers}

abbrev Fits : Token → Type 0
Fits (token.Number text) = IsNumber text
Fits _ = Unit {0}

abbrev AllFit : List Token → Type 0
AllFit [] = Unit {0}
AllFit (t ∷ ts) = Fits t × AllFit ts

token_fits : (t : Token) (piece : List ℕ) → SpellsToken piece t → Fits t
token_fits (token.Number text) piece h = h.1
token_fits _ piece h = tt

all_fit : (ts : List Token) (text : List ℕ) → Cuts text ts → AllFit ts
all_fit [] text h = tt
all_fit (t ∷ ts) text (blanks, piece, rest, is, are, spells, others) =
    (token_fits t piece spells, all_fit ts rest others)

left_fit : (a b : List Token) → AllFit (a ++ b) → AllFit a
left_fit [] b h = tt
left_fit (t ∷ a) b h = (h.0, left_fit a b h.1)

right_fit : (a b : List Token) → AllFit (a ++ b) → AllFit b
right_fit [] b h = h
right_fit (t ∷ a) b h = right_fit a b h.1

mutual
  numbers : (v : Json) → AllFit (tokens v) → HasNumbers v
  numbers json.Null h = tt
  numbers (json.Bool b) h = tt
  numbers (json.Number text) h = h.0
  numbers (json.Str text) h = tt
  numbers (json.List' shape items) h = first_items items h.1
  numbers (json.Object' shape members) h = first_members members h.1

  first_items : {n : _} (row : Row_of-Json n) → AllFit (first_item row) → ItemsHaveNumbers row
  first_items json.end_of-Json h = tt
  first_items (json.more_of-Json x row) h =
      (numbers x (left_fit (tokens x) (next_item row) h), next_items row (right_fit (tokens x) (next_item row) h))

  next_items : {n : _} (row : Row_of-Json n) → AllFit (next_item row) → ItemsHaveNumbers row
  next_items json.end_of-Json h = tt
  next_items (json.more_of-Json x row) h =
      (numbers x (left_fit (tokens x) (next_item row) h.1), next_items row (right_fit (tokens x) (next_item row) h.1))

  first_members : {n : _} (row : Row_of-Member n) → AllFit (first_member row) → MembersHaveNumbers row
  first_members json.end_of-Member h = tt
  first_members (json.more_of-Member k x row) h = (
    numbers x (left_fit (tokens x) (next_member row) h.1.1),
    next_members row (right_fit (tokens x) (next_member row) h.1.1),
  )

  next_members : {n : _} (row : Row_of-Member n) → AllFit (next_member row) → MembersHaveNumbers row
  next_members json.end_of-Member h = tt
  next_members (json.more_of-Member k x row) h = (
    numbers x (left_fit (tokens x) (next_member row) h.1.1.1),
    next_members row (right_fit (tokens x) (next_member row) h.1.1.1),
  )

pub numbers_of_bytes : (bytes : List ℕ) (v : Json) → SpellsJson bytes v → HasNumbers v
numbers_of_bytes bytes v (text, are, spells) = numbers v (all_fit (tokens v) text spells)
