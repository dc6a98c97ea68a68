-- A value that is nested at most so deep has no token that begins a deeper level.
use Rattle.std.proofs.Common.{◌≡◌, ◌≢◌, true, false, ℕ, ◌+◌, ◌-◌, ◌<◌, ◌≤◌, max, List, [], ◌∷◌, ◌++◌, sym, ◌∙◌, subst, arith, append_assoc}
use Rattle.std.proofs.Math.Nat.{le-max_left, le-max_right}
use Rattle.std.proofs.lemmas.List.{append-nil}
use Rattle.helix_json.specs.declared.value.Json.{Json, Row_of-Json, Row_of-Member}
use Rattle.helix_json.specs.declared.value.Json as json
use Rattle.helix_json.specs.declared.token.Token.{Token}
use Rattle.helix_json.specs.declared.token.Token.TheVariants as token
use Rattle.helix_json.specs.Tokens.{tokens, first_item, next_item, first_member, next_member}
use Rattle.helix_json.specs.Broken.{BeginsTooDeep, Nowhere, Opens, level_after, max_depth}
use Rattle.helix_json.specs.Values.{nesting, items_nesting, members_nesting}
use Rattle.helix_json.proofs.Levels.{level-append}

-- after `level` containers that are open, each container opens below the deepest level
abbrev OpensBelow : ℕ → ℕ → List Token → Type 0
OpensBelow deepest level [] = Unit {0}
OpensBelow deepest level (token.OpenList ∷ ts) = (level < deepest) × OpensBelow deepest (level + 1) ts
OpensBelow deepest level (token.OpenObject ∷ ts) = (level < deepest) × OpensBelow deepest (level + 1) ts
OpensBelow deepest level (token.CloseList ∷ ts) = OpensBelow deepest (level - 1) ts
OpensBelow deepest level (token.CloseObject ∷ ts) = OpensBelow deepest (level - 1) ts
OpensBelow deepest level (t ∷ ts) = OpensBelow deepest level ts

module _ (deepest : ℕ) where
  head_below : (level : ℕ) (t : Token) (ts : List Token) → OpensBelow deepest level (t ∷ ts) → Opens t → level < deepest
  head_below level token.OpenList ts below opens = below.0
  head_below level token.OpenObject ts below opens = below.0
  head_below level _ ts below opens = absurd opens

  tail_below : (level : ℕ) (t : Token) (ts : List Token) → OpensBelow deepest level (t ∷ ts)
      → OpensBelow deepest (level_after level (t ∷ [])) ts
  tail_below level token.OpenList ts below = below.1
  tail_below level token.OpenObject ts below = below.1
  tail_below level token.CloseList ts below = below
  tail_below level token.CloseObject ts below = below
  tail_below level _ ts below = below

  none_opens_at : (level : ℕ) (ts : List Token) → OpensBelow deepest level ts
      → (before : List Token) (t : Token) (rest : List Token)
      → ts ≡ before ++ t ∷ rest → Opens t → level_after level before ≢ deepest
  none_opens_at level [] below [] t rest cut opens at = cc
  none_opens_at level [] below (b ∷ before) t rest cut opens at = cc
  none_opens_at level (x ∷ ts) below [] t rest cut opens at =
      let same : x ≡ t = cc in
      let less : level < deepest = head_below level t ts (subst (λ y. OpensBelow deepest level (y ∷ ts)) same below)
      opens in
      omega arith
  none_opens_at level (x ∷ ts) below (b ∷ before) t rest cut opens at =
      let same : x ≡ b = cc in
      let others : ts ≡ before ++ t ∷ rest = cc in
      none_opens_at (level_after level (b ∷ [])) ts
      (tail_below level b ts (subst (λ y. OpensBelow deepest level (y ∷ ts)) same below)) before t rest others opens
      (sym (level-append level (b ∷ []) before) ∙ at)

  -- from here on another level
  other_level : (level other : ℕ) (ts : List Token) → level ≡ other → OpensBelow deepest level ts
      → OpensBelow deepest other ts
  other_level level other ts same below = subst (λ l. OpensBelow deepest l ts) same below

  mutual
    value_below : (level : ℕ) (v : Json) (rest : List Token) → level + nesting v ≤ deepest
        → OpensBelow deepest level rest
        → OpensBelow deepest level (tokens v ++ rest)
    value_below level json.Null rest few below = below
    value_below level (json.Bool true) rest few below = below
    value_below level (json.Bool false) rest few below = below
    value_below level (json.Number text) rest few below = below
    value_below level (json.Str text) rest few below = below
    value_below level (json.List' shape items) rest few below =
        (omega arith, first_below level items rest (omega arith) below)
    value_below level (json.Object' shape members) rest few below =
        (omega arith, first_member_below level members rest (omega arith) below)

    first_below : {n : _} (level : ℕ) (row : Row_of-Json n) (rest : List Token)
        → level + 1 + items_nesting row ≤ deepest
        → OpensBelow deepest level rest → OpensBelow deepest (level + 1) (first_item row ++ rest)
    first_below level json.end_of-Json rest few below = other_level level (level + 1 - 1) rest (omega arith) below
    first_below level (json.more_of-Json x row) rest few below =
        subst (OpensBelow deepest (level + 1)) (sym (append_assoc (tokens x) (next_item row) rest))
        (value_below (level + 1) x (next_item row ++ rest) (omega (arith, le-max_left (nesting x) (items_nesting row)))
        (next_below level row rest (omega (arith, le-max_right (nesting x) (items_nesting row))) below))

    next_below : {n : _} (level : ℕ) (row : Row_of-Json n) (rest : List Token) → level + 1 + items_nesting row ≤ deepest
        → OpensBelow deepest level rest → OpensBelow deepest (level + 1) (next_item row ++ rest)
    next_below level json.end_of-Json rest few below = other_level level (level + 1 - 1) rest (omega arith) below
    next_below level (json.more_of-Json x row) rest few below =
        subst (OpensBelow deepest (level + 1)) (sym (append_assoc (tokens x) (next_item row) rest))
        (value_below (level + 1) x (next_item row ++ rest) (omega (arith, le-max_left (nesting x) (items_nesting row)))
        (next_below level row rest (omega (arith, le-max_right (nesting x) (items_nesting row))) below))

    first_member_below : {n : _} (level : ℕ) (row : Row_of-Member n) (rest : List Token)
        → level + 1 + members_nesting row ≤ deepest → OpensBelow deepest level rest
        → OpensBelow deepest (level + 1) (first_member row ++ rest)
    first_member_below level json.end_of-Member rest few below =
        other_level level (level + 1 - 1) rest (omega arith) below
    first_member_below level (json.more_of-Member k x row) rest few below =
        subst (OpensBelow deepest (level + 1)) (sym (append_assoc (tokens x) (next_member row) rest))
        (value_below (level + 1) x (next_member row ++ rest) (omega (
          arith,
          le-max_left (nesting x) (members_nesting row),
        ))
        (next_member_below level row rest (omega (arith, le-max_right (nesting x) (members_nesting row))) below))

    next_member_below : {n : _} (level : ℕ) (row : Row_of-Member n) (rest : List Token)
        → level + 1 + members_nesting row ≤ deepest → OpensBelow deepest level rest
        → OpensBelow deepest (level + 1) (next_member row ++ rest)
    next_member_below level json.end_of-Member rest few below =
        other_level level (level + 1 - 1) rest (omega arith) below
    next_member_below level (json.more_of-Member k x row) rest few below =
        subst (OpensBelow deepest (level + 1)) (sym (append_assoc (tokens x) (next_member row) rest))
        (value_below (level + 1) x (next_member row ++ rest) (omega (
          arith,
          le-max_left (nesting x) (members_nesting row),
        ))
        (next_member_below level row rest (omega (arith, le-max_right (nesting x) (members_nesting row))) below))

pub value_is_shallow : (v : Json) → nesting v ≤ max_depth → Nowhere BeginsTooDeep v
value_is_shallow v few before t rest cut (opens, at) =
    let start : 0 + nesting v ≤ 64 = omega arith in
    none_opens_at 64 0 (tokens v) (subst (OpensBelow 64 0) (append-nil (tokens v)) (value_below 64 0 v [] start tt))
    before t rest cut opens at
