-- The nesting of a value and the level of its tokens.
use Rattle.std.proofs.Common.{◌≡◌, ◌≢◌, true, false, ℕ, zero, suc, ◌+◌, ◌-◌, ◌≤◌, List, [], ◌∷◌, ◌++◌, refl, sym, ◌∙◌, ap, arith, append_assoc}
use Rattle.std.proofs.Math.Nat.{max-le}
use Rattle.helix_json.specs.declared.value.Json.{Json, Row_of-Json, Row_of-Member}
use Rattle.helix_json.specs.declared.value.Json as json
use Rattle.helix_json.specs.declared.token.Token.{Token}
use Rattle.helix_json.specs.declared.token.Token.TheVariants as token
use Rattle.helix_json.specs.Tokens.{tokens, first_item, next_item, first_member, next_member}
use Rattle.helix_json.specs.Broken.{BeginsTooDeep, Nowhere, Opens, level_after}
use Rattle.helix_json.specs.Values.{nesting, items_nesting, members_nesting}
use Rattle.helix_json.proofs.Levels.{level-append}

mutual
  -- a value closes what it opens
  level-value : (level : ℕ) (v : Json) (rest : List Token)
      → level_after level (tokens v ++ rest) ≡ level_after level rest
  level-value level json.Null rest = refl
  level-value level (json.Bool true) rest = refl
  level-value level (json.Bool false) rest = refl
  level-value level (json.Number text) rest = refl
  level-value level (json.Str text) rest = refl
  level-value level (json.List' shape row) rest = level-first level row rest
  level-value level (json.Object' shape row) rest = level-first_member level row rest

  level-first : {n : _} (level : ℕ) (row : Row_of-Json n) (rest : List Token)
      → level_after (level + 1) (first_item row ++ rest) ≡ level_after level rest
  level-first level json.end_of-Json rest = let e : level + 1 - 1 ≡ level = omega arith in
      ap (λ l. level_after l rest) e
  level-first level (json.more_of-Json x row) rest =
      ap (level_after (level + 1)) (append_assoc (tokens x) (next_item row) rest)
      ∙ (level-value (level + 1) x (next_item row ++ rest) ∙ level-next level row rest)

  level-next : {n : _} (level : ℕ) (row : Row_of-Json n) (rest : List Token)
      → level_after (level + 1) (next_item row ++ rest) ≡ level_after level rest
  level-next level json.end_of-Json rest = let e : level + 1 - 1 ≡ level = omega arith in ap (λ l. level_after l rest) e
  level-next level (json.more_of-Json x row) rest =
      ap (level_after (level + 1)) (append_assoc (tokens x) (next_item row) rest)
      ∙ (level-value (level + 1) x (next_item row ++ rest) ∙ level-next level row rest)

  level-first_member : {n : _} (level : ℕ) (row : Row_of-Member n) (rest : List Token)
      → level_after (level + 1) (first_member row ++ rest) ≡ level_after level rest
  level-first_member level json.end_of-Member rest = let e : level + 1 - 1 ≡ level = omega arith in
      ap (λ l. level_after l rest) e
  level-first_member level (json.more_of-Member k x row) rest =
      ap (level_after (level + 1)) (append_assoc (tokens x) (next_member row) rest)
      ∙ (level-value (level + 1) x (next_member row ++ rest) ∙ level-next_member level row rest)

  level-next_member : {n : _} (level : ℕ) (row : Row_of-Member n) (rest : List Token)
      → level_after (level + 1) (next_member row ++ rest) ≡ level_after level rest
  level-next_member level json.end_of-Member rest = let e : level + 1 - 1 ≡ level = omega arith in
      ap (λ l. level_after l rest) e
  level-next_member level (json.more_of-Member k x row) rest =
      ap (level_after (level + 1)) (append_assoc (tokens x) (next_member row) rest)
      ∙ (level-value (level + 1) x (next_member row ++ rest) ∙ level-next_member level row rest)

-- inside of `level` containers, none of the tokens opens one at a level
abbrev NoneOpensAt : ℕ → ℕ → List Token → Type 0
NoneOpensAt deepest level ts = (before : List Token) (t : Token) (rest : List Token) → ts ≡ before ++ t ∷ rest → Opens t
    → level_after level before ≢ deepest

module _ (deepest : ℕ) where
  left_none : (level : ℕ) (a b : List Token) → NoneOpensAt deepest level (a ++ b) → NoneOpensAt deepest level a
  left_none level a b none before t rest cut =
      none before t (rest ++ b) (ap (λ l. l ++ b) cut ∙ append_assoc before (t ∷ rest) b)

  right_none : (level : ℕ) (a b : List Token) → NoneOpensAt deepest level (a ++ b)
      → NoneOpensAt deepest (level_after level a) b
  right_none level a b none before t rest cut opens at =
      none (a ++ before) t rest (ap (λ l. a ++ l) cut
      ∙ sym (append_assoc a before (t ∷ rest))) opens (level-append level a before ∙ at)

  after_value : (level : ℕ) (v : Json) (b : List Token) → NoneOpensAt deepest level (tokens v ++ b)
      → NoneOpensAt deepest level b
  after_value level v b none before t rest cut opens at =
      none (tokens v ++ before) t rest (ap (λ l. tokens v ++ l) cut
      ∙ sym (append_assoc (tokens v) before (t ∷ rest))) opens (level-value level v before ∙ at)

  -- some level is left
  fits : (level left : ℕ) → (left ≡ 0 → level ≢ deepest) → level + left ≡ deepest → 1 ≤ left
  fits level zero h e = let n : level ≢ deepest = h refl in omega arith
  fits level (suc left) h e = omega arith

  mutual
    shallow : (level left : ℕ) (v : Json) → level + left ≡ deepest → NoneOpensAt deepest level (tokens v)
        → nesting v ≤ left
    shallow level left json.Null e h = omega arith
    shallow level left (json.Bool b) e h = omega arith
    shallow level left (json.Number text) e h = omega arith
    shallow level left (json.Str text) e h = omega arith
    shallow level left (json.List' shape items) e h =
        let some : 1 ≤ left = fits level left (λ z. h [] token.OpenList (first_item items) refl tt) e in
        let f : level + 1 + (left - 1) ≡ deepest = omega arith in
        let below : items_nesting items ≤ left - 1 = shallow_first (level + 1) (left - 1) items f
        (right_none level (token.OpenList ∷ []) (first_item items) h) in omega arith
    shallow level left (json.Object' shape members) e h =
        let some : 1 ≤ left = fits level left (λ z. h [] token.OpenObject (first_member members) refl tt) e in
        let f : level + 1 + (left - 1) ≡ deepest = omega arith in
        let below : members_nesting members ≤ left - 1 = shallow_first_member (level + 1) (left - 1) members f
        (right_none level (token.OpenObject ∷ []) (first_member members) h) in omega arith

    shallow_first : {n : _} (level left : ℕ) (row : Row_of-Json n) → level + left ≡ deepest
        → NoneOpensAt deepest level (first_item row) → items_nesting row ≤ left
    shallow_first level left json.end_of-Json e h = omega arith
    shallow_first level left (json.more_of-Json x row) e h =
        max-le (shallow level left x e (left_none level (tokens x) (next_item row) h))
        (shallow_next level left row e (after_value level x (next_item row) h))

    shallow_next : {n : _} (level left : ℕ) (row : Row_of-Json n) → level + left ≡ deepest
        → NoneOpensAt deepest level (next_item row) → items_nesting row ≤ left
    shallow_next level left json.end_of-Json e h = omega arith
    shallow_next level left (json.more_of-Json x row) e h =
        let after = right_none level (token.Comma ∷ []) (tokens x ++ next_item row) h in
        max-le (shallow level left x e (left_none level (tokens x) (next_item row) after))
        (shallow_next level left row e (after_value level x (next_item row) after))

    shallow_first_member : {n : _} (level left : ℕ) (row : Row_of-Member n) → level + left ≡ deepest
        → NoneOpensAt deepest level (first_member row) → members_nesting row ≤ left
    shallow_first_member level left json.end_of-Member e h = omega arith
    shallow_first_member level left (json.more_of-Member k x row) e h =
        let after = right_none level (token.Str k ∷ token.Colon ∷ []) (tokens x ++ next_member row) h in
        max-le (shallow level left x e (left_none level (tokens x) (next_member row) after))
        (shallow_next_member level left row e (after_value level x (next_member row) after))

    shallow_next_member : {n : _} (level left : ℕ) (row : Row_of-Member n) → level + left ≡ deepest
        → NoneOpensAt deepest level (next_member row) → members_nesting row ≤ left
    shallow_next_member level left json.end_of-Member e h = omega arith
    shallow_next_member level left (json.more_of-Member k x row) e h =
        let after = right_none level (token.Comma ∷ token.Str k ∷ token.Colon ∷ []) (tokens x ++ next_member row) h in
        max-le (shallow level left x e (left_none level (tokens x) (next_member row) after))
        (shallow_next_member level left row e (after_value level x (next_member row) after))

pub shallow_value : (v : Json) → Nowhere BeginsTooDeep v → nesting v ≤ 64
shallow_value v none = shallow 64 0 64 v (omega arith) (λ before t rest cut opens at. none before t rest cut (
  opens,
  at,
))
