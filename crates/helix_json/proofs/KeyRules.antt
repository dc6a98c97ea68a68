-- A value repeats a key exactly if its tokens do.
use Rattle.std.proofs.Common.{◌≡◌, inl, inr, true, ℕ, List, [], ◌∷◌, ◌++◌, refl, sym, ◌∙◌, ap, append_assoc}
use Rattle.helix_json.specs.declared.value.Json.{Json, Row_of-Json, Row_of-Member}
use Rattle.helix_json.specs.declared.value.Json as json
use Rattle.helix_json.specs.declared.token.Token.{Token}
use Rattle.helix_json.specs.declared.token.Token.TheVariants as token
use Rattle.helix_json.specs.Tokens.{tokens, first_item, next_item, first_member, next_member}
use Rattle.helix_json.specs.Broken.{Nowhere, RepeatsKey, stays}
use Rattle.helix_json.specs.Inner.Rules.{HoldsNowhere}
use Rattle.helix_json.specs.Values.{HasKey, HasNoRepeatedKey, ItemsHaveNoRepeatedKey, MembersHaveNoRepeatedKey}
use Rattle.helix_json.proofs.Stays.{stays_after, stays-tokens}

-- none of the tokens is a key that repeats an earlier one
abbrev NoneRepeats : List Token → Type 0
NoneRepeats ts = HoldsNowhere RepeatsKey ts

left_none : (a b : List Token) → NoneRepeats (a ++ b) → NoneRepeats a
left_none a b none before t rest cut (key, earlier, between, more, is, follows, before_is, whole) =
    none before t (rest ++ b) (ap (λ l. l ++ b) cut ∙ append_assoc before (t ∷ rest) b)
    (key, earlier, between, more ++ b, is, ap (λ l. l ++ b) follows, before_is, whole)

right_none : (a b : List Token) → NoneRepeats (a ++ b) → NoneRepeats b
right_none a b none before t rest cut (key, earlier, between, more, is, follows, before_is, whole) =
    none (a ++ before) t rest (ap (λ l. a ++ l) cut ∙ sym (append_assoc a before (t ∷ rest))) (
      key,
      a ++ earlier,
      between,
      more,
      is,
      follows,
      ap (λ l. a ++ l) before_is ∙ sym (append_assoc a earlier (token.Str key ∷ token.Colon ∷ between)),
      whole,
    )

-- a key of members, among their tokens
record Occurs (key : List ℕ) (ts : List Token) : Type 0 where
  between : List Token
  more : List Token
  is : ts ≡ between ++ token.Str key ∷ token.Colon ∷ more
  whole : stays 0 between ≡ true

occurs : {n : _} (key : List ℕ) (row : Row_of-Member n) → HasKey key row → Occurs key (next_member row)
occurs key json.end_of-Member h = absurd h
occurs key (json.more_of-Member k x row) (inl same) = record {
  between = token.Comma ∷ [];
  more = tokens x ++ next_member row;
  is = ap (λ l. token.Comma ∷ token.Str l ∷ token.Colon ∷ tokens x ++ next_member row) same;
  whole = refl;
}
occurs key (json.more_of-Member k x row) (inr h) = let later = occurs key row h in record {
  between = token.Comma ∷ token.Str k ∷ token.Colon ∷ tokens x ++ later.between;
  more = later.more;
  is = ap (λ l. token.Comma ∷ token.Str k ∷ token.Colon ∷ l)
      (ap (λ l. tokens x ++ l) later.is ∙ sym
      (append_assoc (tokens x) later.between (token.Str key ∷ token.Colon ∷ later.more)));
  whole = stays_after (tokens x) later.between (stays-tokens x) ∙ later.whole;
}

-- no later member has the key of the first one
differs : {n : _} (key : List ℕ) (x : Json) (row : Row_of-Member n)
    → NoneRepeats (token.Str key ∷ token.Colon ∷ tokens x ++ next_member row) → ¬ (HasKey key row)
differs key x row none h = let later = occurs key row h in
    none (token.Str key ∷ token.Colon ∷ tokens x ++ later.between) (token.Str key) (token.Colon ∷ later.more)
    (ap (λ l. token.Str key ∷ token.Colon ∷ l)
    (ap (λ l. tokens x ++ l) later.is ∙ sym
    (append_assoc (tokens x) later.between (token.Str key ∷ token.Colon ∷ later.more)))) (
      key,
      [],
      tokens x ++ later.between,
      later.more,
      refl,
      refl,
      refl,
      stays_after (tokens x) later.between (stays-tokens x) ∙ later.whole,
    )

mutual
  keyed : (v : Json) → NoneRepeats (tokens v) → HasNoRepeatedKey v
  keyed json.Null h = tt
  keyed (json.Bool b) h = tt
  keyed (json.Number text) h = tt
  keyed (json.Str text) h = tt
  keyed (json.List' shape items) h = keyed_first items (right_none (token.OpenList ∷ []) (first_item items) h)
  keyed (json.Object' shape members) h = keyed_first_member members
      (right_none (token.OpenObject ∷ []) (first_member members) h)

  keyed_first : {n : _} (row : Row_of-Json n) → NoneRepeats (first_item row) → ItemsHaveNoRepeatedKey row
  keyed_first json.end_of-Json h = tt
  keyed_first (json.more_of-Json x row) h =
      (keyed x (left_none (tokens x) (next_item row) h), keyed_next row (right_none (tokens x) (next_item row) h))

  keyed_next : {n : _} (row : Row_of-Json n) → NoneRepeats (next_item row) → ItemsHaveNoRepeatedKey row
  keyed_next json.end_of-Json h = tt
  keyed_next (json.more_of-Json x row) h = let after = right_none (token.Comma ∷ []) (tokens x ++ next_item row) h in (
    keyed x (left_none (tokens x) (next_item row) after),
    keyed_next row (right_none (tokens x) (next_item row) after),
  )

  keyed_first_member : {n : _} (row : Row_of-Member n) → NoneRepeats (first_member row) → MembersHaveNoRepeatedKey row
  keyed_first_member json.end_of-Member h = tt
  keyed_first_member (json.more_of-Member k x row) h =
      let after = right_none (token.Str k ∷ token.Colon ∷ []) (tokens x ++ next_member row) h in (
        differs k x row h,
        keyed x (left_none (tokens x) (next_member row) after),
        keyed_next_member row (right_none (tokens x) (next_member row) after),
      )

  keyed_next_member : {n : _} (row : Row_of-Member n) → NoneRepeats (next_member row) → MembersHaveNoRepeatedKey row
  keyed_next_member json.end_of-Member h = tt
  keyed_next_member (json.more_of-Member k x row) h =
      let first = right_none (token.Comma ∷ []) (token.Str k ∷ token.Colon ∷ tokens x ++ next_member row) h in
      let after = right_none (token.Str k ∷ token.Colon ∷ []) (tokens x ++ next_member row) first in (
        differs k x row first,
        keyed x (left_none (tokens x) (next_member row) after),
        keyed_next_member row (right_none (tokens x) (next_member row) after),
      )

pub keyed_value : (v : Json) → Nowhere RepeatsKey v → HasNoRepeatedKey v
keyed_value v none = keyed v none
