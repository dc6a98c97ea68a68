-- The tokens of a value repeat no key where the value repeats none.
use Rattle.std.proofs.Common.{◌≡◌, ◌≢◌, ◌⊎◌, inl, inr, ℕ, zero, suc, true, false, List, [], ◌∷◌, ◌++◌, refl, sym, ◌∙◌, ap, subst, arith, append_assoc}
use Rattle.std.proofs.lemmas.Bool.{eqb-true}
use Rattle.std.proofs.lemmas.List.{append-nil}
use Rattle.helix_json.specs.declared.value.Json.{Json, Row_of-Json, Row_of-Member}
use Rattle.helix_json.specs.declared.value.Json as json
use Rattle.helix_json.specs.declared.token.Token.{Token}
use Rattle.helix_json.specs.declared.token.Token.TheVariants as token
use Rattle.helix_json.specs.Tokens.{tokens, first_item, next_item, first_member, next_member}
use Rattle.helix_json.specs.Broken.{Nowhere, RepeatsKey, stays}
use Rattle.helix_json.specs.Values.{HasKey, HasNoRepeatedKey, ItemsHaveNoRepeatedKey, MembersHaveNoRepeatedKey}

-- until the container closes in which `depth` others are open, the key doesn't come
abbrev Lacks : List ℕ → ℕ → List Token → Type 0
Lacks key depth [] = Unit {0}
Lacks key depth (token.OpenList ∷ ts) = Lacks key (suc depth) ts
Lacks key depth (token.OpenObject ∷ ts) = Lacks key (suc depth) ts
Lacks key zero (token.CloseList ∷ ts) = Unit {0}
Lacks key zero (token.CloseObject ∷ ts) = Unit {0}
Lacks key (suc depth) (token.CloseList ∷ ts) = Lacks key depth ts
Lacks key (suc depth) (token.CloseObject ∷ ts) = Lacks key depth ts
Lacks key zero (token.Str s ∷ ts) = ((more : List Token) → ts ≡ token.Colon ∷ more → s ≢ key) × Lacks key zero ts
Lacks key depth (t ∷ ts) = Lacks key depth ts

lacks_means : (key : List ℕ) (depth : ℕ) (between more : List Token)
    → Lacks key depth (between ++ token.Str key ∷ token.Colon ∷ more) → stays depth between ≡ true → ⊥
lacks_means key zero [] more lacks closes = lacks.0 more refl refl
lacks_means key (suc depth) [] more lacks closes = let e : suc depth ≡ 0 = eqb-true (suc depth) 0 closes in omega arith
lacks_means key depth (token.OpenList ∷ between) more lacks closes =
    lacks_means key (suc depth) between more lacks closes
lacks_means key depth (token.OpenObject ∷ between) more lacks closes =
    lacks_means key (suc depth) between more lacks closes
lacks_means key zero (token.CloseList ∷ between) more lacks closes = cc
lacks_means key zero (token.CloseObject ∷ between) more lacks closes = cc
lacks_means key (suc depth) (token.CloseList ∷ between) more lacks closes =
    lacks_means key depth between more lacks closes
lacks_means key (suc depth) (token.CloseObject ∷ between) more lacks closes =
    lacks_means key depth between more lacks closes
lacks_means key zero (token.Str s ∷ between) more lacks closes = lacks_means key zero between more lacks.1 closes
lacks_means key (suc depth) (token.Str s ∷ between) more lacks closes =
    lacks_means key (suc depth) between more lacks closes
lacks_means key depth (_ ∷ between) more lacks closes = lacks_means key depth between more lacks closes

-- after each key its object lacks it
abbrev AllLack : List Token → Type 0
AllLack [] = Unit {0}
AllLack (token.Str s ∷ ts) = ((more : List Token) → ts ≡ token.Colon ∷ more → Lacks s zero more) × AllLack ts
AllLack (t ∷ ts) = AllLack ts

after_key : (earlier : List Token) (key : List ℕ) (more : List Token)
    → AllLack (earlier ++ token.Str key ∷ token.Colon ∷ more)
    → Lacks key zero more
after_key [] key more all = all.0 more refl
after_key (token.Str s ∷ earlier) key more all = after_key earlier key more all.1
after_key (_ ∷ earlier) key more all = after_key earlier key more all

none_repeats : (ts : List Token) → AllLack ts → (before : List Token) (t : Token) (rest : List Token)
    → ts ≡ before ++ t ∷ rest
    → ¬ (RepeatsKey before t rest)
none_repeats ts all before t rest cut (key, earlier, between, more, is, follows, before_is, closes) =
    let tail : t ∷ rest ≡ token.Str key ∷ token.Colon ∷ more = ap (λ u. u ∷ rest) is
    ∙ ap (λ l. token.Str key ∷ l) follows in
    let whole : ts ≡ earlier ++ token.Str key ∷ token.Colon ∷ (between ++ token.Str key ∷ token.Colon ∷ more) =
    cut ∙ (ap (λ l. l ++ t ∷ rest) before_is
    ∙ (append_assoc earlier (token.Str key ∷ token.Colon ∷ between) (t ∷ rest)
    ∙ ap (λ l. earlier ++ token.Str key ∷ token.Colon ∷ (between ++ l)) tail)) in
    lacks_means key zero between more
    (after_key earlier key (between ++ token.Str key ∷ token.Colon ∷ more) (subst AllLack whole all)) closes

-- what follows an item or a member is no colon
abbrev NoColon : List Token → Type 0
NoColon ts = (more : List Token) → ts ≢ token.Colon ∷ more

item_no_colon : {n : _} (row : Row_of-Json n) (rest : List Token) → NoColon (next_item row ++ rest)
item_no_colon json.end_of-Json rest more e = cc
item_no_colon (json.more_of-Json x row) rest more e = cc

member_no_colon : {n : _} (row : Row_of-Member n) (rest : List Token) → NoColon (next_member row ++ rest)
member_no_colon json.end_of-Member rest more e = cc
member_no_colon (json.more_of-Member k x row) rest more e = cc

module _ (key : List ℕ) where
  regrouped : (depth : ℕ) (a b rest : List Token) → Lacks key depth (a ++ (b ++ rest))
      → Lacks key depth ((a ++ b) ++ rest)
  regrouped depth a b rest lacks = subst (Lacks key depth) (sym (append_assoc a b rest)) lacks

  mutual
    -- a value closes what it opens
    skip_value : (depth : ℕ) (v : Json) (rest : List Token) → NoColon rest → Lacks key depth rest
        → Lacks key depth (tokens v ++ rest)
    skip_value depth json.Null rest none lacks = lacks
    skip_value depth (json.Bool true) rest none lacks = lacks
    skip_value depth (json.Bool false) rest none lacks = lacks
    skip_value depth (json.Number text) rest none lacks = lacks
    skip_value zero (json.Str text) rest none lacks = ((λ more e. absurd (none more e)), lacks)
    skip_value (suc depth) (json.Str text) rest none lacks = lacks
    skip_value depth (json.List' shape items) rest none lacks = skip_first depth items rest lacks
    skip_value depth (json.Object' shape members) rest none lacks = skip_first_member depth members rest lacks

    skip_first : {n : _} (depth : ℕ) (row : Row_of-Json n) (rest : List Token) → Lacks key depth rest
        → Lacks key (suc depth) (first_item row ++ rest)
    skip_first depth json.end_of-Json rest lacks = lacks
    skip_first depth (json.more_of-Json x row) rest lacks = regrouped (suc depth) (tokens x) (next_item row) rest
        (skip_value (suc depth) x (next_item row ++ rest) (item_no_colon row rest) (skip_next depth row rest lacks))

    skip_next : {n : _} (depth : ℕ) (row : Row_of-Json n) (rest : List Token) → Lacks key depth rest
        → Lacks key (suc depth) (next_item row ++ rest)
    skip_next depth json.end_of-Json rest lacks = lacks
    skip_next depth (json.more_of-Json x row) rest lacks = regrouped (suc depth) (tokens x) (next_item row) rest
        (skip_value (suc depth) x (next_item row ++ rest) (item_no_colon row rest) (skip_next depth row rest lacks))

    skip_first_member : {n : _} (depth : ℕ) (row : Row_of-Member n) (rest : List Token) → Lacks key depth rest
        → Lacks key (suc depth) (first_member row ++ rest)
    skip_first_member depth json.end_of-Member rest lacks = lacks
    skip_first_member depth (json.more_of-Member k x row) rest lacks =
        regrouped (suc depth) (tokens x) (next_member row) rest
        (skip_value (suc depth) x (next_member row ++ rest) (member_no_colon row rest)
        (skip_next_member depth row rest lacks))

    skip_next_member : {n : _} (depth : ℕ) (row : Row_of-Member n) (rest : List Token) → Lacks key depth rest
        → Lacks key (suc depth) (next_member row ++ rest)
    skip_next_member depth json.end_of-Member rest lacks = lacks
    skip_next_member depth (json.more_of-Member k x row) rest lacks =
        regrouped (suc depth) (tokens x) (next_member row) rest
        (skip_value (suc depth) x (next_member row ++ rest) (member_no_colon row rest)
        (skip_next_member depth row rest lacks))

  -- the other members lack the key
  row_lacks : {n : _} (row : Row_of-Member n) (rest : List Token) → ¬ (HasKey key row)
      → Lacks key zero (next_member row ++ rest)
  row_lacks json.end_of-Member rest none = tt
  row_lacks (json.more_of-Member k x row) rest none = (
    (λ more e same. none (inl same)),
    regrouped zero (tokens x) (next_member row) rest
        (skip_value zero x (next_member row ++ rest) (member_no_colon row rest)
        (row_lacks row rest (λ has. none (inr has)))),
  )

  -- and so do the tokens after it
  member_lacks : {n : _} (x : Json) (row : Row_of-Member n) (rest : List Token) → ¬ (HasKey key row)
      → (more : List Token) → token.Colon ∷ ((tokens x ++ next_member row) ++ rest) ≡ token.Colon ∷ more
      → Lacks key zero more
  member_lacks x row rest none more e = let same : (tokens x ++ next_member row) ++ rest ≡ more = cc in
      subst (Lacks key zero) same (regrouped zero (tokens x) (next_member row) rest
      (skip_value zero x (next_member row ++ rest) (member_no_colon row rest) (row_lacks row rest none)))

group : (a b rest : List Token) → AllLack (a ++ (b ++ rest)) → AllLack ((a ++ b) ++ rest)
group a b rest all = subst AllLack (sym (append_assoc a b rest)) all

mutual
  value_lacks : (v : Json) (rest : List Token) → HasNoRepeatedKey v → NoColon rest → AllLack rest
      → AllLack (tokens v ++ rest)
  value_lacks json.Null rest keyed none all = all
  value_lacks (json.Bool true) rest keyed none all = all
  value_lacks (json.Bool false) rest keyed none all = all
  value_lacks (json.Number text) rest keyed none all = all
  value_lacks (json.Str text) rest keyed none all = ((λ more e. absurd (none more e)), all)
  value_lacks (json.List' shape items) rest keyed none all = first_lacks items rest keyed all
  value_lacks (json.Object' shape members) rest keyed none all = first_member_lacks members rest keyed all

  first_lacks : {n : _} (row : Row_of-Json n) (rest : List Token) → ItemsHaveNoRepeatedKey row → AllLack rest
      → AllLack (first_item row ++ rest)
  first_lacks json.end_of-Json rest keyed all = all
  first_lacks (json.more_of-Json x row) rest keyed all = group (tokens x) (next_item row) rest
      (value_lacks x (next_item row ++ rest) keyed.0 (item_no_colon row rest) (next_lacks row rest keyed.1 all))

  next_lacks : {n : _} (row : Row_of-Json n) (rest : List Token) → ItemsHaveNoRepeatedKey row → AllLack rest
      → AllLack (next_item row ++ rest)
  next_lacks json.end_of-Json rest keyed all = all
  next_lacks (json.more_of-Json x row) rest keyed all = group (tokens x) (next_item row) rest
      (value_lacks x (next_item row ++ rest) keyed.0 (item_no_colon row rest) (next_lacks row rest keyed.1 all))

  first_member_lacks : {n : _} (row : Row_of-Member n) (rest : List Token) → MembersHaveNoRepeatedKey row → AllLack rest
      → AllLack (first_member row ++ rest)
  first_member_lacks json.end_of-Member rest keyed all = all
  first_member_lacks (json.more_of-Member k x row) rest keyed all = (
    member_lacks k x row rest keyed.0,
    group (tokens x) (next_member row) rest
        (value_lacks x (next_member row ++ rest) keyed.1 (member_no_colon row rest)
        (next_member_lacks row rest keyed.2 all)),
  )

  next_member_lacks : {n : _} (row : Row_of-Member n) (rest : List Token) → MembersHaveNoRepeatedKey row → AllLack rest
      → AllLack (next_member row ++ rest)
  next_member_lacks json.end_of-Member rest keyed all = all
  next_member_lacks (json.more_of-Member k x row) rest keyed all = (
    member_lacks k x row rest keyed.0,
    group (tokens x) (next_member row) rest
        (value_lacks x (next_member row ++ rest) keyed.1 (member_no_colon row rest)
        (next_member_lacks row rest keyed.2 all)),
  )

pub value_is_distinct : (v : Json) → HasNoRepeatedKey v → Nowhere RepeatsKey v
value_is_distinct v keyed before t rest cut repeats =
    none_repeats (tokens v) (subst AllLack (append-nil (tokens v)) (value_lacks v [] keyed (λ more e. cc) tt)) before t
    rest cut repeats
