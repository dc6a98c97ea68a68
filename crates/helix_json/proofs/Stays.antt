-- Tokens in which each container that opens closes again, one after the other.
use Rattle.std.proofs.Common.{◌≡◌, ℕ, zero, suc, ◌+◌, true, false, List, [], ◌∷◌, ◌++◌, refl, sym, ◌∙◌, ap, arith, append_assoc}
use Rattle.std.proofs.lemmas.Bool.{eqb-true, ne_eqb}
use Rattle.std.proofs.lemmas.List.{append-nil}
use Rattle.helix_json.specs.declared.value.Json.{Json, Row_of-Json, Row_of-Member}
use Rattle.helix_json.specs.declared.value.Json as json
use Rattle.helix_json.specs.declared.token.Token.{Token}
use Rattle.helix_json.specs.declared.token.Token.TheVariants as token
use Rattle.helix_json.specs.Tokens.{tokens, first_item, next_item, first_member, next_member}
use Rattle.helix_json.specs.Broken.{Opens, stays}
use Rattle.helix_json.specs.Inner.Scopes.{Closes}

-- what closes k containers leaves the others open
pub stays-prefix : (k l m : ℕ) (xs ys : List Token) → stays k xs ≡ true → m ≡ k + l → stays m (xs ++ ys) ≡ stays l ys
stays-prefix zero l m [] ys h e = let f : m ≡ l = omega arith in ap (λ n. stays n ys) f
stays-prefix (suc k) l m [] ys h e = let f : suc k ≡ 0 = eqb-true (suc k) 0 h in absurd (omega arith)
stays-prefix k l m (token.OpenList ∷ xs) ys h e = let f : suc m ≡ suc k + l = omega arith in
    stays-prefix (suc k) l (suc m) xs ys h f
stays-prefix k l m (token.OpenObject ∷ xs) ys h e = let f : suc m ≡ suc k + l = omega arith in
    stays-prefix (suc k) l (suc m) xs ys h f
stays-prefix zero l m (token.CloseList ∷ xs) ys h e = cc
stays-prefix zero l m (token.CloseObject ∷ xs) ys h e = cc
stays-prefix (suc k) l zero (token.CloseList ∷ xs) ys h e = absurd (omega arith)
stays-prefix (suc k) l zero (token.CloseObject ∷ xs) ys h e = absurd (omega arith)
stays-prefix (suc k) l (suc m) (token.CloseList ∷ xs) ys h e = let f : m ≡ k + l = omega arith in
    stays-prefix k l m xs ys h f
stays-prefix (suc k) l (suc m) (token.CloseObject ∷ xs) ys h e = let f : m ≡ k + l = omega arith in
    stays-prefix k l m xs ys h f
stays-prefix k l m (_ ∷ xs) ys h e = stays-prefix k l m xs ys h e

pub stays_after : (xs ys : List Token) → stays 0 xs ≡ true → stays 0 (xs ++ ys) ≡ stays 0 ys
stays_after xs ys h = stays-prefix 0 0 0 xs ys h refl

-- what leaves all as it was can be left out at the end
pub stays-back : (l : ℕ) (xs ys : List Token) → stays 0 ys ≡ true → stays l (xs ++ ys) ≡ stays l xs
stays-back l [] ys h = let e : l ≡ 0 + l = omega arith in
    ap (stays l) (sym (append-nil ys)) ∙ stays-prefix 0 l l ys [] h e
stays-back l (token.OpenList ∷ xs) ys h = stays-back (suc l) xs ys h
stays-back l (token.OpenObject ∷ xs) ys h = stays-back (suc l) xs ys h
stays-back zero (token.CloseList ∷ xs) ys h = refl
stays-back zero (token.CloseObject ∷ xs) ys h = refl
stays-back (suc l) (token.CloseList ∷ xs) ys h = stays-back l xs ys h
stays-back (suc l) (token.CloseObject ∷ xs) ys h = stays-back l xs ys h
stays-back l (_ ∷ xs) ys h = stays-back l xs ys h

some_open : (l : ℕ) → stays (suc l) [] ≡ false
some_open l = ne_eqb (suc l) 0 (λ e. absurd (omega arith))

-- a container that opens last is open
opens_last : (l : ℕ) (xs : List Token) (t : Token) → Opens t → stays l (xs ++ t ∷ []) ≡ false
opens_last l [] token.OpenList o = some_open l
opens_last l [] token.OpenObject o = some_open l
opens_last l [] _ o = absurd o
opens_last l (token.OpenList ∷ xs) t o = opens_last (suc l) xs t o
opens_last l (token.OpenObject ∷ xs) t o = opens_last (suc l) xs t o
opens_last zero (token.CloseList ∷ xs) t o = refl
opens_last zero (token.CloseObject ∷ xs) t o = refl
opens_last (suc l) (token.CloseList ∷ xs) t o = opens_last l xs t o
opens_last (suc l) (token.CloseObject ∷ xs) t o = opens_last l xs t o
opens_last l (_ ∷ xs) t o = opens_last l xs t o

pub still_open : (l : ℕ) (xs ys : List Token) (t : Token) → Opens t → stays 0 ys ≡ true → stays l (xs ++ t ∷ ys) ≡ false
still_open l xs ys t o h = ap (stays l) (sym (append_assoc xs (t ∷ []) ys))
    ∙ (stays-back l (xs ++ t ∷ []) ys h ∙ opens_last l xs t o)

opened : (t : Token) (xs : List Token) → Opens t → stays 0 (t ∷ xs) ≡ stays 1 xs
opened token.OpenList xs o = refl
opened token.OpenObject xs o = refl
opened _ xs o = absurd o

closed : (t : Token) → Closes t → stays 1 (t ∷ []) ≡ true
closed token.CloseList c = refl
closed token.CloseObject c = refl
closed _ c = absurd c

-- a container that opens and closes
pub closes_again : (xs ys : List Token) (t u : Token) → stays 0 xs ≡ true → Opens t → stays 0 ys ≡ true → Closes u
    → stays 0 (xs ++ t ∷ (ys ++ u ∷ [])) ≡ true
closes_again xs ys t u h o k c = stays_after xs (t ∷ (ys ++ u ∷ [])) h
    ∙ (opened t (ys ++ u ∷ []) o ∙ (stays-prefix 0 1 1 ys (u ∷ []) k refl ∙ closed u c))

pub closes_none : (t : Token) (xs : List Token) → Closes t → stays 0 (t ∷ xs) ≡ false
closes_none token.CloseList xs c = refl
closes_none token.CloseObject xs c = refl
closes_none _ xs c = absurd c

regroup : (l : ℕ) (a b r : List Token) → stays l ((a ++ b) ++ r) ≡ stays l (a ++ (b ++ r))
regroup l a b r = ap (stays l) (append_assoc a b r)

mutual
  stays-value : (l : ℕ) (v : Json) (r : List Token) → stays l (tokens v ++ r) ≡ stays l r
  stays-value l json.Null r = refl
  stays-value l (json.Bool true) r = refl
  stays-value l (json.Bool false) r = refl
  stays-value l (json.Number n) r = refl
  stays-value l (json.Str s) r = refl
  stays-value l (json.List' shape row) r = stays-first l row r
  stays-value l (json.Object' shape row) r = stays-first_member l row r

  stays-first : {n : _} (l : ℕ) (row : Row_of-Json n) (r : List Token) → stays (suc l) (first_item row ++ r) ≡ stays l r
  stays-first l json.end_of-Json r = refl
  stays-first l (json.more_of-Json x row) r =
      regroup (suc l) (tokens x) (next_item row) r ∙ (stays-value (suc l) x (next_item row ++ r) ∙ stays-next l row r)

  stays-next : {n : _} (l : ℕ) (row : Row_of-Json n) (r : List Token) → stays (suc l) (next_item row ++ r) ≡ stays l r
  stays-next l json.end_of-Json r = refl
  stays-next l (json.more_of-Json x row) r =
      regroup (suc l) (tokens x) (next_item row) r ∙ (stays-value (suc l) x (next_item row ++ r) ∙ stays-next l row r)

  stays-first_member : {n : _} (l : ℕ) (row : Row_of-Member n) (r : List Token)
      → stays (suc l) (first_member row ++ r) ≡ stays l r
  stays-first_member l json.end_of-Member r = refl
  stays-first_member l (json.more_of-Member k x row) r =
      regroup (suc l) (tokens x) (next_member row) r
      ∙ (stays-value (suc l) x (next_member row ++ r) ∙ stays-next_member l row r)

  stays-next_member : {n : _} (l : ℕ) (row : Row_of-Member n) (r : List Token)
      → stays (suc l) (next_member row ++ r) ≡ stays l r
  stays-next_member l json.end_of-Member r = refl
  stays-next_member l (json.more_of-Member k x row) r =
      regroup (suc l) (tokens x) (next_member row) r
      ∙ (stays-value (suc l) x (next_member row ++ r) ∙ stays-next_member l row r)

-- the tokens of a value leave all as it was
pub stays-tokens : (v : Json) → stays 0 (tokens v) ≡ true
stays-tokens v = ap (stays 0) (sym (append-nil (tokens v))) ∙ stays-value 0 v []
