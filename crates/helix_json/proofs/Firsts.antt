-- The first token of which something holds, found from the beginning.
use Rattle.std.proofs.Common.{◌≡◌, ℕ, ◌+◌, ◌<◌, ◌≤◌, ◌⊎◌, inl, inr, List, [], ◌∷◌, ◌++◌, length, take, drop, get_or, sym, ◌∙◌, ap, subst, arith, length-take-le, take-append-drop}
use Rattle.std.proofs.lemmas.Bool.{cases_lt}
use Rattle.std.proofs.lemmas.List.{drop_more}
use Rattle.helix_json.specs.declared.token.Token.{Token}
use Rattle.helix_json.specs.Inner.Rules.{IsFirstAt}

-- it holds of none of the first i tokens
pub record NoneBefore (P : List Token → Token → List Token → Type 0) (all : List Token) (i : ℕ) : Type 0 where
  pub none : (before : List Token) (t : Token) (rest : List Token) → all ≡ before ++ t ∷ rest → length before < i
      → ¬ (P before t rest)

-- what the list is at an index
pub cut_at : (all : List Token) (i : ℕ) (t : Token) → i < length all → t ≡ get_or all i t
    → all ≡ take i all ++ t ∷ drop (i + 1) all
cut_at all i t h e = sym (take-append-drop i all)
    ∙ ap (λ l. take i all ++ l) (drop_more all i t h ∙ ap (λ x. x ∷ drop (i + 1) all) (sym e))

-- a list is cut at an index in one way
pub one_cut : (P : List Token → Token → List Token → Type 0) (xs ys before rest : List Token) (t u : Token)
    → xs ++ t ∷ ys ≡ before ++ u ∷ rest → length xs ≡ length before → P before u rest → P xs t ys
one_cut P [] ys [] rest t u e h p = let a : t ≡ u = cc in let b : ys ≡ rest = cc in
    subst (λ x. P [] x ys) (sym a) (subst (λ l. P [] u l) (sym b) p)
one_cut P [] ys (b ∷ before) rest t u e h p = absurd (omega arith)
one_cut P (x ∷ xs) ys [] rest t u e h p = absurd (omega arith)
one_cut P (x ∷ xs) ys (b ∷ before) rest t u e h p =
    let same : x ≡ b = cc in let others : xs ++ t ∷ ys ≡ before ++ u ∷ rest = cc in
    let k : length xs ≡ length before = omega arith in
    subst (λ c. P (c ∷ xs) t ys) (sym same) (one_cut (λ l. P (b ∷ l)) xs ys before rest t u others k p)

module _ (P : List Token → Token → List Token → Type 0) where
  not_before : (all : List Token) (i : ℕ) (before : List Token) (t : Token) (rest : List Token) → NoneBefore P all i
      → all ≡ before ++ t ∷ rest → P before t rest
      → (length before < i) ⊎ (i ≤ length before) → i ≤ length before
  not_before all i before t rest none e p (inl h) = absurd (none.none before t rest e h p)
  not_before all i before t rest none e p (inr h) = h

  pub found_at : (all : List Token) (i : ℕ) (t : Token) → i < length all → t ≡ get_or all i t → NoneBefore P all i
      → P (take i all) t (drop (i + 1) all) → IsFirstAt P all i
  found_at all i t h e none holds =
      let k : i ≤ length all = omega arith in
      let n : length (take i all) ≡ i = length-take-le i all k in (
        take i all,
        t,
        drop (i + 1) all,
        record {
          is = cut_at all i t h e;
          holds = holds;
          least = λ prefix u more f p. subst (λ m. m ≤ length prefix) (sym n)
              (not_before all i prefix u more none f p (cases_lt (length prefix) i));
        },
        sym n,
      )

  more_none : (all : List Token) (i : ℕ) (t : Token) → all ≡ take i all ++ t ∷ drop (i + 1) all
      → length (take i all) ≡ i
      → NoneBefore P all i → ¬ (P (take i all) t (drop (i + 1) all))
      → (before : List Token) (u : Token) (rest : List Token) → all ≡ before ++ u ∷ rest
      → length before < i + 1 → (length before < i) ⊎ (i ≤ length before) → ¬ (P before u rest)
  more_none all i t cut n none holds before u rest e h (inl less) p = none.none before u rest e less p
  more_none all i t cut n none holds before u rest e h (inr least) p =
      let same : length (take i all) ≡ length before = omega arith in
      holds (one_cut P (take i all) (drop (i + 1) all) before rest t u (sym cut ∙ e) same p)

  pub none_more : (all : List Token) (i : ℕ) (t : Token) → i < length all → t ≡ get_or all i t → NoneBefore P all i
      → ¬ (P (take i all) t (drop (i + 1) all))
      → NoneBefore P all (i + 1)
  none_more all i t h e none holds = let k : i ≤ length all = omega arith in record {
    none = λ before u rest f less. more_none all i t (cut_at all i t h e) (length-take-le i all k) none holds before u
        rest f less (cases_lt (length before) i);
  }
