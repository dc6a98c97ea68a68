-- How many lists and objects are open, token by token.
use Rattle.std.proofs.Common.{◌≡◌, ◌≢◌, ℕ, ◌+◌, ◌-◌, ◌<◌, ◌≤◌, List, [], ◌∷◌, ◌++◌, length, take, get_or, refl, sym, ◌∙◌, ap, subst, arith}
use Rattle.std.proofs.lemmas.List.{take_more}
use Rattle.helix_json.specs.declared.token.Token.{Token}
use Rattle.helix_json.specs.declared.token.Token.TheVariants as token
use Rattle.helix_json.specs.Broken.{BeginsTooDeep, Opens, level_after}
use Rattle.helix_json.specs.Inner.Rules.{IsFirstAt}
use Rattle.helix_json.proofs.Firsts.{NoneBefore, found_at, none_more}

pub level-append : (level : ℕ) (xs ys : List Token)
    → level_after level (xs ++ ys) ≡ level_after (level_after level xs) ys
level-append level [] ys = refl
level-append level (token.OpenList ∷ xs) ys = level-append (level + 1) xs ys
level-append level (token.OpenObject ∷ xs) ys = level-append (level + 1) xs ys
level-append level (token.CloseList ∷ xs) ys = level-append (level - 1) xs ys
level-append level (token.CloseObject ∷ xs) ys = level-append (level - 1) xs ys
level-append level (_ ∷ xs) ys = level-append level xs ys

-- the first i tokens are counted, and none of them begins level 65
pub record Counted (all : List Token) (i level : ℕ) : Type 0 where
  pub is : level ≡ level_after 0 (take i all)
  pub few : level ≤ 64
  pub none : NoneBefore BeginsTooDeep all i

level_more : (all : List Token) (i level : ℕ) (t : Token) → i < length all → t ≡ get_or all i t
    → level ≡ level_after 0 (take i all)
    → level_after level (t ∷ []) ≡ level_after 0 (take (i + 1) all)
level_more all i level t h e so_far = ap (λ n. level_after n (t ∷ [])) so_far
    ∙ (sym (level-append 0 (take i all) (t ∷ []))
    ∙ ap (level_after 0) (ap (λ u. take i all ++ u ∷ []) e ∙ sym (take_more all i t h)))

still_few : (level : ℕ) (t : Token) → level ≤ 64 → (Opens t → level ≢ 64) → level_after level (t ∷ []) ≤ 64
still_few level token.OpenList h not_deep = let n : level ≢ 64 = not_deep tt in omega arith
still_few level token.OpenObject h not_deep = let n : level ≢ 64 = not_deep tt in omega arith
still_few level token.CloseList h not_deep = omega arith
still_few level token.CloseObject h not_deep = omega arith
still_few level _ h not_deep = h

pub deep_found : (all : List Token) (i level : ℕ) (t : Token) → i < length all → t ≡ get_or all i t
    → Counted all i level → Opens t → level ≡ 64 → IsFirstAt BeginsTooDeep all i
deep_found all i level t h e so_far opens deep =
    found_at BeginsTooDeep all i t h e so_far.none (opens, sym so_far.is ∙ deep)

pub counted_more : (all : List Token) (i level next : ℕ) (t : Token) → i < length all → t ≡ get_or all i t
    → Counted all i level → (Opens t → level ≢ 64)
    → next ≡ level_after level (t ∷ []) → Counted all (i + 1) next
counted_more all i level next t h e so_far not_deep is = record {
  is = is ∙ level_more all i level t h e so_far.is;
  few = subst (λ n. n ≤ 64) (sym is) (still_few level t so_far.few not_deep);
  none = none_more BeginsTooDeep all i t h e so_far.none (λ p. not_deep p.0 (so_far.is ∙ p.1));
}
