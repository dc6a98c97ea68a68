-- Languages of the empty word alone.
use Rattle.std.proofs.Common.{◌≡◌, ℕ, ◌≤◌, zero, suc, inl, inr, Option, Some, None, List, [], ◌∷◌, ◌++◌, refl, sym, ap, ◌∙◌, subst, ◌↔◌, arith}
use Rattle.helix_expr.specs.declared.expr.Expr.{Expr}
use Rattle.helix_expr.specs.declared.expr.Expr.TheViews.{Seq, Alt, Repeat}
use Rattle.helix_expr.specs.Matching.{Matches, MatchInOrder, MatchSome, Joined, UpTo, Repeats}
use Rattle.helix_expr.specs.MatchingLaws.{Matches-Seq, Matches-Alt, Matches-Repeat}

-- no other word
abbrev pub Quiet : (List ℕ → Type 0) → Type 0
Quiet L = (word : List ℕ) → L word → word ≡ []

-- each of these expressions matches no other word
abbrev pub Silent : List Expr → Type 0
Silent [] = Unit {0}
Silent (part ∷ parts) = Quiet (Matches part) × Silent parts

pub quiet_in_order : (parts : List Expr) → Silent parts → Quiet (MatchInOrder parts)
quiet_in_order [] silent word empty = empty
quiet_in_order (part ∷ parts) (first, others) word (prefix, rest, is, matches, more) =
    is ∙ (ap (λ l. l ++ rest) (first prefix matches) ∙ quiet_in_order parts others rest more)

pub quiet_some : (parts : List Expr) → Silent parts → Quiet (MatchSome parts)
quiet_some [] silent word none = absurd none
quiet_some (part ∷ parts) (first, others) word (inl matches) = first word matches
quiet_some (part ∷ parts) (first, others) word (inr more) = quiet_some parts others word more

pub quiet_joined : (L : List ℕ → Type 0) → Quiet L → (count : ℕ) → Quiet (Joined L count)
quiet_joined L quiet zero word empty = empty
quiet_joined L quiet (suc count) word (prefix, rest, is, has, more) = is
    ∙ (ap (λ l. l ++ rest) (quiet prefix has) ∙ quiet_joined L quiet count rest more)

never_joined : (L : List ℕ → Type 0) (count : ℕ) → count ≤ 0 → Quiet (Joined L count)
never_joined L zero few word empty = empty
never_joined L (suc count) few word joined = absurd (omega (arith, few))

pub seq_quiet : (expr : Expr) (parts borrowed : List Expr) → expr ≡ Seq parts → borrowed ≡ parts
    → Quiet (MatchInOrder borrowed)
    → Quiet (Matches expr)
seq_quiet expr parts borrowed is same quiet =
    subst Quiet (ap MatchInOrder same ∙ (sym (Matches-Seq parts) ∙ ap Matches (sym is))) quiet

pub alt_quiet : (expr : Expr) (parts borrowed : List Expr) → expr ≡ Alt parts → borrowed ≡ parts
    → Quiet (MatchSome borrowed)
    → Quiet (Matches expr)
alt_quiet expr parts borrowed is same quiet word matches =
    quiet word (subst (λ l. MatchSome l word) (sym same)
    (subst (λ T. T) (Matches-Alt parts word) (subst (λ e. Matches e word) is matches)))

pub repeat_quiet : (expr part borrowed : Expr) (least : ℕ) (most : Option ℕ) → expr ≡ Repeat part least most
    → borrowed ≡ part
    → Quiet (Matches borrowed) → Quiet (Matches expr)
repeat_quiet expr part borrowed least most is same quiet word matches =
    let (count, low, high, joined) = (Matches-Repeat part least most word).0 (subst (λ e. Matches e word) is matches) in
    quiet_joined (Matches part) (subst (λ e. Quiet (Matches e)) same quiet) count word joined

-- none after the last of the parts
pub silent_all : (parts rest : List Expr) → rest ≡ [] → (Silent rest → Silent parts) → Silent parts
silent_all parts rest end all = all (subst Silent (sym end) tt)

-- a repeat of what reads nothing
joined_silent : (L : List ℕ → Type 0) → L [] → (count : ℕ) → Joined L count []
joined_silent L has zero = refl
joined_silent L has (suc count) = ([], [], refl, has, joined_silent L has count)

pub none_asked : (L : List ℕ → Type 0) (most : Option ℕ) → Quiet L → (word : List ℕ) → (word ≡ [])
    ↔ Repeats L 0 most word
none_asked L most quiet word = (
  (λ empty. (0, omega arith, allowed most, empty)),
  (λ (count, low, high, joined). quiet_joined L quiet count word joined),
)
  where
    allowed : (m : Option ℕ) → UpTo m 0
    allowed None = tt
    allowed (Some limit) = omega arith

pub once_asked : (L : List ℕ → Type 0) (least : ℕ) (most : Option ℕ) → Quiet L → 1 ≤ least → UpTo most least
    → (word : List ℕ) → L word ↔ Repeats L least most word
once_asked L least most quiet some allowed word = (
  (λ has. let empty = quiet word has in
      (least, omega arith, allowed, subst (Joined L least) (sym empty) (joined_silent L (subst L empty has) least))),
  (λ (count, low, high, joined). once count joined (omega (arith, some, low))),
)
  where
    once : (count : ℕ) → Joined L count word → 1 ≤ count → L word
    once zero joined few = absurd (omega (arith, few))
    once (suc count) (prefix, rest, is, has, more) few =
        let empty : word ≡ [] = is ∙ (ap (λ l. l ++ rest) (quiet prefix has) ∙ quiet_joined L quiet count rest more) in
        subst L (quiet prefix has ∙ sym empty) has

pub too_few_allowed : (L : List ℕ → Type 0) (least : ℕ) (most : Option ℕ) → ¬ (UpTo most least) → (word : List ℕ) → ⊥
    ↔ Repeats L least most word
too_few_allowed L least most never word =
    ((λ no. absurd no), (λ (count, low, high, joined). never (fewer most count low high)))
  where
    fewer : (m : Option ℕ) (count : ℕ) → least ≤ count → UpTo m count → UpTo m least
    fewer None count low high = tt
    fewer (Some limit) count low high = omega (arith, low, high)
