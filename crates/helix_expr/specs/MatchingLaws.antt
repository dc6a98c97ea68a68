-- What the parts of an expression match, said of their list as code sees it.
use Rattle.std.specs.Prelude.{◌≡◌, ◌⊎◌, ◌↔◌, ℕ, zero, suc, Option, List, [], ◌∷◌, ◌++◌, refl}
use Rattle.std.proofs.Common.{inl, inr, ap}
use Rattle.helix_expr.specs.Matching.{Matches, MatchInOrder, MatchSome, Joined, Repeats}
use Rattle.helix_expr.specs.declared.expr.Expr.{Expr}
use Rattle.helix_expr.specs.declared.expr.Expr.TheViews.{Seq, Alt, Repeat}

-- what the parts of a sequence and of a choice match, said of their list
pub Matches-Seq : (parts : List Expr) → Matches (Seq parts) ≡ MatchInOrder parts
unfolding Rattle.helix_expr.specs.declared.expr.Expr.TheBlock.hidden-the_row-Expr-0 denote.Hole.Carrier.hidden
Matches-Seq [] = refl
Matches-Seq (part ∷ parts) =
    ap (λ (Language : List ℕ → Type 0). λ (word : List ℕ). (prefix : List ℕ) × (rest : List ℕ) × (word ≡ prefix ++ rest)
    × Matches part prefix × Language rest) (Matches-Seq parts)

pub Matches-Alt : (parts : List Expr) (word : List ℕ) → Matches (Alt parts) word ≡ MatchSome parts word
unfolding Rattle.helix_expr.specs.declared.expr.Expr.TheBlock.hidden-the_row-Expr-0 denote.Hole.Carrier.hidden
Matches-Alt [] word = refl
Matches-Alt (part ∷ parts) word = ap (λ T. Matches part word ⊎ T) (Matches-Alt parts word)

-- words of one language are words of another one that has them all
pub Joined-weaker : (Language Other : List ℕ → Type 0) → ((word : List ℕ) → Language word → Other word)
    → (count : ℕ) (word : List ℕ) → Joined Language count word → Joined Other count word
Joined-weaker Language Other has zero word joined = joined
Joined-weaker Language Other has (suc count) word (prefix, rest, split, first, joined) =
    (prefix, rest, split, has prefix first, Joined-weaker Language Other has count rest joined)

Repeats-weaker : (Language Other : List ℕ → Type 0) → ((word : List ℕ) → Language word → Other word)
    → (least : ℕ) (most : Option ℕ) (word : List ℕ) → Repeats Language least most word → Repeats Other least most word
Repeats-weaker Language Other has least most word (count, low, high, joined) =
    (count, low, high, Joined-weaker Language Other has count word joined)

only_part : (A : Type 0) → A ⊎ ⊥ → A
only_part A (inl a) = a
only_part A (inr none) = absurd none

pub Matches-Repeat : (part : Expr) (least : ℕ) (most : Option ℕ) (word : List ℕ)
    → Matches (Repeat part least most) word ↔ Repeats (λ w. Matches part w) least most word
unfolding Rattle.helix_expr.specs.declared.expr.Expr.TheBlock.hidden-the_row-Expr-1 denote.Hole.Carrier.hidden
Matches-Repeat part least most word = (
  Repeats-weaker (λ w. Matches part w ⊎ ⊥) (λ w. Matches part w) (λ w. only_part (Matches part w)) least most word,
  Repeats-weaker (λ w. Matches part w) (λ w. Matches part w ⊎ ⊥) (λ w m. inl m) least most word,
)
