-- The greatest of several numbers, one after the other.
use Rattle.std.proofs.Common.{◌≡◌, ◌⊎◌, inl, inr, ℕ, ◌<◌, ◌≤◌, List, [], ◌∷◌, All, length, get_or, refl, ap, arith}
use Rattle.std.proofs.lemmas.List.Elements.{All-nil, All-head, All-tail}
use Rattle.std.proofs.lemmas.List.Recursion.{max_bounds}
use Rattle.std.specs.List.{Any}
use Rattle.helix_automata.specs.declared.arc.Arc.{Arc}
use Rattle.helix_automata.specs.Automaton.{most_in}

-- no row has more arcs, and some row, if there is one, has as many
pub record IsMost (rows : List (List Arc)) (most : ℕ) : Type 0 where
  pub least : All (λ arcs. length arcs ≤ most) rows
  pub reached : ((rows ≡ []) × (most ≡ 0)) ⊎ Any (λ arcs. length arcs ≡ most) rows

pub most_of_none : IsMost [] 0
most_of_none = record { least = All-nil (λ arcs. length arcs ≤ 0); reached = inl (refl, refl) }

pub most_bounds : (rows : List (List Arc)) (k : ℕ) (d : List Arc) → k < length rows
    → length (get_or rows k d) ≤ most_in rows
most_bounds rows k d within = max_bounds most_in length refl (λ x xs. refl) rows k d within

most_least : (rows : List (List Arc)) (most : ℕ) → All (λ arcs. length arcs ≤ most) rows → most_in rows ≤ most
most_least [] most all = omega arith
most_least (arcs ∷ rows) most all =
    let here : length arcs ≤ most = All-head (λ a. length a ≤ most) arcs rows all in
    let rest = most_least rows most (All-tail (λ a. length a ≤ most) arcs rows all) in omega (arith, here, rest)

-- the bound that is reached is the greatest
pub most_is : (rows : List (List Arc)) (most : ℕ) → IsMost rows most → most ≡ most_in rows
most_is rows most is = by is.reached
  where
    low : most_in rows ≤ most
    low = most_least rows most is.least

    by : ((rows ≡ []) × (most ≡ 0)) ⊎ Any (λ arcs. length arcs ≡ most) rows → most ≡ most_in rows
    by (inl (none, zero)) = omega (arith, low, zero)
    by (inr (k, arcs, within, at, same)) =
        let high = most_bounds rows k arcs within in omega (arith, low, high, ap length at, same)
