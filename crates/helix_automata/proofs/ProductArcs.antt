-- How many arcs a state of a product has.
use Rattle.std.proofs.Common.{◌≡◌, ◌⊎◌, ℕ, zero, suc, ◌+◌, ◌-◌, ◌<◌, ◌≤◌, Bool, true, false, min, Result, Ok, Err, IfOk, Some, List, [], ◌∷◌, All, Contains, length, inl, inr, ap, arith, refl, sym, ◌∙◌, subst}
use Rattle.std.proofs.lemmas.Bool.{cases_lt}
use Rattle.helix_automata.specs.declared.arc.Arc.{Arc}
use Rattle.helix_automata.specs.Automaton.{Automaton, holds, target, arcs_of, most_arcs}
use Rattle.helix_automata.specs.Shape.{IsWellFormed}
use Rattle.helix_automata.specs.Machine.{FallsAt, EndsAtMost}
use Rattle.helix_automata.specs.Inner.ArcEnds.{IsArcEnd}
use Rattle.helix_automata.specs.Inner.EndLaws.{one_from, one_here, one_gone, one_most, one_falls}
use Rattle.helix_automata.proofs.Covering.{held, none_some, target_on}
use Rattle.helix_automata.proofs.Greatest.{most_bounds}
use Rattle.helix_automata.proofs.Pairs.{ArePair}

-- how many arcs don't end below a code
abbrev arcs_from : ℕ → List Arc → ℕ
arcs_from code [] = 0
arcs_from code (arc ∷ arcs) = one_from code arc.last + arcs_from code arcs

from_falls : (arcs : List Arc) (code other : ℕ) → code ≤ other → arcs_from other arcs ≤ arcs_from code arcs
from_falls [] code other low = omega arith
from_falls (arc ∷ arcs) code other low =
    let one = one_falls code other arc.last low in let rest = from_falls arcs code other low in omega (arith, one, rest)

from_most : (arcs : List Arc) (code : ℕ) → arcs_from code arcs ≤ length arcs
from_most [] code = omega arith
from_most (arc ∷ arcs) code =
    let one = one_most code arc.last in let rest = from_most arcs code in omega (arith, one, rest)

-- an arc that doesn't end below the one code, but below the other
from_less : (arcs : List Arc) (arc : Arc) (code other : ℕ) → Contains arcs arc → code ≤ arc.last → arc.last < other
    → arcs_from other arcs < arcs_from code arcs
from_less [] arc code other (k, within, is) low high = absurd (omega (arith, within))
from_less (first ∷ arcs) arc code other (zero, within, is) low high =
    let rest = from_falls arcs code other (omega (arith, low, high)) in
    let last : first.last ≡ arc.last = ap (λ a. a.last) is in
    let here = one_here code first.last (omega (arith, low, last)) in
    let gone = one_gone other first.last (omega (arith, high, last)) in omega (arith, rest, here, gone)
from_less (first ∷ arcs) arc code other (suc k, within, is) low high =
    let rest = from_less arcs arc code other (k, omega (arith, within), is) low high in
    let one = one_falls code other first.last (omega (arith, low, high)) in omega (arith, rest, one)

from_some : (arcs : List Arc) (code next : ℕ) → target arcs code ≡ Some next → 0 < arcs_from code arcs
from_some [] code next leads = absurd (none_some next leads)
from_some (arc ∷ arcs) code next leads = by (holds code arc) refl (λ on. from_some arcs code next on)
  where
    by : (b : Bool) → holds code arc ≡ b → (target arcs code ≡ Some next → 0 < arcs_from code arcs)
        → 0 < arcs_from code (arc ∷ arcs)
    by true e more = let within = held code arc e in let here = one_here code arc.last within.1 in omega (arith, here)
    by false e more = let rest = more (sym (target_on code arc arcs e) ∙ leads) in omega (arith, rest)

-- what is left of the arcs of a pair: those that don't end below a code, of which two end together with the last one
abbrev pair_left : Automaton → Automaton → ℕ × ℕ → ℕ → ℕ
pair_left left right pair code = (arcs_from code (arcs_of left pair.0) + arcs_from code (arcs_of right pair.1)) - 1

-- the ends of the steps from a pair
abbrev pub IsPairEnd : Automaton → Automaton → ℕ × ℕ → ℕ → Type 0
IsPairEnd left right pair last = IsArcEnd (arcs_of left pair.0) last ⊎ IsArcEnd (arcs_of right pair.1) last

pub pair_ends : (left right : Automaton) (pair : ℕ × ℕ) (left_arcs right_arcs : List Arc) (one other : Arc) (last : ℕ)
    → left_arcs ≡ arcs_of left pair.0 → right_arcs ≡ arcs_of right pair.1 → Contains left_arcs one
    → Contains right_arcs other → last ≡ min one.last other.last → IsPairEnd left right pair last
pair_ends left right pair left_arcs right_arcs one other last left_are right_are has_one has_other is =
    elim (cases_lt one.last other.last) [
      | inl near ↦ inl (one, subst (λ l. Contains l one) left_are has_one, omega (arith, near, is))
      | inr far ↦ inr (other, subst (λ l. Contains l other) right_are has_other, omega (arith, far, is))
    ]

-- some character leads on from the first state
most_some : (automaton : Automaton) → IsWellFormed automaton → 0 < most_arcs automaton
most_some automaton shape =
    let are = shape.rows 0 [] shape.some in
    let (next, leads) = are.lead_on 32 refl (omega arith) in
    let some = has_some (arcs_of automaton 0) 32 next leads in
    let most = most_bounds automaton.moves 0 [] shape.some in omega (arith, some, most)
  where
    has_some : (arcs : List Arc) (code next : ℕ) → target arcs code ≡ Some next → 0 < length arcs
    has_some [] code next leads = absurd (none_some next leads)
    has_some (arc ∷ arcs) code next leads = omega arith

module _ (left right : Automaton) (left_shape : IsWellFormed left) (right_shape : IsWellFormed right) where
  pair_falls : (pair : ℕ × ℕ) → ArePair left right pair
      → FallsAt (IsPairEnd left right pair) (pair_left left right pair)
  pair_falls pair are last code other ends character low high =
      let (to, leads) = (left_shape.rows pair.0 [] are.0).lead_on code character (omega arith) in
      let (to_other, leads_other) = (right_shape.rows pair.1 [] are.1).lead_on code character (omega arith) in
      let some = from_some (arcs_of left pair.0) code to leads in
      let some_other = from_some (arcs_of right pair.1) code to_other leads_other in
      let falls = from_falls (arcs_of left pair.0) code other (omega (arith, low, high)) in
      let falls_other = from_falls (arcs_of right pair.1) code other (omega (arith, low, high)) in
      elim ends [
        | inl (arc, has, is) ↦ (let less = from_less (arcs_of left pair.0) arc code other has (omega (arith, low, is))
            (omega (arith, high, is)) in omega (arith, less, falls_other, some, some_other))
        | inr (arc, has, is) ↦ (let less = from_less (arcs_of right pair.1) arc code other has (omega (arith, low, is))
            (omega (arith, high, is)) in omega (arith, less, falls, some, some_other))
      ]

  pair_few : EndsAtMost (ArePair left right) (IsPairEnd left right) ((most_arcs left + most_arcs right) - 1)
  pair_few pair are = (
    pair_left left right pair,
    pair_falls pair are,
    (λ code character.
        let one = from_most (arcs_of left pair.0) code in
        let other = from_most (arcs_of right pair.1) code in
        let one_most = most_bounds left.moves pair.0 [] are.0 in
        let other_most = most_bounds right.moves pair.1 [] are.1 in
        omega (arith, one, other, one_most, other_most)),
  )

  pub product_arcs : {E : Type 0} (r : Result Automaton E)
      → IfOk r (λ both. (most : ℕ) → EndsAtMost (ArePair left right) (IsPairEnd left right) most
      → All (λ arcs. length arcs ≤ most) both.moves)
      → IfOk r (λ both. All (λ arcs. length arcs < most_arcs left + most_arcs right) both.moves)
  product_arcs (Err e) explored = tt
  product_arcs (Ok both) explored = λ k d within.
      let few = explored ((most_arcs left + most_arcs right) - 1) pair_few k d within in
      let some = most_some left left_shape in omega (arith, few, some)
