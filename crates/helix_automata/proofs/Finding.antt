-- The arc that holds a character is the first that doesn't end below it.
use Rattle.std.proofs.Common.{◌≡◌, ℕ, ◌+◌, ◌<◌, ◌≤◌, zero, suc, Bool, true, false, nat_lt, Some, List, [], ◌∷◌, All, length, get_or, arith, refl, sym, ◌∙◌, subst}
use Rattle.std.proofs.lemmas.Bool.{ltb-true, ltb-false}
use Rattle.std.proofs.lemmas.List.Elements.{All-head, All-tail}
use Rattle.std.proofs.lemmas.List.Sorted.{IsNonDecreasingBy-from_all_adjacent}
use Rattle.std.specs.List.Sorted.{IsNonDecreasingBy, IsPartitionPoint}
use Rattle.helix_automata.specs.declared.arc.Arc.{Arc}
use Rattle.helix_automata.specs.Automaton.{holds, target}
use Rattle.helix_automata.specs.Shape.{AreInOrder, HasCharacter}
use Rattle.helix_automata.proofs.Covering.{not_above, not_reversed, target_here, target_on, none_after_it, none_some, order_tail}

-- the ends of arcs rise
rising : (arcs : List Arc) (k : ℕ) (d : Arc) → AreInOrder arcs → All HasCharacter arcs → suc k < length arcs
    → (get_or arcs k d).last ≤ (get_or arcs (suc k) d).last
rising [] k d order used within = omega arith
rising (arc ∷ []) k d order used within = omega arith
rising (arc ∷ next ∷ arcs) zero d order used within =
    let right : next.first ≤ next.last =
    not_reversed next (All-head HasCharacter next arcs (All-tail HasCharacter arc (next ∷ arcs) used)) in omega
    (arith, order.0)
rising (arc ∷ next ∷ arcs) (suc k) d order used within =
    rising (next ∷ arcs) k d order.1 (All-tail HasCharacter arc (next ∷ arcs) used) (omega arith)

pub ends_rise : (arcs : List Arc) → AreInOrder arcs → All HasCharacter arcs → IsNonDecreasingBy (λ arc. arc.last) arcs
ends_rise arcs order used = IsNonDecreasingBy-from_all_adjacent (λ arc. arc.last) arcs (λ k d within.
    let next : suc k ≡ k + 1 = omega arith in
    subst (λ j. (get_or arcs k d).last ≤ (get_or arcs j d).last) next
    (rising arcs k d order used (omega (arith, within))))

-- each arc begins above the ends of those before it
apart : (arcs : List Arc) (k : ℕ) (d : Arc) → AreInOrder arcs → suc k < length arcs
    → (get_or arcs k d).last < (get_or arcs (suc k) d).first
apart [] k d order within = absurd (omega (arith, within))
apart (arc ∷ []) k d order within = absurd (omega (arith, within))
apart (arc ∷ next ∷ arcs) zero d order within = order.0
apart (arc ∷ next ∷ arcs) (suc k) d order within = apart (next ∷ arcs) k d order.1 (omega (arith, within))

pub begins_above : (arcs : List Arc) (i k : ℕ) (d : Arc) → AreInOrder arcs → All HasCharacter arcs → i < k
    → k < length arcs → (get_or arcs i d).last < (get_or arcs k d).first
begins_above arcs i zero d order used less within = absurd (omega (arith, less))
begins_above arcs i (suc k) d order used less within =
    let rise = ends_rise arcs order used i k d (omega (arith, less)) (omega (arith, within)) in
    let next = apart arcs k d order within in omega (arith, rise, next)

-- the arc ends below the code
abbrev pub ends_below : ℕ → Arc → Bool
ends_below code arc = nat_lt arc.last code

-- what the arc after all that end below a code is
pub record IsArcAt (arcs : List Arc) (code at : ℕ) : Type 0 where
  pub within : at < length arcs
  pub held : (d : Arc) → holds code (get_or arcs at d) ≡ true
  pub leads : (d : Arc) → target arcs code ≡ Some (get_or arcs at d).to

here_by : (arc : Arc) (arcs : List Arc) (code next : ℕ) (b : Bool) → holds code arc ≡ b → code ≤ arc.last
    → AreInOrder (arc ∷ arcs) → All HasCharacter (arc ∷ arcs)
    → target (arc ∷ arcs) code ≡ Some next → IsArcAt (arc ∷ arcs) code 0
here_by arc arcs code next true e low order used leads =
    record { within = omega arith; held = λ d. e; leads = λ d. target_here code arc arcs e }
here_by arc arcs code next false e low order used leads =
    absurd (none_some next
    (sym (target_on code arc arcs e ∙ none_after_it arc arcs code order (All-tail HasCharacter arc arcs used) low)
    ∙ leads))

pub found : (arcs : List Arc) (code at next : ℕ) → AreInOrder arcs → All HasCharacter arcs
    → target arcs code ≡ Some next
    → IsPartitionPoint (λ y. ends_below code y ≡ true) (λ y. ends_below code y ≡ false) arcs at → IsArcAt arcs code at
found [] code at next order used leads point = absurd (none_some next leads)
found (arc ∷ arcs) code zero next order used leads point =
    here_by arc arcs code next (holds code arc) refl
    (ltb-false arc.last code (point.1 0 arc (omega arith) (omega arith))) order used leads
found (arc ∷ arcs) code (suc at) next order used leads point =
    let above : arc.last < code = ltb-true arc.last code (point.0 0 arc (omega arith) (omega arith)) in
    let on = target_on code arc arcs (not_above code arc above) in
    let rest = found arcs code at next (order_tail arc arcs order) (All-tail HasCharacter arc arcs used) (sym on
    ∙ leads) (
      (λ k d low high. point.0 (suc k) d (omega arith) (omega arith)),
      (λ k d low high. point.1 (suc k) d (omega arith) (omega arith)),
    ) in
    record { within = omega (arith, rest.within); held = λ d. rest.held d; leads = λ d. on ∙ rest.leads d }

-- where arcs lead is one of the states that they name
pub leads_within : (states : ℕ) (arcs : List Arc) (code next : ℕ) → All (λ arc. arc.to < states) arcs
    → target arcs code ≡ Some next → next < states
leads_within states [] code next named leads = absurd (none_some next leads)
leads_within states (arc ∷ arcs) code next named leads =
    by (holds code arc) refl
    (λ on. leads_within states arcs code next (All-tail (λ a. a.to < states) arc arcs named) on)
  where
    by : (b : Bool) → holds code arc ≡ b → (target arcs code ≡ Some next → next < states) → next < states
    by true e rest = let is : Some arc.to ≡ Some next = sym (target_here code arc arcs e) ∙ leads in
        let same : arc.to ≡ next = cc in let low : arc.to < states =
        All-head (λ a. a.to < states) arc arcs named in omega (arith, low, same)
    by false e rest = rest (sym (target_on code arc arcs e) ∙ leads)
