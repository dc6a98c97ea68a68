-- Where the arcs of a state lead.
use Rattle.std.proofs.Common.{◌≡◌, ℕ, zero, suc, ◌<◌, Bool, true, false, Some, List, [], ◌∷◌, length, get_or, All, AllPairs, refl, sym, ◌∙◌, arith}
use Rattle.std.proofs.lemmas.List.Elements.{All-tail}
use Rattle.helix_automata.specs.declared.arc.Arc.{Arc}
use Rattle.helix_automata.specs.Automaton.{holds, target}
use Rattle.helix_automata.specs.Shape.{AreInOrder, HasCharacter}
use Rattle.helix_automata.proofs.Covering.{held, not_above, target_here, target_on, none_some, order_tail}
use Rattle.helix_automata.proofs.Finding.{begins_above}

-- a code that an arc holds leads to the arc's state
pub leads_at : (arcs : List Arc) (code k : ℕ) (d : Arc) → AreInOrder arcs → All HasCharacter arcs → k < length arcs
    → holds code (get_or arcs k d) ≡ true → target arcs code ≡ Some (get_or arcs k d).to
leads_at [] code k d order used within e = absurd (omega (arith, within))
leads_at (arc ∷ arcs) code zero d order used within e = target_here code arc arcs e
leads_at (arc ∷ arcs) code (suc k) d order used within e =
    let above : arc.last < (get_or arcs k d).first = begins_above (arc ∷ arcs) 0 (suc k) d order used
    (omega arith) within in
    let low = (held code (get_or arcs k d) e).0 in
    target_on code arc arcs (not_above code arc (omega (arith, above, low)))
    ∙ leads_at arcs code k d (order_tail arc arcs order) (All-tail HasCharacter arc arcs used) (omega arith) e

-- where a code leads, some arc that holds it leads
pub arc_to : (arcs : List Arc) (code next : ℕ) → target arcs code ≡ Some next
    → (k : ℕ) × (k < length arcs) × ((d : Arc) → holds code (get_or arcs k d) ≡ true)
    × ((d : Arc) → (get_or arcs k d).to ≡ next)
arc_to [] code next leads = absurd (none_some next leads)
arc_to (arc ∷ arcs) code next leads = by (holds code arc) refl (λ on. arc_to arcs code next on)
  where
    Found : List Arc → Type 0
    Found all = (k : ℕ) × (k < length all) × ((d : Arc) → holds code (get_or all k d) ≡ true)
        × ((d : Arc) → (get_or all k d).to ≡ next)

    by : (b : Bool) → holds code arc ≡ b → (target arcs code ≡ Some next → Found arcs) → Found (arc ∷ arcs)
    by true e more =
        let is : Some arc.to ≡ Some next = sym (target_here code arc arcs e) ∙ leads in
        (0, omega arith, (λ d. e), (λ d. cc))
    by false e more =
        let (k, within, holding, to) = more (sym (target_on code arc arcs e) ∙ leads) in
        (suc k, omega (arith, within), (λ d. holding d), (λ d. to d))

-- arcs in order, each with a character, are in order whichever of them are left out
pub pairs_in_order : (arcs : List Arc) → AreInOrder arcs → All HasCharacter arcs
    → AllPairs (λ one later. one.last < later.first) arcs
pairs_in_order arcs order used i j d less within = begins_above arcs i j d order used less within
