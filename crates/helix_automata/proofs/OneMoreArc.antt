-- One more arc, from the next character on.
use Rattle.std.proofs.Common.{◌≡◌, ℕ, ◌+◌, ◌<◌, ◌≤◌, inl, inr, Option, Some, None, List, subst, arith}
use Rattle.std.proofs.lemmas.Bool.{cases_lt}
use Rattle.helix_base.specs.Alphabet.{ranges_of}
use Rattle.helix_base.specs.declared.alphabet.Alphabet.TheVariants.{Unicode}
use Rattle.helix_base.specs.Ranges.{IsLeastFrom}
use Rattle.helix_automata.specs.declared.arc.Arc.{Arc}
use Rattle.helix_automata.specs.Automaton.{target}
use Rattle.helix_automata.specs.Shape.{IsCharacter, HasCharacter, AreArcs}
use Rattle.helix_automata.specs.Inner.WithArc.{with_arc}
use Rattle.helix_automata.specs.Inner.Row.{IsNextCharacter, Begun, IsBegun, AreNamed, LeadsMore}
use Rattle.helix_automata.proofs.Covering.{held, held_within}
use Rattle.helix_automata.proofs.WithArcs.{widened, EndsBelow, with_arc-all, with_arc-length, with_arc-in_order, with_arc-keeps, with_arc-new}

module _ (row : List Arc) (wanted after : Option ℕ) (arc : Arc) (begun : IsBegun (record { arcs = row; next = wanted }))
    (is : wanted ≡ Some arc.first) (order : arc.first ≤ arc.last) (next : IsNextCharacter (arc.last + 1) after) where
  least : IsLeastFrom (ranges_of Unicode) begun.bound arc.first
  least = (subst (λ w. IsNextCharacter begun.bound w) is begun.next).some

  leads_new : (code : ℕ) → arc.first ≤ code → code ≤ arc.last → target (with_arc row arc) code ≡ Some arc.to
  leads_new code low high =
      with_arc-new arc begun.bound least.reached row code (held_within code arc low high) begun.ends begun.used

  lead_on : (code : ℕ) → IsCharacter code → code < arc.last + 1 → (state : ℕ)
      × (target (with_arc row arc) code ≡ Some state)
  lead_on code character below = elim (cases_lt code begun.bound) [
    | inl less ↦ (let (state, leads) = begun.lead_on code character less in
        (state, with_arc-keeps arc begun.bound least.reached row code state order begun.ends leads))
    | inr above ↦ (let low = least.least code character above in (arc.to, leads_new code low (omega (arith, below))))
  ]

  pub begun_more : IsBegun (record { arcs = with_arc row arc; next = after })
  begun_more = record {
    bound = arc.last + 1;
    next = next;
    in_order = with_arc-in_order arc begun.bound least.reached row begun.in_order begun.ends;
    used = with_arc-all HasCharacter (λ a. HasCharacter a × EndsBelow begun.bound a) arc
        (arc.first, least.listed, held_within arc.first arc (omega arith) order)
        (λ a q. q.0) (λ a q. let h = held q.0.0 a q.0.2 in let e = q.1 in let b = least.reached in
        (q.0.0, q.0.1, held_within q.0.0 (widened a arc) h.0 (omega (arith, h.1, e, b, order)))) row
        (λ k e below. (begun.used k e below, begun.ends k e below));
    ends = with_arc-all (EndsBelow (arc.last + 1)) (EndsBelow begun.bound) arc (omega arith)
        (λ a q. let b = least.reached in omega (arith, q, b, order)) (λ a q. omega arith) row begun.ends;
    lead_on = lead_on;
  }

  pub leads_more : (old : Begun) → record { arcs = row; next = wanted } ≡ old
      → LeadsMore old arc (record { arcs = with_arc row arc; next = after })
  leads_more old view = subst (λ r. LeadsMore r arc (record { arcs = with_arc row arc; next = after })) view (record {
    next = next;
    keeps = λ code state leads. with_arc-keeps arc begun.bound least.reached row code state order begun.ends leads;
    leads = leads_new;
    named = λ states low named. with_arc-all (λ a. a.to < states) (λ a. a.to < states) arc low (λ a q. q) (λ a q. q) row
        named;
    longer = with_arc-length row arc;
  })

-- all characters are held
pub begun_all : (row : List Arc) (wanted : Option ℕ) → IsBegun (record { arcs = row; next = wanted }) → wanted ≡ None
    → (states : ℕ) → AreNamed states row → AreArcs states row
begun_all row wanted begun none states named = record {
  in_order = begun.in_order;
  lead_on = λ code character low. begun.lead_on code character (elim (cases_lt code begun.bound) [
    | inl less ↦ less
    | inr above ↦ absurd ((subst (λ w. IsNextCharacter begun.bound w) none begun.next).none code character above)
  ]);
  used = begun.used;
  named = named;
}
