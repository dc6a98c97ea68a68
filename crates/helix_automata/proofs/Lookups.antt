-- The arc that a character takes.
use Rattle.std.proofs.Common.{◌≡◌, ℕ, ◌+◌, ◌<◌, ◌≤◌, true, false, Some, List, length, get_or, inl, inr, ap, arith}
use Rattle.std.proofs.lemmas.Bool.{lt-ltb, le-ltb, ltb-true, ltb-false, cases_lt}
use Rattle.std.proofs.lemmas.List.{get_or_default}
use Rattle.std.specs.List.Sorted.{IsPartitionPoint}
use Rattle.helix_automata.specs.declared.arc.Arc.{Arc}
use Rattle.helix_automata.specs.Automaton.{target}
use Rattle.helix_automata.specs.Shape.{IsCharacter, AreArcs}
use Rattle.helix_automata.specs.Inner.Lookup.{IsFirstReaching}
use Rattle.helix_automata.proofs.Covering.{held}
use Rattle.helix_automata.proofs.Finding.{IsArcAt, ends_below, ends_rise, found}

last_same : (arcs : List Arc) (k : ℕ) (d e : Arc) → k < length arcs → (get_or arcs k d).last ≡ (get_or arcs k e).last
last_same arcs k d e within = ap (λ arc. arc.last) (get_or_default arcs k d e within)

module _ (states : ℕ) (arcs : List Arc) (are : AreArcs states arcs) where
  -- what a binary search finds
  pub from_point : (code at : ℕ) → at ≤ length arcs
      → IsPartitionPoint (λ y. ends_below code y ≡ true) (λ y. ends_below code y ≡ false) arcs at
      → IsFirstReaching arcs code at
  from_point code at within point = record {
    within = within;
    before = λ k d below. ltb-true (get_or arcs k d).last code (point.0 k d (omega arith) below);
    reaching = λ k d from in_arcs. ltb-false (get_or arcs k d).last code (point.1 k d from in_arcs);
  }

  -- what a scan finds
  pub from_scan : (code at : ℕ) (d : Arc) → at < length arcs
      → ((k : ℕ) (e : Arc) → k < at → (get_or arcs k e).last < code)
      → code ≤ (get_or arcs at d).last → IsFirstReaching arcs code at
  from_scan code at d within before reaches = record {
    within = omega (arith, within);
    before = before;
    reaching = λ k e from in_arcs.
        let rise = ends_rise arcs are.in_order are.used at k e from in_arcs in omega
        (arith, rise, reaches, last_same arcs at d e within);
  }

  found_at : (code at : ℕ) → IsCharacter code → IsFirstReaching arcs code at → IsArcAt arcs code at
  found_at code at character is =
      let (next, leads) = are.lead_on code character (omega arith) in
      found arcs code at next are.in_order are.used leads (
        (λ k d low below. lt-ltb (get_or arcs k d).last code (is.before k d below)),
        (λ k d low within. le-ltb (get_or arcs k d).last code (is.reaching k d low within)),
      )

  pub within_at : (code at : ℕ) → IsCharacter code → IsFirstReaching arcs code at → at < length arcs
  within_at code at character is = (found_at code at character is).within

  pub reaches_at : (code at : ℕ) (d : Arc) → IsCharacter code → IsFirstReaching arcs code at
      → code ≤ (get_or arcs at d).last
  reaches_at code at d character is = (held code (get_or arcs at d) ((found_at code at character is).held d)).1

  -- each character from the code to the end of the arc leads where the arc does
  pub leads_at : (code at : ℕ) (d : Arc) → IsCharacter code → IsFirstReaching arcs code at
      → (other : ℕ) → IsCharacter other → code ≤ other → other ≤ (get_or arcs at d).last
      → target arcs other ≡ Some (get_or arcs at d).to
  leads_at code at d character is other other_character low high =
      let within : at < length arcs = within_at code at character is in
      (found_at other at other_character (record {
        within = is.within;
        before = λ k e below. let b = is.before k e below in omega (arith, b, low);
        reaching = λ k e from in_arcs.
            let rise = ends_rise arcs are.in_order are.used at k e from in_arcs in omega
            (arith, rise, high, last_same arcs at d e within);
      })).leads d

-- one more arc that ends below the code
pub before_more : (arcs : List Arc) (code at : ℕ) (d : Arc) → at < length arcs
    → ((k : ℕ) (e : Arc) → k < at → (get_or arcs k e).last < code)
    → (get_or arcs at d).last < code → (k : ℕ) (e : Arc) → k < at + 1 → (get_or arcs k e).last < code
before_more arcs code at d within before ends k e below = elim (cases_lt k at) [
  | inl less ↦ before k e less
  | inr more ↦ (let is : k ≡ at =
      omega (arith, more, below) in omega
      (arith, ends, last_same arcs at d e within, ap (λ j. (get_or arcs j e).last) is))
]
