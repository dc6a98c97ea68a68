use Rattle.std.proofs.Common.{◌≡◌, ◌≤◌, ◌∷◌, ◌+◌, ℕ, List, Option, None, Some, inl, inr, drop, drop-cons, get_or, length, suc, subst, arith}
use Rattle.std.proofs.Math.ListN.{drop_of_length-le}
use Rattle.helix_automata.specs.declared.arc.Arc.{Arc}
use Rattle.helix_automata.proofs.Covering.{Left, left_none, left_wrong, left_more, left_after}
use Rattle.helix_automata.proofs.shape.hold_characters.Goals as goal
use Rattle.helix_automata.proofs.shape.hold_characters.Goals.{then-character-arc-via-then-character-arc, then-character-arc-via-else-character-arc+then-arc-character}

abbrev none : Arc
none = record { first = 0; last = 0; to = 0 }

-- what is left begins with the arc at hand
split : (arcs : List Arc) (at : ℕ) (wanted is : Option ℕ) → suc at ≤ length arcs → wanted ≡ is
    → Left arcs (drop at arcs) wanted → Left arcs (get_or arcs at none ∷ drop (suc at) arcs) is
split arcs at wanted is within same left =
    subst (λ w. Left arcs (get_or arcs at none ∷ drop (suc at) arcs) w) same
    (subst (λ l. Left arcs l wanted) (drop-cons arcs at none within) left)

pub returns-in_default : goal.returns-in_default
returns-in_default c = (
  (λ e. cc),
  (λ h. absurd (left_none c.args.arcs.now (drop (suc c.loop-arc.arc-index) c.args.arcs.now) _
      (split c.args.arcs.now c.loop-arc.arc-index c.loop-arc.wanted None c.loop-arc-test.true c.in_default.is
      c.loop-arc.invariant) h)),
)

pub returns-then-character-arc : goal.returns-then-character-arc
returns-then-character-arc c =
    let left = split c.args.arcs.now c.loop-arc.arc-index c.loop-arc.wanted (Some c.in-Some.character)
    c.loop-arc-test.true c.in-Some.is c.loop-arc.invariant in (
      (λ e. cc),
      (λ h. absurd (elim c.then-character-arc.branch [
        | then-character-arc-via-then-character-arc w ↦ left_wrong c.args.arcs.now _ _ c.in-Some.character left
            (inl w.if-character-arc.true) h
        | then-character-arc-via-else-character-arc+then-arc-character w ↦ left_wrong c.args.arcs.now
            _ _ c.in-Some.character left (inr w.if-arc-character.true) h
      ])),
    )

pub loop-arc-preserved : goal.loop-arc-preserved
loop-arc-preserved c =
    let at = c.loop-arc.arc-index in
    let left = split c.args.arcs.now at c.loop-arc.wanted (Some c.in-Some.character) c.loop-arc-test.true c.in-Some.is
    c.loop-arc.invariant in
    let next : suc at ≡ at + 1 = omega arith in
    subst (λ k. Left c.args.arcs.now (drop k c.args.arcs.now) c.character_above-wanted.result) next
    (left_more c.args.arcs.now (drop (suc at) c.args.arcs.now) (get_or c.args.arcs.now at none) c.in-Some.character
    c.character_above-wanted.result left
    (omega (arith, c.if-character-arc.false)) (omega (arith, c.if-arc-character.false))
    c.character_above-wanted.ensures)

pub returns : goal.returns
returns c = left_after c.args.arcs.now (drop c.loop-arc.arc-index c.args.arcs.now) c.loop-arc.wanted c.is_none.result
    (drop_of_length-le c.args.arcs.now (omega (arith, c.loop-arc-test.false))) c.is_none.ensures c.loop-arc.invariant
