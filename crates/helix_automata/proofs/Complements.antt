-- With the other states accepting, the other words are accepted.
use Rattle.std.proofs.Common.{◌≡◌, ◌↔◌, ℕ, ◌<◌, ◌^◌, zero, suc, Bool, true, false, not, Some, List, [], ◌∷◌, map, take, ◌≤◌, All, length, get_or, slice_get, ap, arith, refl, sym, ◌∙◌, subst}
use Rattle.std.proofs.lemmas.List.{length-map, take_all}
use Rattle.std.proofs.lemmas.Option.{same_Some}
use Rattle.std.proofs.lemmas.List.Elements.{All-head, All-tail}
use Rattle.helix_automata.specs.declared.arc.Arc.{Arc}
use Rattle.helix_automata.specs.Automaton.{Automaton, target, arcs_of, AcceptsFrom, Accepts}
use Rattle.helix_automata.specs.Shape.{IsCharacter, AreArcs, IsWellFormed}
use Rattle.helix_automata.proofs.LeadingOn.{moves_on}

same_next : (arcs : List Arc) (code a b : ℕ) → target arcs code ≡ Some a → target arcs code ≡ Some b → a ≡ b
same_next arcs code a b e f = same_Some a b (sym e ∙ f)

other_flag : (flags : List Bool) (k : ℕ) → k < length flags → (slice_get (map not flags) k ≡ Some true)
    ↔ (slice_get flags k ≡ Some true → ⊥)
other_flag [] k within = absurd (omega (arith, within))
other_flag (true ∷ flags) zero within = ((λ e. cc), (λ e. absurd (e refl)))
other_flag (false ∷ flags) zero within = ((λ e f. cc), (λ e. refl))
other_flag (flag ∷ flags) (suc k) within = other_flag flags k (omega (arith, within))

module _ (one other : Automaton) (shape : IsWellFormed one) (same : other.moves ≡ one.moves)
    (flags : other.accepting ≡ map not one.accepting) where
  same_arcs : (state : ℕ) → arcs_of other state ≡ arcs_of one state
  same_arcs state = ap (λ m. get_or m state []) same

  pub accepts_other : (word : List ℕ) → All IsCharacter word → (state : ℕ) → state < length one.moves
      → AcceptsFrom other state word ↔ (AcceptsFrom one state word → ⊥)
  accepts_other [] characters state within =
      let flag = other_flag one.accepting state (omega (arith, within, shape.flags)) in
      let is : slice_get other.accepting state ≡ slice_get (map not one.accepting) state =
      ap (λ l. slice_get l state) flags in
      ((λ e. flag.0 (sym is ∙ e)), (λ e. is ∙ flag.1 e))
  accepts_other (code ∷ word) characters state within =
      let on = moves_on one shape state code within (All-head IsCharacter code word characters) in
      let rest = accepts_other word (All-tail IsCharacter code word characters) on.next on.within in (
        (λ h g. let is : h.0 ≡ on.next =
            same_next (arcs_of one state) code h.0 on.next (sym (ap (λ a. target a code) (same_arcs state)) ∙ h.1)
            on.leads in
            let be : g.0 ≡ on.next = same_next (arcs_of one state) code g.0 on.next g.1 on.leads in
            rest.0 (subst (λ n. AcceptsFrom other n word) is h.2) (subst (λ n. AcceptsFrom one n word) be g.2)),
        (λ h. (on.next, ap (λ a. target a code) (same_arcs state) ∙ on.leads, rest.1 (λ g. h (on.next, on.leads, g)))),
      )

  pub complement_accepts : (word : List ℕ) → All IsCharacter word → Accepts other word ↔ (Accepts one word → ⊥)
  complement_accepts word characters = accepts_other word characters 0 shape.some

  pub complement_shape : IsWellFormed other
  complement_shape = record {
    some = subst (λ m. 0 < length m) (sym same) shape.some;
    few = subst (λ m. length m < 2 ^ 32) (sym same) shape.few;
    flags = ap length flags ∙ (length-map one.accepting not ∙ (shape.flags ∙ ap length (sym same)));
    rows = subst (λ m. All (AreArcs (length m)) m) (sym same) shape.rows;
  }

-- the same, of what the loop over the flags has made
pub complement_of : (moves new_moves : List (List Arc)) (flags new_flags items : List Bool) (count : ℕ)
    (now : Automaton) → record { moves = moves; accepting = flags } ≡ now
    → IsWellFormed (record { moves = moves; accepting = flags }) → new_moves ≡ moves → items ≡ flags
    → new_flags ≡ map not (take count items) → length items ≤ count
    → (word : List ℕ) → All IsCharacter word → Accepts (record { moves = new_moves; accepting = new_flags }) word
    ↔ (Accepts now word → ⊥)
complement_of moves new_moves flags new_flags items count now view shape same is made all word characters =
    let flags_are : new_flags ≡ map not flags = made ∙ ap (λ l. map not l) (take_all count items all ∙ is) in
    let both = complement_accepts (record { moves = moves; accepting = flags })
    (record { moves = new_moves; accepting = new_flags }) shape same flags_are word characters in
    subst (λ a. Accepts (record { moves = new_moves; accepting = new_flags }) word ↔ (Accepts a word → ⊥)) view both
