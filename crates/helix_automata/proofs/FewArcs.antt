-- How many arcs a state has, by a measure that falls at the ends of steps from it.
use Rattle.std.proofs.Common.{◌≡◌, ℕ, ◌+◌, ◌<◌, ◌≤◌, Option, Some, None, List, [], ◌∷◌, ◌++◌, All, length, slice_get, ap, arith, sym, ◌∙◌, subst}
use Rattle.std.proofs.lemmas.Option.{same_Some}
use Rattle.std.proofs.lemmas.List.Elements.{All-nil, All-push}
use Rattle.helix_automata.specs.declared.arc.Arc.{Arc}
use Rattle.helix_automata.specs.Shape.{IsCharacter}
use Rattle.helix_automata.specs.Machine.{FallsAt, EndsAtMost}
use Rattle.helix_automata.specs.Inner.Explore.{KeepTheirNumbers, AreStates, AreFew}
use Rattle.helix_automata.specs.Inner.Row.{IsNextCharacter, Begun, LeadsMore}

-- how much is left from the next character on
abbrev pub left_from : (ℕ → ℕ) → Option ℕ → ℕ
left_from left None = 0
left_from left (Some code) = left code

-- the arcs of a row and what is left are together not above what may be left in the beginning
abbrev pub StaysFew : {S : Type 0} → (S → ℕ → Type 0) → ℕ → List S → Begun → Type 0
StaysFew {S} IsEnd number start row = (state : S) (left : ℕ → ℕ) (most : ℕ) → slice_get start number ≡ Some state
    → FallsAt (IsEnd state) left → ((code : ℕ) → IsCharacter code → left code ≤ most)
    → length row.arcs + left_from left row.next ≤ most

pub few_start : {S : Type 0} (IsEnd : S → ℕ → Type 0) (number : ℕ) (start : List S) (row : Begun) → row.arcs ≡ []
    → IsNextCharacter 0 row.next → StaysFew IsEnd number start row
few_start {S} IsEnd number start row empty next state left most at falls bound = by row.next next
  where
    by : (wanted : Option ℕ) → IsNextCharacter 0 wanted → length row.arcs + left_from left wanted ≤ most
    by None is = omega (arith, ap length empty)
    by (Some code) is = let few = bound code is.some.listed in omega (arith, ap length empty, few)

pub few_more : {S : Type 0} (IsEnd : S → ℕ → Type 0) (number : ℕ) (start states : List S) (row new : Begun) (arc : Arc)
    (now : S) (bound : ℕ) → StaysFew IsEnd number start row → IsNextCharacter bound row.next
    → KeepTheirNumbers start states → slice_get states number ≡ Some now → row.next ≡ Some arc.first
    → arc.first ≤ arc.last → IsEnd now arc.last → LeadsMore row arc new → StaysFew IsEnd number start new
few_more {S} IsEnd number start states row new arc now bound few wanted keeps at_now is order ends led state left most
    at falls low = by new.next led.next
  where
    here : now ≡ state
    here = same_Some now state (sym at_now ∙ keeps number state at)

    first : IsCharacter arc.first
    first = (subst (λ w. IsNextCharacter bound w) is wanted).some.listed

    less : (other : ℕ) → arc.last < other → left other < left arc.first
    less other above = falls arc.last arc.first other (subst (λ s. IsEnd s arc.last) here ends) first order above

    before : length row.arcs + left arc.first ≤ most
    before = subst (λ w. length row.arcs + left_from left w ≤ most) is (few state left most at falls low)

    longer : length new.arcs ≤ length row.arcs + 1
    longer = led.longer

    by : (w : Option ℕ) → IsNextCharacter (arc.last + 1) w → length new.arcs + left_from left w ≤ most
    by None next = let fell = less (arc.last + 1) (omega arith) in omega (arith, fell, before, longer)
    by (Some code) next = let reached = next.some.reached in
        let fell = less code (omega (arith, reached)) in omega (arith, fell, before, longer)

-- no character is left
pub few_all : {S : Type 0} (IsEnd : S → ℕ → Type 0) (number : ℕ) (start : List S) (row : Begun) (arcs : List Arc)
    → StaysFew IsEnd number start row → row.next ≡ None → arcs ≡ row.arcs → AreFew IsEnd start number arcs
few_all IsEnd number start row arcs few none same state left most at falls bound =
    let all = subst (λ w. length row.arcs + left_from left w ≤ most) none (few state left most at falls bound) in
    omega (arith, all, ap length same)

-- what the loop over the states keeps
abbrev pub EachHasFew : {S : Type 0} → (S → Type 0) → (S → ℕ → Type 0) → List (List Arc) → Type 0
EachHasFew {S} IsState IsEnd moves = (most : ℕ) → EndsAtMost IsState IsEnd most → All (λ arcs. length arcs ≤ most) moves

pub each_start : {S : Type 0} (IsState : S → Type 0) (IsEnd : S → ℕ → Type 0) (moves : List (List Arc)) → moves ≡ []
    → EachHasFew IsState IsEnd moves
each_start IsState IsEnd moves empty most bound =
    subst (λ l. All (λ arcs. length arcs ≤ most) l) (sym empty) (All-nil (λ arcs. length arcs ≤ most))

pub each_more : {S : Type 0} (IsState : S → Type 0) (IsEnd : S → ℕ → Type 0) (states : List S) (number : ℕ) (state : S)
    (moves new : List (List Arc)) (row : List Arc) → EachHasFew IsState IsEnd moves → AreStates IsState states
    → slice_get states number ≡ Some state → AreFew IsEnd states number row → new ≡ moves ++ row ∷ []
    → EachHasFew IsState IsEnd new
each_more IsState IsEnd states number state moves new row each are at few is most bound =
    let (left, falls, low) = bound state (are number state at) in
    subst (λ l. All (λ arcs. length arcs ≤ most) l) (sym is)
    (All-push (λ arcs. length arcs ≤ most) moves row (each most bound) (few state left most at falls low))
