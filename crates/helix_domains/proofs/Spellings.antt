-- Texts of a list, read beside a text.
use Rattle.std.proofs.Common.{◌≡◌, ◌↔◌, ℕ, ◌+◌, ◌≤◌, ◌<◌, Option, Some, List, [], ◌∷◌, length, drop, get_or, ◌⊎◌, inl, inr, refl, sym, ap, ◌∙◌, subst, arith}
use Rattle.std.specs.List.{All, Contains, slice_get}
use Rattle.std.proofs.lemmas.Option.{slice_get_within, slice_get-get_or, get_or_from_slice_get}
use Rattle.std.proofs.lemmas.List.{drop_more, length-drop}
use Rattle.std.proofs.Math.ListN.{drop_of_length-le}
use Rattle.std.proofs.lemmas.List.{get_or_default, get_or_past}
use Rattle.std.proofs.lemmas.Bool.{cases_lt}
use Rattle.std.proofs.Common.{IsTrue, Result, Ok, Err, eq-eqb}
use Rattle.std.specs.Prelude.{eqb}
use Rattle.std.specs.Result.{IfOk}
use Rattle.std.proofs.lemmas.Bool.{eqb-true}
use Rattle.helix_base.specs.declared.memory.Memory.{Memory}
use Rattle.helix_automata.specs.Automaton.{Automaton, Accepts}
use Rattle.helix_automata.specs.Shape.{IsCharacter}
use Rattle.helix_values.specs.Slot.{FitsSlot}
use Rattle.helix_values.specs.declared.cell.Cell.{Cell}
use Rattle.helix_values.specs.declared.cell.Cell.TheVariants as cell
use Rattle.helix_domains.specs.Inner.Spelling.{code_in, HasRest, SpellsNone, AreFollowing, next_place}

-- the characters from a place on are the one at the place and those after it
drop_parts : (codes : List ℕ) (place code : ℕ) (rest : List ℕ) → place < length codes → drop place codes ≡ code ∷ rest
    → (slice_get codes place ≡ Some code) × (drop (place + 1) codes ≡ rest)
drop_parts codes place code rest within is =
    let split : get_or codes place 0 ∷ drop (place + 1) codes ≡ code ∷ rest =
    sym (drop_more codes place 0 within) ∙ is in
    let first : get_or codes place 0 ≡ code = cc in
    let others : drop (place + 1) codes ≡ rest = cc in
    (slice_get-get_or codes place 0 within ∙ ap Some first, others)

some_left : (codes : List ℕ) (place code : ℕ) (rest : List ℕ) → drop place codes ≡ code ∷ rest → place < length codes
some_left codes place code rest is = omega (arith, sym (length-drop place codes) ∙ ap length is)

pub rest_parts : (c : Cell) (place code : ℕ) (rest : List ℕ) → HasRest c place (code ∷ rest)
    → (code_in c place ≡ Some code) × HasRest c (place + 1) rest
rest_parts (cell.Text codes) place code rest has =
    let within : place < length codes = some_left codes place code rest has.1 in
    let parts = drop_parts codes place code rest within has.1 in
    (parts.0, (omega arith, parts.1))
rest_parts cell.Null place code rest has = absurd has
rest_parts (cell.Bool truth) place code rest has = absurd has
rest_parts (cell.Number units) place code rest has = absurd has
rest_parts (cell.Moment at) place code rest has = absurd has

pub rest_joined : (c : Cell) (place code : ℕ) (rest : List ℕ) → code_in c place ≡ Some code → HasRest c (place + 1) rest
    → HasRest c place (code ∷ rest)
rest_joined (cell.Text codes) place code rest at has =
    let within : place < length codes = slice_get_within codes place code at in
    let first : get_or codes place 0 ≡ code = get_or_from_slice_get codes place code 0 at in (
      omega arith,
      drop_more codes place 0 within ∙ (ap (λ c. c ∷ drop (place + 1) codes) first
          ∙ ap (λ r. code ∷ r) has.1),
    )
rest_joined cell.Null place code rest at has = absurd has
rest_joined (cell.Bool truth) place code rest at has = absurd has
rest_joined (cell.Number units) place code rest at has = absurd has
rest_joined (cell.Moment at_) place code rest at has = absurd has

-- a character of a text that fits a slot is at one of the first places
pub place_fits : (c : Cell) (place code : ℕ) → FitsSlot c → code_in c place ≡ Some code → place + 1 ≤ 1000
place_fits (cell.Text codes) place code fits at = let within = slice_get_within codes place code at in
    omega (arith, within, fits)
place_fits cell.Null place code fits at = cc
place_fits (cell.Bool truth) place code fits at = cc
place_fits (cell.Number units) place code fits at = cc
place_fits (cell.Moment at_) place code fits at = cc

-- one place on where some number is left
next_is : (place : ℕ) (numbers : List ℕ) (number : ℕ) → Contains numbers number → next_place place numbers ≡ place + 1
next_is place [] number has = absurd (omega (arith, has.1))
next_is place (first ∷ numbers) number has = refl

get_fits : (cells : List Cell) (number : ℕ) → All FitsSlot cells → FitsSlot (get_or cells number cell.Null)
get_fits cells number fit = by (cases_lt number (length cells))
  where
    by : (number < length cells) ⊎ (length cells ≤ number) → FitsSlot (get_or cells number cell.Null)
    by (inl within) = fit number cell.Null within
    by (inr past) = subst FitsSlot (sym (get_or_past cells number cell.Null past)) tt

module _ (cells : List Cell) (place : ℕ) (numbers next : List ℕ) (first last : ℕ)
    (follow : AreFollowing cells place numbers first next)
    (alike : (other : ℕ) → first ≤ other → other ≤ last → (number : ℕ) → Contains numbers number
    → (code_in (get_or cells number cell.Null) place ≡ Some other)
    ↔ (code_in (get_or cells number cell.Null) place ≡ Some first)) where
  -- what is spelled after one character more
  pub leads_on : (code : ℕ) → first ≤ code → code ≤ last → (word : List ℕ)
      → SpellsNone cells (next_place place next) next word ↔ SpellsNone cells place numbers (code ∷ word)
  leads_on code low high word = (
    (λ none number has rest.
        let parts = rest_parts (get_or cells number cell.Null) place code word rest in
        let listed : Contains next number = (follow number).1 (has, (alike code low high number has).0 parts.0) in
        none number listed (subst (λ p. HasRest (get_or cells number cell.Null) p word)
        (sym (next_is place next number listed)) parts.1)),
    (λ none number listed rest.
        let was = (follow number).0 listed in
        none number was.0 (rest_joined (get_or cells number cell.Null) place code word
        ((alike code low high number was.0).1 was.1)
        (subst (λ p. HasRest (get_or cells number cell.Null) p word) (next_is place next number listed) rest))),
  )

  pub place_within : All FitsSlot cells → next_place place next ≤ 1000
  place_within fit = by next refl
    where
      by : (left : List ℕ) → next ≡ left → next_place place left ≤ 1000
      by [] is = omega arith
      by (number ∷ left) is =
          let has : Contains next number = subst (λ l. Contains l number) (sym is) (0, omega arith, refl) in
          place_fits (get_or cells number cell.Null) place first (get_fits cells number fit) ((follow number).0 has).1

-- from the start on nothing of a list is spelled exactly where a text isn't on it
pub spelled : (cells : List Cell) (numbers : List ℕ) → ((number : ℕ) → number < length cells → Contains numbers number)
    → (word : List ℕ) → SpellsNone cells 0 numbers word ↔ (¬ Contains cells (cell.Text word))
spelled cells numbers all word = (
  (λ none has. none has.0 (all has.0 has.1)
      (subst (λ c. HasRest c 0 word) (sym (get_or_default cells has.0 cell.Null (cell.Text word) has.1 ∙ has.2))
      (omega arith, refl))),
  (λ missing number has rest. by number (cases_lt number (length cells)) (get_or cells number cell.Null) refl rest
      missing),
)
  where
    by : (number : ℕ) → (number < length cells) ⊎ (length cells ≤ number) → (c : Cell)
        → get_or cells number cell.Null ≡ c → HasRest (get_or cells number cell.Null) 0 word
        → ¬ Contains cells (cell.Text word) → ⊥
    by number (inr past) c is rest missing =
        absurd (subst (λ d. HasRest d 0 word) (get_or_past cells number cell.Null past) rest)
    by number (inl within) c is rest missing =
        missing (
          number,
          within,
          get_or_default cells number (cell.Text word) cell.Null within
              ∙ same (get_or cells number cell.Null) rest,
        )
      where
        same : (d : Cell) → HasRest d 0 word → d ≡ cell.Text word
        same (cell.Text codes) has = ap cell.Text has.1
        same cell.Null has = absurd has
        same (cell.Bool truth) has = absurd has
        same (cell.Number units) has = absurd has
        same (cell.Moment at) has = absurd has

-- a text ends at a place where it is as long
pub ends : (codes : List ℕ) (place : ℕ) → (length codes ≡ place) ↔ HasRest (cell.Text codes) place []
ends codes place = (
  (λ same. (omega (arith, same), drop_of_length-le codes (omega (arith, same)))),
  (λ has. let none = ap length has.1 in omega (arith, has.0, sym (length-drop place codes) ∙ none)),
)

-- a test of a text's length
pub ends_test : (c : Cell) (text codes : List ℕ) (place : ℕ) → c ≡ cell.Text text → codes ≡ text
    → IsTrue (eqb (length codes) place) ↔ HasRest c place []
ends_test c text codes place is same =
    subst (λ d. IsTrue (eqb (length codes) place) ↔ HasRest d place []) (sym is)
    (subst (λ l. IsTrue (eqb (length l) place) ↔ HasRest (cell.Text text) place []) (sym same) (
      (λ test. (ends text place).0 (eqb-true (length text) place test)),
      (λ has. eq-eqb (length text) place ((ends text place).1 has)),
    ))

-- a step of the machine, in the lists that code sees
module _ (cells : List Cell) (place : ℕ) (numbers slice next next_slice : List ℕ) (first last after : ℕ)
    (same : slice ≡ numbers) (next_same : next_slice ≡ next) (at : after ≡ next_place place next_slice)
    (follow : AreFollowing cells place slice first next)
    (alike : (other : ℕ) → first ≤ other → other ≤ last → (number : ℕ) → Contains slice number
    → (code_in (get_or cells number cell.Null) place ≡ Some other)
    ↔ (code_in (get_or cells number cell.Null) place ≡ Some first)) where
  is_after : next_place place next ≡ after
  is_after = sym (at ∙ ap (next_place place) next_same)

  pub steps_on : (code : ℕ) → first ≤ code → code ≤ last → (word : List ℕ)
      → SpellsNone cells after next word ↔ SpellsNone cells place numbers (code ∷ word)
  steps_on code low high word =
      subst (λ p. SpellsNone cells p next word ↔ SpellsNone cells place numbers (code ∷ word)) is_after
      (subst (λ l. SpellsNone cells (next_place place next) next word ↔ SpellsNone cells place l (code ∷ word)) same
      (leads_on cells place slice next first last follow alike code low high word))

  pub stays_short : All FitsSlot cells → after ≤ 1000
  stays_short fit = subst (λ p. p ≤ 1000) is_after (place_within cells place slice next first last follow alike fit)

-- the automaton of all others
pub spelled_ok : (cells : List Cell) (numbers : List ℕ) (result : Result Automaton Memory)
    → ((number : ℕ) → number < length cells → Contains numbers number)
    → IfOk result (λ dfa. (word : List ℕ) → All IsCharacter word → Accepts dfa word ↔ SpellsNone cells 0 numbers word)
    → IfOk result (λ dfa. (word : List ℕ) → All IsCharacter word → Accepts dfa word
    ↔ (¬ Contains cells (cell.Text word)))
spelled_ok cells numbers (Err e) all exact = tt
spelled_ok cells numbers (Ok dfa) all exact = λ word characters.
    let law = spelled cells numbers all word in
    ((λ accepts. law.0 ((exact word characters).0 accepts)), (λ not. (exact word characters).1 (law.1 not)))
