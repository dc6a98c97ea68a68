-- Arcs in order lead on from all characters, each arc from one, where one after the other holds the least character
-- that is left.
use Rattle.std.proofs.Common.{◌≡◌, ◌↔◌, ◌⊎◌, inl, inr, ℕ, ◌+◌, ◌<◌, ◌≤◌, Bool, true, false, Option, Some, None, List, [], ◌∷◌, All, is_some, not, length, nat_le, arith, refl, sym, ◌∙◌, subst}
use Rattle.std.proofs.lemmas.Bool.{leb-true, le-leb, and_parts, and_from, cond-true, cond-false, cases_lt}
use Rattle.std.proofs.lemmas.List.Elements.{All-cons, All-head, All-tail, All-nil}
use Rattle.std.specs.Prelude.{IsTrue}
use Rattle.helix_base.specs.Alphabet.{ranges_of}
use Rattle.helix_base.specs.declared.alphabet.Alphabet.TheVariants.{Unicode}
use Rattle.helix_base.specs.Ranges.{IsLeastFrom, EndsBelow}
use Rattle.helix_automata.specs.declared.arc.Arc.{Arc}
use Rattle.helix_automata.specs.Automaton.{holds, target}
use Rattle.helix_automata.specs.Shape.{AreInOrder, HasCharacter, LeadOn}
use Rattle.helix_automata.specs.Inner.Row.{IsNextCharacter}

pub not_true : (b : Bool) → (b ≡ true → ⊥) → b ≡ false
not_true true f = absurd (f refl)
not_true false f = refl

-- what an arc holds
pub held : (code : ℕ) (arc : Arc) → holds code arc ≡ true → (arc.first ≤ code) × (code ≤ arc.last)
held code arc e = let parts =
    and_parts (nat_le arc.first code) (nat_le code arc.last)
    e in (leb-true arc.first code parts.0, leb-true code arc.last parts.1)

pub held_within : (code : ℕ) (arc : Arc) → arc.first ≤ code → code ≤ arc.last → holds code arc ≡ true
held_within code arc low high =
    and_from (nat_le arc.first code) (nat_le code arc.last) (le-leb arc.first code low) (le-leb code arc.last high)

pub not_above : (code : ℕ) (arc : Arc) → arc.last < code → holds code arc ≡ false
not_above code arc above = not_true (holds code arc) (λ e. let h = held code arc e in omega (arith, h.1))

pub not_below : (code : ℕ) (arc : Arc) → code < arc.first → holds code arc ≡ false
not_below code arc below = not_true (holds code arc) (λ e. let h = held code arc e in omega (arith, h.0))

-- where the first arc leads
pub target_here : (code : ℕ) (arc : Arc) (arcs : List Arc) → holds code arc ≡ true
    → target (arc ∷ arcs) code ≡ Some arc.to
target_here code arc arcs e = cond-true (holds code arc) _ _ e

pub target_on : (code : ℕ) (arc : Arc) (arcs : List Arc) → holds code arc ≡ false
    → target (arc ∷ arcs) code ≡ target arcs code
target_on code arc arcs e = cond-false (holds code arc) _ _ e

-- an arc with a character isn't reversed
pub not_reversed : (arc : Arc) → HasCharacter arc → arc.first ≤ arc.last
not_reversed arc (code, character, e) = let h = held code arc e in omega (arith, h.0, h.1)

-- after an arc no arc holds what isn't above it
pub none_after_it : (arc : Arc) (arcs : List Arc) (code : ℕ) → AreInOrder (arc ∷ arcs) → All HasCharacter arcs
    → code ≤ arc.last → target arcs code ≡ None
none_after_it arc [] code order used low = refl
none_after_it arc (next ∷ arcs) code order used low =
    let right : next.first ≤ next.last = not_reversed next (All-head HasCharacter next arcs used) in
    target_on code next arcs (not_below code next (omega (arith, order.0)))
    ∙ none_after_it next arcs code order.1 (All-tail HasCharacter next arcs used) (omega (arith, order.0, right))

pub none_some : {X : Type 0} (x : X) → None ≡ Some x → ⊥
none_some x e = cc

-- what is left of the arcs leads on from what is left of the characters
abbrev pub Covers : ℕ → List Arc → Type 0
Covers bound arcs = LeadOn bound arcs × All HasCharacter arcs

abbrev pub BeginsFrom : ℕ → List Arc → Type 0
BeginsFrom bound [] = Unit {0}
BeginsFrom bound (arc ∷ arcs) = bound ≤ arc.first

-- what a loop over the arcs keeps
pub record Left (arcs rest : List Arc) (wanted : Option ℕ) : Type 0 where
  pub bound : ℕ
  pub next : IsNextCharacter bound wanted
  pub begins : BeginsFrom bound rest
  pub order : AreInOrder rest
  pub same : Covers bound rest ↔ Covers 0 arcs

pub order_tail : (arc : Arc) (arcs : List Arc) → AreInOrder (arc ∷ arcs) → AreInOrder arcs
order_tail arc [] order = tt
order_tail arc (next ∷ arcs) order = order.1

begins_tail : (arc : Arc) (arcs : List Arc) → AreInOrder (arc ∷ arcs) → BeginsFrom (arc.last + 1) arcs
begins_tail arc [] order = tt
begins_tail arc (next ∷ arcs) order = omega (arith, order.0)

module _ (bound : ℕ) (arc : Arc) (rest : List Arc) where
  lead_tail : LeadOn bound (arc ∷ rest) → bound ≤ arc.last + 1 → LeadOn (arc.last + 1) rest
  lead_tail lead low code character above =
      let (next, is) = lead code character
      (omega arith) in (next, sym (target_on code arc rest (not_above code arc (omega arith))) ∙ is)

  lead_by : (b : Bool) (code : ℕ) → holds code arc ≡ b → (b ≡ false → (next : ℕ) × (target rest code ≡ Some next))
      → (next : ℕ) × (target (arc ∷ rest) code ≡ Some next)
  lead_by true code e f = (arc.to, target_here code arc rest e)
  lead_by false code e f = let (next, is) = f refl in (next, target_on code arc rest e ∙ is)

  lead_more : (c : ℕ) → IsLeastFrom (ranges_of Unicode) bound c → arc.first ≤ c → LeadOn (arc.last + 1) rest
      → LeadOn bound (arc ∷ rest)
  lead_more c least low lead code character above =
      lead_by (holds code arc) code refl (λ e. lead code character (by_order e))
    where
      by_order : holds code arc ≡ false → arc.last + 1 ≤ code
      by_order e = let least_is : c ≤ code = least.least code character above in
          elim (cases_lt arc.last code) [
            | inl high ↦ omega (arith, high)
            | inr low_enough ↦ (let t : true ≡ false =
                sym (held_within code arc (omega (arith, low, least_is)) low_enough) ∙ e in cc)
          ]

  -- the arc holds the least character that is left
  pub covers_more : (c : ℕ) → IsLeastFrom (ranges_of Unicode) bound c → arc.first ≤ c → c ≤ arc.last
      → Covers bound (arc ∷ rest) ↔ Covers (arc.last + 1) rest
  covers_more c least low high = (
    (λ h. (lead_tail h.0 (omega (arith, least.reached)), All-tail HasCharacter arc rest h.1)),
    (λ h. (
      lead_more c least low h.0,
      All-cons HasCharacter arc rest (c, least.listed, held_within c arc low high)
          h.1,
    )),
  )

  -- no character is left for the arc
  pub none_left : EndsBelow (ranges_of Unicode) bound → bound ≤ arc.first → ¬ (Covers bound (arc ∷ rest))
  none_left ends begins h = let (code, character, e) = All-head HasCharacter arc rest h.1 in
      let within = held code arc e in ends code character (omega (arith, within.0))

  -- the least character that is left is before the arc
  pub left_out : (c : ℕ) → IsLeastFrom (ranges_of Unicode) bound c → AreInOrder (arc ∷ rest) → c < arc.first
      → ¬ (Covers bound (arc ∷ rest))
  left_out c least order below h =
      let (next, is) = h.0 c least.listed least.reached in
      let right : arc.first ≤ arc.last = not_reversed arc (All-head HasCharacter arc rest h.1) in
      none_some next (sym (target_on c arc rest (not_below c arc below)
      ∙ none_after_it arc rest c order (All-tail HasCharacter arc rest h.1) (omega (arith, right))) ∙ is)

  -- or after it
  pub unused : (c : ℕ) → IsLeastFrom (ranges_of Unicode) bound c → bound ≤ arc.first → arc.last < c
      → ¬ (Covers bound (arc ∷ rest))
  unused c least begins above h = let (code, character, e) = All-head HasCharacter arc rest h.1 in
      let within = held code arc e in
      let least_is : c ≤ code = least.least code character (omega (arith, within.0)) in omega (arith, within.1)

module _ (arcs rest : List Arc) where
  -- before the first arc
  pub left_all : (wanted : Option ℕ) → IsNextCharacter 0 wanted → AreInOrder arcs → Left arcs arcs wanted
  left_all wanted next order =
      record { bound = 0; next = next; begins = begins_at_zero arcs; order = order; same = ((λ h. h), (λ h. h)) }
    where
      begins_at_zero : (l : List Arc) → BeginsFrom 0 l
      begins_at_zero [] = tt
      begins_at_zero (arc ∷ l) = omega arith

  -- after one more
  pub left_more : (arc : Arc) (c : ℕ) (wanted : Option ℕ) → Left arcs (arc ∷ rest) (Some c) → arc.first ≤ c
      → c ≤ arc.last
      → IsNextCharacter (arc.last + 1) wanted → Left arcs rest wanted
  left_more arc c wanted left low high next =
      let more = covers_more left.bound arc rest c left.next.some low high in record {
        bound = arc.last + 1;
        next = next;
        begins = begins_tail arc rest left.order;
        order = order_tail arc rest left.order;
        same = ((λ h. left.same.0 (more.1 h)), (λ h. more.0 (left.same.1 h)));
      }

  -- an arc that doesn't hold the least character that is left
  pub left_none : (arc : Arc) → Left arcs (arc ∷ rest) None → ¬ (Covers 0 arcs)
  left_none arc left h = none_left left.bound arc rest left.next.none left.begins (left.same.1 h)

  pub left_wrong : (arc : Arc) (c : ℕ) → Left arcs (arc ∷ rest) (Some c) → (c < arc.first) ⊎ (arc.last < c)
      → ¬ (Covers 0 arcs)
  left_wrong arc c left (inl below) h = left_out left.bound arc rest c left.next.some left.order below (left.same.1 h)
  left_wrong arc c left (inr above) h = unused left.bound arc rest c left.next.some left.begins above (left.same.1 h)

-- after the last arc
pub left_end : (arcs : List Arc) → Left arcs [] None → Covers 0 arcs
left_end arcs left =
    left.same.0 ((λ code character low. absurd (left.next.none code character low)), All-nil HasCharacter)

pub left_over : (arcs : List Arc) (c : ℕ) → Left arcs [] (Some c) → ¬ (Covers 0 arcs)
left_over arcs c left h = let (next, is) =
    (left.same.1 h).0 c left.next.some.listed left.next.some.reached in none_some next is

pub short_in_order : (arcs : List Arc) → ¬ (2 ≤ length arcs) → AreInOrder arcs
short_in_order [] few = tt
short_in_order (arc ∷ []) few = tt
short_in_order (arc ∷ next ∷ arcs) few = absurd (few (omega arith))

-- after the last arc, no character is left where the arcs lead on from all
pub left_after : (arcs rest : List Arc) (wanted : Option ℕ) (answer : Bool) → rest ≡ [] → is_some wanted ≡ not answer
    → Left arcs rest wanted → IsTrue answer ↔ Covers 0 arcs
left_after arcs rest None true end is left =
    ((λ _. left_end arcs (subst (λ l. Left arcs l None) end left)), (λ _. refl))
left_after arcs rest (Some c) false end is left =
    ((λ e. cc), (λ h. absurd (left_over arcs c (subst (λ l. Left arcs l (Some c)) end left) h)))
left_after arcs rest None false end is left = cc
left_after arcs rest (Some c) true end is left = cc
