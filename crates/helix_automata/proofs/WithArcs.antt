-- What one more arc after others gives.
use Rattle.std.proofs.Common.{◌≡◌, ◌≢◌, ℕ, ◌+◌, ◌-◌, ◌<◌, ◌≤◌, zero, suc, Bool, true, false, ◌==◌, Some, List, [], ◌∷◌, ◌++◌, All, length, get_or, set, cond, arith, refl, sym, ◌∙◌, ap}
use Rattle.std.proofs.lemmas.Bool.{cond-true, cond-false, eq-eqb, eqb-true}
use Rattle.std.proofs.lemmas.List.{get_or_default}
use Rattle.helix_automata.specs.declared.arc.Arc.{Arc}
use Rattle.helix_automata.specs.Inner.WithArc.{with_arc}
use Rattle.std.proofs.lemmas.List.Elements.{All-cons, All-head, All-tail, All-nil}
use Rattle.helix_automata.specs.Automaton.{holds, target}
use Rattle.helix_automata.specs.Shape.{AreInOrder, HasCharacter}
use Rattle.helix_automata.proofs.Covering.{not_true, held, held_within, not_above, not_reversed, target_here, target_on, none_some}

-- the arc that two arcs make
abbrev pub widened : Arc → Arc → Arc
widened arc item = record { first = arc.first; last = item.last; to = arc.to }

pub with_arc-same : (arcs : List Arc) (item : Arc) (at : ℕ) (d : Arc) → suc at ≡ length arcs
    → (get_or arcs at d).to ≡ item.to → set arcs at (widened (get_or arcs at d) item) ≡ with_arc arcs item
with_arc-same [] item at d is same = absurd (omega (arith, is))
with_arc-same (arc ∷ []) item zero d is same = sym (cond-true (arc.to == item.to) _ _ (eq-eqb arc.to item.to same))
with_arc-same (arc ∷ []) item (suc at) d is same = absurd (omega (arith, is))
with_arc-same (arc ∷ next ∷ arcs) item zero d is same = absurd (omega (arith, is))
with_arc-same (arc ∷ next ∷ arcs) item (suc at) d is same =
    ap (λ l. arc ∷ l) (with_arc-same (next ∷ arcs) item at d (omega (arith, is)) same)

pub with_arc-other : (arcs : List Arc) (item : Arc) (at : ℕ) (d : Arc) → suc at ≡ length arcs
    → (get_or arcs at d).to ≢ item.to → arcs ++ item ∷ [] ≡ with_arc arcs item
with_arc-other [] item at d is other = absurd (omega (arith, is))
with_arc-other (arc ∷ []) item zero d is other =
    sym (cond-false (arc.to == item.to) _ _ (not_true (arc.to == item.to) (λ e. other (eqb-true arc.to item.to e))))
with_arc-other (arc ∷ []) item (suc at) d is other = absurd (omega (arith, is))
with_arc-other (arc ∷ next ∷ arcs) item zero d is other = absurd (omega (arith, is))
with_arc-other (arc ∷ next ∷ arcs) item (suc at) d is other =
    ap (λ l. arc ∷ l) (with_arc-other (next ∷ arcs) item at d (omega (arith, is)) other)

-- the same, of a list whose last arc was read
module _ (arcs now : List Arc) (item : Arc) (count : ℕ) (view : arcs ≡ now) (is : count ≡ length arcs) where
  pub extended_at : (read write d : Arc) → 0 < count → read ≡ get_or arcs (count - 1) read
      → write ≡ get_or arcs (count - 1) d → read.to ≡ item.to
      → set arcs (count - 1) (widened write item) ≡ with_arc now item
  extended_at read write d some read_is write_is same =
      let write_same : write ≡ get_or arcs (count - 1) read = write_is
      ∙ get_or_default arcs (count - 1) d read (omega (arith, is, some)) in
      ap (λ w. set arcs (count - 1) (widened w item)) write_same
      ∙ (with_arc-same arcs item (count - 1) read (omega (arith, is, some)) (sym (ap (λ a. a.to) read_is) ∙ same)
      ∙ ap (λ l. with_arc l item) view)

  pub pushed_at : (read : Arc) → 0 < count → read ≡ get_or arcs (count - 1) read → read.to ≢ item.to → arcs
      ++ item ∷ [] ≡ with_arc now item
  pushed_at read some read_is other =
      with_arc-other arcs item (count - 1) read (omega (arith, is, some)) (λ e. other (ap (λ a. a.to) read_is ∙ e))
      ∙ ap (λ l. with_arc l item) view

  pub pushed_first : count ≤ 0 → arcs ++ item ∷ [] ≡ with_arc now item
  pushed_first none = first arcs (omega (arith, is, none)) ∙ ap (λ l. with_arc l item) view
    where
      first : (l : List Arc) → length l ≡ 0 → l ++ item ∷ [] ≡ with_arc l item
      first [] e = refl
      first (arc ∷ l) e = absurd (omega (arith, e))

-- each arc of the longer list has what it takes from an old one, a widened one or the new one
pub with_arc-all : (P Q : Arc → Type 0) (item : Arc) → P item → ((arc : Arc) → Q arc → P arc)
    → ((arc : Arc) → Q arc → P (widened arc item))
    → (arcs : List Arc) → All Q arcs → All P (with_arc arcs item)
with_arc-all P Q item new old wide [] all = All-cons P item [] new (All-nil P)
with_arc-all P Q item new old wide (arc ∷ []) all = by (arc.to == item.to)
  where
    by : (b : Bool) → All P (cond b (widened arc item ∷ []) (arc ∷ item ∷ []))
    by true = All-cons P (widened arc item) [] (wide arc (All-head Q arc [] all)) (All-nil P)
    by false = All-cons P arc (item ∷ []) (old arc (All-head Q arc [] all)) (All-cons P item [] new (All-nil P))
with_arc-all P Q item new old wide (arc ∷ next ∷ arcs) all =
    All-cons P arc (with_arc (next ∷ arcs) item) (old arc (All-head Q arc (next ∷ arcs) all))
    (with_arc-all P Q item new old wide (next ∷ arcs) (All-tail Q arc (next ∷ arcs) all))

-- there is at most one more arc
pub with_arc-length : (arcs : List Arc) (item : Arc) → length (with_arc arcs item) ≤ length arcs + 1
with_arc-length [] item = omega arith
with_arc-length (arc ∷ []) item = by (arc.to == item.to)
  where
    by : (b : Bool) → length (cond b (widened arc item ∷ []) (arc ∷ item ∷ [])) ≤ length (arc ∷ []) + 1
    by true = omega arith
    by false = omega arith
with_arc-length (arc ∷ next ∷ arcs) item = let rest = with_arc-length (next ∷ arcs) item in omega (arith, rest)

abbrev pub EndsBelow : ℕ → Arc → Type 0
EndsBelow bound arc = arc.last < bound

-- the first arc keeps its beginning
abbrev Begins : ℕ → List Arc → Type 0
Begins first [] = ⊥
Begins first (arc ∷ arcs) = arc.first ≡ first

with_arc-begins : (arc : Arc) (arcs : List Arc) (item : Arc) → Begins arc.first (with_arc (arc ∷ arcs) item)
with_arc-begins arc [] item = by (arc.to == item.to)
  where
    by : (b : Bool) → Begins arc.first (cond b (widened arc item ∷ []) (arc ∷ item ∷ []))
    by true = refl
    by false = refl
with_arc-begins arc (next ∷ arcs) item = refl

order_before : (arc : Arc) (first : ℕ) (arcs : List Arc) → arc.last < first → Begins first arcs → AreInOrder arcs
    → AreInOrder (arc ∷ arcs)
order_before arc first [] less begins order = tt
order_before arc first (next ∷ arcs) less begins order = (omega (arith, less, begins), order)

module _ (item : Arc) (bound : ℕ) (above : bound ≤ item.first) where
  pub with_arc-in_order : (arcs : List Arc) → AreInOrder arcs → All (EndsBelow bound) arcs
      → AreInOrder (with_arc arcs item)
  with_arc-in_order [] order ends = tt
  with_arc-in_order (arc ∷ []) order ends = by (arc.to == item.to)
    where
      by : (b : Bool) → AreInOrder (cond b (widened arc item ∷ []) (arc ∷ item ∷ []))
      by true = tt
      by false = let less : arc.last < bound =
          All-head (EndsBelow bound) arc [] ends in (omega (arith, less, above), tt)
  with_arc-in_order (arc ∷ next ∷ arcs) order ends =
      order_before arc next.first (with_arc (next ∷ arcs) item) order.0 (with_arc-begins next arcs item)
      (with_arc-in_order (next ∷ arcs) order.1 (All-tail (EndsBelow bound) arc (next ∷ arcs) ends))

  -- what the old arcs hold leads where it led
  pub with_arc-keeps : (arcs : List Arc) (code to : ℕ) → item.first ≤ item.last → All (EndsBelow bound) arcs
      → target arcs code ≡ Some to → target (with_arc arcs item) code ≡ Some to
  with_arc-keeps [] code to right ends leads = absurd (none_some to leads)
  with_arc-keeps (arc ∷ []) code to right ends leads = by (holds code arc) refl (arc.to == item.to)
    where
      by : (h : Bool) → holds code arc ≡ h → (b : Bool)
          → target (cond b (widened arc item ∷ []) (arc ∷ item ∷ [])) code ≡ Some to
      by false e b = absurd (none_some to (sym (target_on code arc [] e) ∙ leads))
      by true e true = let within = held code arc e in let less : arc.last < bound =
          All-head (EndsBelow bound) arc [] ends in
          target_here code (widened arc item) []
          (held_within code (widened arc item) within.0 (omega (arith, within.1, less, above, right)))
          ∙ (sym (target_here code arc [] e) ∙ leads)
      by true e false = target_here code arc (item ∷ []) e ∙ (sym (target_here code arc [] e) ∙ leads)
  with_arc-keeps (arc ∷ next ∷ arcs) code to right ends leads =
      by (holds code arc) refl
      (λ on. with_arc-keeps (next ∷ arcs) code to right (All-tail (EndsBelow bound) arc (next ∷ arcs) ends) on)
    where
      by : (h : Bool) → holds code arc ≡ h
          → (target (next ∷ arcs) code ≡ Some to → target (with_arc (next ∷ arcs) item) code ≡ Some to)
          → target (arc ∷ with_arc (next ∷ arcs) item) code ≡ Some to
      by true e more = target_here code arc (with_arc (next ∷ arcs) item) e
          ∙ (sym (target_here code arc (next ∷ arcs) e) ∙ leads)
      by false e more = target_on code arc (with_arc (next ∷ arcs) item) e
          ∙ more (sym (target_on code arc (next ∷ arcs) e) ∙ leads)

  -- and what the new one holds leads where it leads
  pub with_arc-new : (arcs : List Arc) (code : ℕ) → holds code item ≡ true → All (EndsBelow bound) arcs
      → All HasCharacter arcs → target (with_arc arcs item) code ≡ Some item.to
  with_arc-new [] code new ends used = target_here code item [] new
  with_arc-new (arc ∷ []) code new ends used = by (arc.to == item.to) refl
    where
      less : arc.last < bound
      less = All-head (EndsBelow bound) arc [] ends

      by : (b : Bool) → (arc.to == item.to) ≡ b
          → target (cond b (widened arc item ∷ []) (arc ∷ item ∷ [])) code ≡ Some item.to
      by true e = let within = held code item new in let right = not_reversed arc (All-head HasCharacter arc [] used) in
          target_here code (widened arc item) []
          (held_within code (widened arc item) (omega (arith, within.0, right, less, above)) within.1)
          ∙ ap (λ to. Some to) (eqb-true arc.to item.to e)
      by false e = let within =
          held code item new in target_on code arc (item ∷ [])
          (not_above code arc (omega (arith, within.0, less, above))) ∙ target_here code item [] new
  with_arc-new (arc ∷ next ∷ arcs) code new ends used =
      let less : arc.last < bound = All-head (EndsBelow bound) arc (next ∷ arcs) ends in
      let within = held code item new in
      target_on code arc (with_arc (next ∷ arcs) item) (not_above code arc (omega (arith, within.0, less, above)))
      ∙ with_arc-new (next ∷ arcs) code new (All-tail (EndsBelow bound) arc (next ∷ arcs) ends)
      (All-tail HasCharacter arc (next ∷ arcs) used)
