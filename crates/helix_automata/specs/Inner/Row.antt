-- The arcs of a state while they are made, from the least character to the greatest.
use Rattle.std.specs.Prelude.{◌≡◌, ℕ, ◌+◌, ◌<◌, ◌≤◌, Option, Some, IfSome, IfNone, List, All, length}
use Rattle.helix_base.specs.Alphabet.{ranges_of}
use Rattle.helix_base.specs.declared.alphabet.Alphabet.TheVariants.{Unicode}
use Rattle.helix_base.specs.Ranges.{IsLeastFrom, EndsBelow}
use Rattle.helix_automata.specs.declared.arc.Arc.{Arc}
use Rattle.helix_automata.specs.Automaton.{target}
use Rattle.helix_automata.specs.Shape.{IsCharacter, AreInOrder, HasCharacter}

-- the least character that isn't below a bound, if there is one
pub record IsNextCharacter (bound : ℕ) (next : Option ℕ) : Type 0 where
  pub some : IfSome next (IsLeastFrom (ranges_of Unicode) bound)
  pub none : IfNone next (EndsBelow (ranges_of Unicode) bound)

-- some arcs, and the least character that they don't hold, if there is one
pub record Begun : Type 0 where
  pub arcs : List Arc
  pub next : Option ℕ

-- the arcs hold all characters below a bound and no code from it on, and the next character is the least one from it on
pub record IsBegun (row : Begun) : Type 0 where
  pub bound : ℕ
  pub next : IsNextCharacter bound row.next
  pub in_order : AreInOrder row.arcs
  pub used : All HasCharacter row.arcs
  pub ends : All (λ arc. arc.last < bound) row.arcs
  pub lead_on : (code : ℕ) → IsCharacter code → code < bound → (state : ℕ) × (target row.arcs code ≡ Some state)

-- each arc leads to one of n states
abbrev pub AreNamed : ℕ → List Arc → Type 0
AreNamed states arcs = All (λ arc. arc.to < states) arcs

-- the codes of an arc lead where it leads, and the other ones where they led
pub record LeadsMore (old : Begun) (arc : Arc) (new : Begun) : Type 0 where
  pub next : IsNextCharacter (arc.last + 1) new.next
  pub keeps : (code state : ℕ) → target old.arcs code ≡ Some state → target new.arcs code ≡ Some state
  pub leads : (code : ℕ) → arc.first ≤ code → code ≤ arc.last → target new.arcs code ≡ Some arc.to
  pub named : (states : ℕ) → arc.to < states → AreNamed states old.arcs → AreNamed states new.arcs
  pub longer : length new.arcs ≤ length old.arcs + 1
