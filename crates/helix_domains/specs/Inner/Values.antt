-- The values of a domain, in the form that a question is answered from.
use Rattle.std.specs.Prelude.{◌≡◌, ◌↔◌, ◌≤◌, List}
use Rattle.std.specs.List.{All, Contains}
use Rattle.helix_automata.specs.Automaton.{most_arcs}
use Rattle.helix_grids.specs.Tests.{IsMember}
use Rattle.helix_ladders.specs.Ladders.{numbers_ladder, moments_ladder}
use Rattle.helix_values.specs.Class.{Class, numbers, moments, strings, class_of_kind}
use Rattle.helix_values.specs.Counts.{characters}
use Rattle.helix_values.specs.Slot.{FitsSlot}
use Rattle.helix_values.specs.declared.cell.Cell.{Cell}
use Rattle.helix_values.specs.declared.kind.Kind.{Kind}
use Rattle.helix_words.specs.Words.{IsWordCell}
use Rattle.helix_domains.specs.Domain.{IsAllowed, IsAtomFor}
use Rattle.helix_domains.specs.declared.atom.SignedAtom.{SignedAtom}
use Rattle.helix_domains.specs.declared.line.Line.TheVariants as line
use Rattle.helix_domains.specs.declared.values.Values.{Values}
use Rattle.helix_domains.specs.declared.values.Values.TheVariants as values
use Rattle.helix_domains.specs.Inner.Line.{IsOnLine}
use Rattle.helix_domains.specs.Form.{Form, listed, on_grid, spelt, AreAscending}

-- the form that contracts see
abbrev pub form_of : Values → Form
form_of (values.Listed cells) = listed cells
form_of (values.Numbers grid) = on_grid
form_of (values.Moments grid) = on_grid
form_of (values.Texts words) = spelt words

-- a value is one of them
abbrev pub HasValue : Values → Cell → Type 0
HasValue (values.Listed cells) v = Contains cells v
HasValue (values.Numbers grid) v = IsOnLine line.Numbers (IsMember numbers_ladder grid.level grid.tests) v
HasValue (values.Moments grid) v = IsOnLine line.Moments (IsMember moments_ladder grid.level grid.tests) v
HasValue (values.Texts words) v = IsWordCell words v

-- Their list is in order, and what isn't listed is of the class of a grid or of an automaton. That has words that fit
-- a slot, and at most as many arcs from a state as there are characters.
abbrev pub AreInForm : Class → Values → Type 0
AreInForm class (values.Listed cells) = AreAscending cells × All FitsSlot cells
AreInForm class (values.Numbers grid) = class ≡ numbers
AreInForm class (values.Moments grid) = class ≡ moments
AreInForm class (values.Texts words) = (class ≡ strings) × (words.longest ≤ 1000)
    × (most_arcs words.automaton ≤ characters)

-- the values are those of a kind that pass each signed atom
pub record AreValuesOf (kind : Kind) (atoms : List SignedAtom) (all : Values) : Type 0 where
  pub in_form : AreInForm (class_of_kind kind) all
  pub exact : (v : Cell) → IsAllowed kind atoms v ↔ HasValue all v

-- and the atoms are ones for the kind
pub record IsDomainOf (kind : Kind) (atoms : List SignedAtom) (all : Values) : Type 0 where
  pub fit : All (IsAtomFor kind) atoms
  pub values : AreValuesOf kind atoms all
