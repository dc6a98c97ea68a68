-- What makes signed atoms quick to test on many cells.
use Rattle.std.specs.Prelude.{◌≡◌, ◌↔◌, ℕ, ◌<◌, Option, Some, List, length, slice_index_or}
use Rattle.std.specs.List.{All, Contains}
use Rattle.helix_automata.specs.Automaton.{Accepts}
use Rattle.helix_automata.specs.Shape.{IsCharacter}
use Rattle.helix_values.specs.declared.cell.Cell.{Cell}
use Rattle.helix_values.specs.declared.cell.Cell.TheVariants as cell
use Rattle.helix_profile.specs.Holds.{Holds, IsTextWith}
use Rattle.helix_domains.specs.Domain.{PassesAtom}
use Rattle.helix_domains.specs.Form.{AreAscending}
use Rattle.helix_domains.specs.declared.atom.SignedAtom.{SignedAtom}
use Rattle.helix_domains.specs.declared.ready.Ready.{Ready}
use Rattle.helix_domains.specs.declared.ready.Ready.TheVariants as ready

-- a text, if the cell is one, has characters of the alphabet alone
abbrev pub HasCharacters : Cell → Type 0
HasCharacters (cell.Text codes) = All IsCharacter codes
HasCharacters other = Unit {0}

-- what was made ready tells of which values an atom's test holds
abbrev pub IsReadyFor : SignedAtom → Ready → Type 0
IsReadyFor signed ready.Plain = Unit {0}
IsReadyFor signed (ready.Members members) = AreAscending members
    × ((v : Cell) → Contains members v ↔ Holds signed.atom.test v)
IsReadyFor signed (ready.Pattern dfa) = (v : Cell) → HasCharacters v
    → IsTextWith (Accepts dfa) v ↔ Holds signed.atom.test v

-- each signed atom has what was made ready for it
pub record AreReady (atoms : List SignedAtom) (ready : List Ready) : Type 0 where
  pub as_many : length ready ≡ length atoms
  pub each : (k : ℕ) (d : SignedAtom) (e : Ready) → k < length atoms
      → IsReadyFor (slice_index_or atoms k d) (slice_index_or ready k e)

-- a value passes the atom that is chosen, if one is
abbrev pub PassesChosen : List SignedAtom → Option ℕ → Cell → Type 0
PassesChosen atoms chosen v = (k : ℕ) (d : SignedAtom) → chosen ≡ Some k → k < length atoms
    → PassesAtom (slice_index_or atoms k d) v
