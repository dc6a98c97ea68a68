-- The members of a grid, in the form that a question is answered from.
use Rattle.std.specs.Prelude.{◌≡◌, ◌↔◌, ℕ, ℤ, List, length}
use Rattle.std.specs.List.{Contains}
use Rattle.helix_ladders.specs.Scale.{Ladder}
use Rattle.helix_grids.specs.declared.test.GridTest.{GridTest}
use Rattle.helix_grids.specs.declared.window.Window.{Window}
use Rattle.helix_grids.specs.declared.members.Shortlist.{Shortlist}
use Rattle.helix_grids.specs.declared.members.Sieve.{Sieve}
use Rattle.helix_grids.specs.declared.members.Members.{Members}
use Rattle.helix_grids.specs.declared.members.Members.TheVariants as members
use Rattle.helix_grids.specs.Tests.{IsMember}
use Rattle.helix_grids.specs.Inner.Window.{IsInWindow, IsWindowOf}
use Rattle.helix_grids.specs.Inner.Sieve.{AreAscending, IsSifted, AreNext}

-- a value is one of the members
abbrev pub HasMember : Ladder → Members → ℤ → Type 0
HasMember ladder (members.Listed list) v = Contains list.members.items v
HasMember ladder (members.Sifted sieve) v = IsSifted ladder sieve.window sieve.excluded.items v

-- the window that the members lie in
abbrev pub window_of : Members → Window
window_of (members.Listed list) = list.window
window_of (members.Sifted sieve) = sieve.window

-- values in order that lie in a window of the ladder
pub record IsShortlistOf (ladder : Ladder) (list : Shortlist) : Type 0 where
  pub window : IsWindowOf ladder list.window
  pub ascending : AreAscending list.members.items
  pub within : (v : ℤ) → Contains list.members.items v → IsInWindow ladder list.window v

-- a window of the ladder, excluded values in order, and to each of them the least member above it
pub record IsSieveOf (ladder : Ladder) (sieve : Sieve) : Type 0 where
  pub window : IsWindowOf ladder sieve.window
  pub ascending : AreAscending sieve.excluded.items
  pub same_length : length sieve.next.items ≡ length sieve.excluded.items
  pub next : (bound : ℤ) → AreNext ladder sieve.window sieve.excluded.items sieve.next.items bound

-- the lists of the members are as they should be
abbrev pub AreInForm : Ladder → Members → Type 0
AreInForm ladder (members.Listed list) = IsShortlistOf ladder list
AreInForm ladder (members.Sifted sieve) = IsSieveOf ladder sieve

-- the members are the values of a level that pass the tests
pub record AreMembersOf (ladder : Ladder) (level : ℕ) (tests : List GridTest) (all : Members) : Type 0 where
  pub in_form : AreInForm ladder all
  pub exact : (v : ℤ) → IsMember ladder level tests v ↔ HasMember ladder all v
