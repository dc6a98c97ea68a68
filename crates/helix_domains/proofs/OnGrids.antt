-- The values of a kind on a grid.
use Rattle.std.proofs.Common.{◌≡◌, ◌↔◌, ℕ, ℤ, List, Some, sym, ap, ◌∙◌, subst}
use Rattle.std.specs.List.{All}
use Rattle.helix_grids.specs.Tests.{IsMember, Passes, Tested}
use Rattle.helix_grids.specs.declared.test.GridTest.{GridTest}
use Rattle.helix_ladders.specs.declared.decades.Decades.{Decades}
use Rattle.helix_ladders.specs.declared.calendar_ladder.Calendar.{Calendar}
use Rattle.helix_values.specs.Class.{class_of_kind, numbers, moments}
use Rattle.helix_values.specs.OwnLevel.{own_level}
use Rattle.helix_values.specs.declared.cell.Cell.{Cell}
use Rattle.helix_values.specs.declared.kind.Kind.{Kind}
use Rattle.helix_domains.specs.Domain.{PassesAtom, IsAllowed}
use Rattle.helix_domains.specs.declared.atom.SignedAtom.{SignedAtom}
use Rattle.helix_domains.specs.declared.line.Line.{Line}
use Rattle.helix_domains.specs.declared.line.Line.TheVariants as line
use Rattle.helix_domains.specs.declared.values.Values.TheVariants as values
use Rattle.helix_domains.specs.Inner.Line.{cell_on, ladder_on, IsOnLine}
use Rattle.helix_domains.specs.Inner.Values.{AreValuesOf}
use Rattle.helix_domains.proofs.OfKinds.{allowed_on}

-- the level and the tests of a grid that is known
members_of : (on : Line) (k : Kind) (level grid_level : ℕ) (atoms : List SignedAtom)
    (tests slice grid_tests : List GridTest)
    → slice ≡ tests → grid_level ≡ level → grid_tests ≡ slice
    → ((v : Cell) → IsAllowed k atoms v ↔ IsOnLine on (IsMember (ladder_on on) level tests) v)
    → (v : Cell) → IsAllowed k atoms v ↔ IsOnLine on (IsMember (ladder_on on) grid_level grid_tests) v
members_of on k level grid_level atoms tests slice grid_tests same levels are exact v =
    subst (λ l. IsAllowed k atoms v ↔ IsOnLine on (IsMember (ladder_on on) l grid_tests) v) (sym levels)
    (subst (λ all. IsAllowed k atoms v ↔ IsOnLine on (IsMember (ladder_on on) level all) v) (sym (are ∙ same))
    (exact v))

pub numbers_exact : (k : Kind) (level : ℕ) (atoms : List SignedAtom) (tests slice : List GridTest)
    (grid : Tested Decades)
    → class_of_kind k ≡ numbers → own_level k ≡ Some level
    → ((units : ℤ) → All (λ test. Passes (ladder_on line.Numbers) test units) tests
    ↔ All (λ signed. PassesAtom signed (cell_on line.Numbers units)) atoms) → slice ≡ tests
    → grid ≡ record { scale = grid.scale; level = level; tests = slice }
    → AreValuesOf k atoms (values.Numbers grid)
numbers_exact k level atoms tests slice grid class own exact same is = record {
  in_form = class;
  exact = members_of line.Numbers k level grid.level atoms tests slice grid.tests same (ap (λ g. g.level) is)
      (ap (λ g. g.tests) is) (allowed_on line.Numbers k level class own atoms tests exact);
}

pub moments_exact : (k : Kind) (level : ℕ) (atoms : List SignedAtom) (tests slice : List GridTest)
    (grid : Tested Calendar)
    → class_of_kind k ≡ moments → own_level k ≡ Some level
    → ((units : ℤ) → All (λ test. Passes (ladder_on line.Moments) test units) tests
    ↔ All (λ signed. PassesAtom signed (cell_on line.Moments units)) atoms) → slice ≡ tests
    → grid ≡ record { scale = grid.scale; level = level; tests = slice }
    → AreValuesOf k atoms (values.Moments grid)
moments_exact k level atoms tests slice grid class own exact same is = record {
  in_form = class;
  exact = members_of line.Moments k level grid.level atoms tests slice grid.tests same (ap (λ g. g.level) is)
      (ap (λ g. g.tests) is) (allowed_on line.Moments k level class own atoms tests exact);
}
