-- The values of a kind, on a line and in a slot.
use Rattle.std.proofs.Common.{◌≡◌, ◌↔◌, ℕ, ℤ, ◌≤ℤ◌, List, Some, refl, sym, ap, ◌∙◌, subst}
use Rattle.std.specs.List.{All}
use Rattle.helix_grids.specs.Tests.{IsMember, Passes}
use Rattle.helix_grids.specs.declared.test.GridTest.{GridTest}
use Rattle.helix_values.proofs.ClassLaws.{class_of_value}
use Rattle.helix_values.proofs.OwnLevels.{on_own_level}
use Rattle.helix_values.specs.Class.{Class, class_of, class_of_kind}
use Rattle.helix_values.specs.Counts.{widest_kind, IsMarkBound}
use Rattle.helix_values.specs.OnGrid.{IsOnGrid}
use Rattle.helix_values.specs.OwnLevel.{own_level}
use Rattle.helix_values.specs.Slot.{FitsSlot}
use Rattle.helix_values.specs.Universe.{InUniverse}
use Rattle.helix_values.specs.UniverseLaws.{in_widest}
use Rattle.helix_values.specs.declared.cell.Cell.{Cell}
use Rattle.helix_values.specs.declared.cell.Cell.TheVariants as cell
use Rattle.helix_values.specs.declared.kind.Kind.{Kind}
use Rattle.helix_values.specs.declared.kind.Kind.TheVariants as kind
use Rattle.helix_domains.specs.Domain.{PassesAtom, IsAllowed}
use Rattle.helix_domains.specs.declared.atom.SignedAtom.{SignedAtom}
use Rattle.helix_domains.specs.declared.line.Line.{Line}
use Rattle.helix_domains.specs.declared.line.Line.TheVariants.{Numbers, Moments}
use Rattle.helix_domains.specs.Inner.Line.{cell_on, class_on, ladder_on, IsOnLine}
use Rattle.helix_domains.proofs.OnLines.{from_line, to_line}

-- a value of a kind fits a slot
pub fits_slot : (k : Kind) (v : Cell) → InUniverse k v → FitsSlot v
fits_slot k cell.Null within = tt
fits_slot k (cell.Bool truth) within = tt
fits_slot k (cell.Number units) within = tt
fits_slot k (cell.Moment at) within = tt
fits_slot (kind.Text alphabet) (cell.Text codes) within = within.0
fits_slot (kind.Code code) (cell.Text codes) within = (in_widest (kind.Code code) (cell.Text codes) within).0
fits_slot kind.Boolean (cell.Text codes) within = absurd within
fits_slot kind.Integer (cell.Text codes) within = absurd within
fits_slot kind.Decimal (cell.Text codes) within = absurd within
fits_slot kind.Date (cell.Text codes) within = absurd within
fits_slot kind.DateTime (cell.Text codes) within = absurd within

module _ (line : Line) (k : Kind) (level : ℕ) (class : class_of_kind k ≡ class_on line) (own : own_level k ≡ Some level)
  where
    -- the widest universe of the line's class that is on a level
    in_range : (c : Class) → c ≡ class_on line → (units : ℤ)
        → (InUniverse (widest_kind c) (cell_on line units) × IsOnGrid level (cell_on line units))
        ↔ (((ladder_on line).low ≤ℤ units) × (units ≤ℤ (ladder_on line).high) × (ladder_on line).IsOn level units)
    in_range c is units = subst (λ d. (InUniverse (widest_kind d) (cell_on line units)
        × IsOnGrid level (cell_on line units))
        ↔ (((ladder_on line).low ≤ℤ units) × (units ≤ℤ (ladder_on line).high) × (ladder_on line).IsOn level units))
        (sym is) (by line units)
      where
        by : (l : Line) (u : ℤ) → (InUniverse (widest_kind (class_on l)) (cell_on l u) × IsOnGrid level (cell_on l u))
            ↔ (((ladder_on l).low ≤ℤ u) × (u ≤ℤ (ladder_on l).high) × (ladder_on l).IsOn level u)
        by Numbers u = ((λ h. (h.0.0, h.0.1, h.1)), (λ h. ((h.0, h.1), h.2)))
        by Moments u = ((λ h. (h.0.0, h.0.1, h.1)), (λ h. ((h.0, h.1), h.2)))

    -- a value of the kind is on the line
    value_on : (v : Cell) → InUniverse k v → (units : ℤ) × (v ≡ cell_on line units)
    value_on v within = by line v (class_of_value k v within ∙ ap Some class)
      where
        by : (l : Line) (c : Cell) → class_of c ≡ Some (class_on l) → (units : ℤ) × (c ≡ cell_on l units)
        by Numbers (cell.Number units) is = (units, refl)
        by Moments (cell.Moment at) is = (at, refl)
        by Numbers cell.Null is = cc
        by Numbers (cell.Bool truth) is = cc
        by Numbers (cell.Moment at) is = cc
        by Numbers (cell.Text codes) is = cc
        by Moments cell.Null is = cc
        by Moments (cell.Bool truth) is = cc
        by Moments (cell.Number units) is = cc
        by Moments (cell.Text codes) is = cc

    module _ (atoms : List SignedAtom) (tests : List GridTest)
        (exact : (units : ℤ) → All (λ test. Passes (ladder_on line) test units) tests
        ↔ All (λ signed. PassesAtom signed (cell_on line units)) atoms) where
      member : (units : ℤ) → IsAllowed k atoms (cell_on line units) → IsMember (ladder_on line) level tests units
      member units allowed =
          let range = (in_range (class_of_kind k) class units).0 ((on_own_level k level (cell_on line units) own).0
          allowed.in_universe) in
          record { from_low = range.0; to_high = range.1; on_level = range.2; passes = (exact units).1 allowed.passes }

      allowed_member : (units : ℤ) → IsMember (ladder_on line) level tests units
          → IsAllowed k atoms (cell_on line units)
      allowed_member units is = record {
        in_universe = (on_own_level k level (cell_on line units) own).1 ((in_range (class_of_kind k) class units).1
            (is.from_low, is.to_high, is.on_level));
        passes = (exact units).0 is.passes;
      }

      -- the allowed values of the kind are the members of the grid
      pub allowed_on : (v : Cell) → IsAllowed k atoms v ↔ IsOnLine line (IsMember (ladder_on line) level tests) v
      allowed_on v = (
        (λ allowed.
            let on = value_on v allowed.in_universe in
            subst (IsOnLine line (IsMember (ladder_on line) level tests)) (sym on.1)
            (on_line on.0 (member on.0 (subst (IsAllowed k atoms) on.1 allowed)))),
        (λ has.
            let on = from_line line (IsMember (ladder_on line) level tests) v has in
            subst (IsAllowed k atoms) (sym on.1) (allowed_member on.0 on.2)),
      )
        where
          on_line : (units : ℤ) → IsMember (ladder_on line) level tests units
              → IsOnLine line (IsMember (ladder_on line) level tests) (cell_on line units)
          on_line units is = to_line line (IsMember (ladder_on line) level tests) units is

-- a value of a kind can be the bound of a mark
pub in_class : (k : Kind) (v : Cell) → InUniverse k v → IsMarkBound (class_of_kind k) v
in_class kind.Boolean (cell.Bool truth) within = refl
in_class kind.Integer (cell.Number units) within = refl
in_class kind.Decimal (cell.Number units) within = refl
in_class (kind.Text alphabet) (cell.Text codes) within =
    (refl, (in_widest (kind.Text alphabet) (cell.Text codes) within).1)
in_class kind.Date (cell.Moment at) within = refl
in_class kind.DateTime (cell.Moment at) within = refl
in_class (kind.Code code) (cell.Text codes) within = (refl, (in_widest (kind.Code code) (cell.Text codes) within).1)
in_class other value within = absurd within
