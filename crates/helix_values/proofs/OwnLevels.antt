-- The values of a kind are those of the widest kind of its class that are on its own level.
use Rattle.std.proofs.Common.{◌≡◌, ◌↔◌, ℕ, Some, subst}
use Rattle.helix_values.specs.declared.kind.Kind.{Kind}
use Rattle.helix_values.specs.declared.kind.Kind.TheVariants as kind
use Rattle.helix_values.specs.declared.cell.Cell.{Cell}
use Rattle.helix_values.specs.declared.cell.Cell.TheVariants as cell
use Rattle.helix_values.specs.Class.{class_of_kind}
use Rattle.helix_values.specs.Counts.{widest_kind}
use Rattle.helix_values.specs.OnGrid.{IsOnGrid}
use Rattle.helix_ladders.specs.LadderLaws.{number_grid_finest, moment_grid_finest}
use Rattle.helix_values.specs.OwnLevel.{own_level}
use Rattle.helix_values.specs.Universe.{InUniverse}

whole : (value : Cell) → InUniverse kind.Integer value ↔ (InUniverse kind.Decimal value × IsOnGrid 15 value)
whole (cell.Number units) = ((λ within. (within.0, within.1)), (λ both. (both.0, both.1)))
whole cell.Null = ((λ within. absurd within), (λ both. absurd both.0))
whole (cell.Bool truth) = ((λ within. absurd within), (λ both. absurd both.0))
whole (cell.Moment at) = ((λ within. absurd within), (λ both. absurd both.0))
whole (cell.Text codes) = ((λ within. absurd within), (λ both. absurd both.0))

decimal : (value : Cell) → InUniverse kind.Decimal value ↔ (InUniverse kind.Decimal value × IsOnGrid 0 value)
decimal (cell.Number units) = ((λ within. (within, number_grid_finest units)), (λ both. both.0))
decimal cell.Null = ((λ within. absurd within), (λ both. absurd both.0))
decimal (cell.Bool truth) = ((λ within. absurd within), (λ both. absurd both.0))
decimal (cell.Moment at) = ((λ within. absurd within), (λ both. absurd both.0))
decimal (cell.Text codes) = ((λ within. absurd within), (λ both. absurd both.0))

date : (value : Cell) → InUniverse kind.Date value ↔ (InUniverse kind.DateTime value × IsOnGrid 4 value)
date (cell.Moment at) = ((λ within. (within.0, within.1)), (λ both. (both.0, both.1)))
date cell.Null = ((λ within. absurd within), (λ both. absurd both.0))
date (cell.Bool truth) = ((λ within. absurd within), (λ both. absurd both.0))
date (cell.Number units) = ((λ within. absurd within), (λ both. absurd both.0))
date (cell.Text codes) = ((λ within. absurd within), (λ both. absurd both.0))

date_time : (value : Cell) → InUniverse kind.DateTime value ↔ (InUniverse kind.DateTime value × IsOnGrid 0 value)
date_time (cell.Moment at) = ((λ within. (within, moment_grid_finest at)), (λ both. both.0))
date_time cell.Null = ((λ within. absurd within), (λ both. absurd both.0))
date_time (cell.Bool truth) = ((λ within. absurd within), (λ both. absurd both.0))
date_time (cell.Number units) = ((λ within. absurd within), (λ both. absurd both.0))
date_time (cell.Text codes) = ((λ within. absurd within), (λ both. absurd both.0))

pub on_own_level : (k : Kind) (level : ℕ) (value : Cell) → own_level k ≡ Some level →
    InUniverse k value ↔ (InUniverse (widest_kind (class_of_kind k)) value × IsOnGrid level value)
on_own_level kind.Boolean level value is = cc
on_own_level (kind.Text alphabet) level value is = cc
on_own_level (kind.Code code) level value is = cc
on_own_level kind.Integer level value is =
    let e : 15 ≡ level = cc in
    subst (λ l. InUniverse kind.Integer value ↔ (InUniverse kind.Decimal value × IsOnGrid l value)) e (whole value)
on_own_level kind.Decimal level value is =
    let e : 0 ≡ level = cc in
    subst (λ l. InUniverse kind.Decimal value ↔ (InUniverse kind.Decimal value × IsOnGrid l value)) e (decimal value)
on_own_level kind.Date level value is =
    let e : 4 ≡ level = cc in
    subst (λ l. InUniverse kind.Date value ↔ (InUniverse kind.DateTime value × IsOnGrid l value)) e (date value)
on_own_level kind.DateTime level value is =
    let e : 0 ≡ level = cc in
    subst (λ l. InUniverse kind.DateTime value
    ↔ (InUniverse kind.DateTime value × IsOnGrid l value)) e (date_time value)
