use Rattle.std.proofs.Common.{◌≡◌, ℕ, ◌<◌, ◌≤◌, length, ◌+◌, ◌*◌, ◌-◌}
use Rattle.std.specs.List.{All, sum_by}
use Rattle.helix_rows.specs.Inner.Answers.{IsLeastAt}
use Rattle.helix_rows.specs.Inner.Cells.{HasCells}
use Rattle.helix_rows.specs.Inner.Levels.{Agree, AreAliveTo, AreBegunTo, IsReady, KeepRegions}
use Rattle.helix_rows.specs.Parts.{HasAt, IsInParts}
use Rattle.helix_rows.specs.Regions.{NoneFalls}
use Rattle.helix_values.specs.Slot.{FitsSlot}
use Rattle.helix_rows.proofs.climb.descend.Given as goal

abbrev pub invariant-loop-field : goal.invariant-loop-field
invariant-loop-field g l = record {
  long : length l.state.row ≡ length l.initial.state.row;
  same : Agree l.start l.state.row l.initial.state.row;
  least : (f : ℕ) → l.start ≤ f → f < l.field → IsLeastAt
      (IsInParts (HasAt g.R.Region.HasRow l.initial.state.regions.items) (length l.initial.state.row) l.layout.parts)
      l.state.row f;
  alive : AreAliveTo (HasAt g.R.Region.HasRow l.initial.state.regions.items) l.layout l.state.row l.state.alive.items
      l.field;
  begun : AreBegunTo (HasAt g.R.Region.HasRow l.initial.state.regions.items) l.layout l.state.row l.field;
  fit : All FitsSlot l.state.row;
  cells : HasCells g.R.Region.classes l.state.regions.items l.layout l.state.row;
  ready : IsReady g.R.Region.fields g.R.Region.classes g.R.Region.HasRow l.layout l.state.regions.items
      l.state.alive.items
      l.state.found.numbers.room (length l.state.row);
  room : l.state.found.numbers.room ≡ l.initial.state.found.numbers.room;
  kept : KeepRegions g.R.Region.fields g.R.Region.classes g.R.Region.asked g.R.Region.HasRow
      l.initial.state.regions.items l.state.regions.items;
  asked : sum_by g.R.Region.asked l.state.regions.items
      ≤ sum_by g.R.Region.asked l.initial.state.regions.items + (l.field - l.start) *
      l.initial.state.found.numbers.room;
  steps : NoneFalls l.initial.steps.counts l.steps.counts;
}
