use Rattle.std.proofs.Common.{◌≡◌, ◌-◌, length, ◌+◌, ◌*◌, ◌≤◌}
use Rattle.std.specs.List.{All, sum_by}
use Rattle.helix_rows.specs.Inner.Answers.{IsLastFrom}
use Rattle.helix_rows.specs.Inner.Cells.{HasCells}
use Rattle.helix_rows.specs.Inner.Levels.{IsReady, KeepRegions}
use Rattle.helix_rows.specs.Parts.{HasAt, IsInParts}
use Rattle.helix_rows.specs.Regions.{NoneFalls}
use Rattle.helix_values.specs.Slot.{FitsSlot}
use Rattle.helix_rows.proofs.climb.raise.Given as goal

abbrev pub invariant-loop-done : goal.invariant-loop-done
invariant-loop-done g l = record {
  row : l.state.row ≡ l.initial.state.row;
  alive : l.state.alive.items ≡ l.initial.state.alive.items;
  last : IsLastFrom (IsInParts (HasAt g.R.Region.HasRow l.initial.state.regions.items) (length l.initial.state.row)
      l.layout.parts) l.initial.state.row (l.end - l.done);
  fit : All FitsSlot l.state.row;
  cells : HasCells g.R.Region.classes l.state.regions.items l.layout l.state.row;
  ready : IsReady g.R.Region.fields g.R.Region.classes g.R.Region.HasRow l.layout l.state.regions.items
      l.state.alive.items
      l.state.found.numbers.room (length l.state.row);
  room : l.state.found.numbers.room ≡ l.initial.state.found.numbers.room;
  kept : KeepRegions g.R.Region.fields g.R.Region.classes g.R.Region.asked g.R.Region.HasRow
      l.initial.state.regions.items l.state.regions.items;
  asked : sum_by g.R.Region.asked l.state.regions.items
      ≤ sum_by g.R.Region.asked l.initial.state.regions.items + l.done * l.initial.state.found.numbers.room;
  steps : NoneFalls l.initial.steps.counts l.steps.counts;
}
