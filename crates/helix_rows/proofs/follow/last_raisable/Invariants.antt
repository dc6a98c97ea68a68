use Rattle.std.proofs.Common.{◌≡◌, length, ◌+◌, ◌-◌, ◌*◌, ◌≤◌}
use Rattle.std.specs.List.{sum_by}
use Rattle.helix_rows.specs.Inner.Cells.{HasCells}
use Rattle.helix_rows.specs.Inner.Following.{IsRaisable}
use Rattle.helix_rows.specs.Inner.Levels.{IsReady, KeepRegions}
use Rattle.helix_rows.specs.Parts.{HasAt}
use Rattle.helix_rows.specs.Regions.{NoneFalls}
use Rattle.helix_rows.proofs.follow.last_raisable.Given as goal

abbrev pub invariant-loop-done : goal.invariant-loop-done
invariant-loop-done g l = record {
  raised : IsRaisable (HasAt g.R.Region.HasRow l.initial.state.regions.items) l.layout l.initial.state.row
      l.state.alive.items l.best (l.count - l.done) l.raised;
  row : l.state.row ≡ l.initial.state.row;
  cells : HasCells g.R.Region.classes l.state.regions.items l.layout l.state.row;
  ready : IsReady g.R.Region.fields g.R.Region.classes g.R.Region.HasRow l.layout l.state.regions.items
      l.state.alive.items l.state.found.numbers.room (length l.state.row);
  room : l.state.found.numbers.room ≡ l.initial.state.found.numbers.room;
  kept : KeepRegions g.R.Region.fields g.R.Region.classes g.R.Region.asked g.R.Region.HasRow
      l.initial.state.regions.items l.state.regions.items;
  asked : sum_by g.R.Region.asked l.state.regions.items
      ≤ sum_by g.R.Region.asked l.initial.state.regions.items + l.done * l.initial.state.found.numbers.room;
  steps : NoneFalls l.initial.steps.counts l.steps.counts;
}
