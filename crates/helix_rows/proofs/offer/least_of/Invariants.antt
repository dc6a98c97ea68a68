use Rattle.std.proofs.Common.{◌≡◌, ◌+◌, ◌≤◌, take}
use Rattle.std.specs.List.{sum_by}
use Rattle.helix_rows.proofs.Found.{IsBest}
use Rattle.helix_rows.specs.Inner.Answers.{best_of}
use Rattle.helix_rows.specs.Inner.Levels.{before_of, KeepRegions}
use Rattle.helix_rows.specs.Parts.{HasAt}
use Rattle.helix_rows.specs.Regions.{NoneFalls}
use Rattle.helix_values.specs.Marks.{IsAdmitted}
use Rattle.helix_rows.proofs.offer.least_of.Given as goal

abbrev pub invariant-loop-number : goal.invariant-loop-number
invariant-loop-number g l = record {
  kept : KeepRegions g.R.Region.fields g.R.Region.classes g.R.Region.asked g.R.Region.HasRow l.initial.regions.items
      l.regions.items;
  best : IsBest (HasAt g.R.Region.HasRow l.initial.regions.items) (before_of l.layout l.field l.row) (IsAdmitted l.mark)
      (take l.number-index l.among) (best_of l.found);
  room : l.found.numbers.room ≡ l.initial.found.numbers.room;
  asked : sum_by g.R.Region.asked l.regions.items ≤ sum_by g.R.Region.asked l.initial.regions.items + l.number-index;
  steps : NoneFalls l.initial.steps.counts l.steps.counts;
}
