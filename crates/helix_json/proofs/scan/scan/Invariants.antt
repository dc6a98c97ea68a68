use Rattle.std.proofs.Common.{◌-◌, length}
use Rattle.helix_json.specs.Inner.Progress.{HoldsSoFarAt}
use Rattle.helix_json.proofs.scan.scan.Given as goal

abbrev pub invariant-loop-at : goal.invariant-loop-at
invariant-loop-at l = HoldsSoFarAt l.codes l.at l.progress

abbrev pub decreases-loop-at : goal.decreases-loop-at
decreases-loop-at l = length l.codes - l.at
