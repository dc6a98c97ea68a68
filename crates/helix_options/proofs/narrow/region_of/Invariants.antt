use Rattle.std.proofs.Common.{take}
use Rattle.helix_options.specs.Inner.Narrowing.{IsRegionOf}
use Rattle.helix_options.proofs.narrow.region_of.Given as goal

abbrev pub invariant-loop-literal : goal.invariant-loop-literal
invariant-loop-literal l = IsRegionOf l.profile l.fields (take l.literal-index l.path) l.region
