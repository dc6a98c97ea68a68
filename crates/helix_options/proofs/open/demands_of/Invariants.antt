use Rattle.std.proofs.Common.{◌≡◌, take, slice_get}
use Rattle.std.specs.List.{filter_map}
use Rattle.helix_options.specs.Inner.Search.{first_demands}
use Rattle.helix_options.proofs.open.demands_of.Given as goal

abbrev pub invariant-loop-number : goal.invariant-loop-number
invariant-loop-number l = l.demands
    ≡ first_demands (filter_map (slice_get l.constraints) (take l.number-index l.numbers))
