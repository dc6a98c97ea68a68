use Rattle.std.proofs.Common.{◌∙◌, ap, None}
use Rattle.helix_regex.specs.Inner.Sets.{joined_from}
use Rattle.helix_regex.proofs.Joining.{are_ranges}
use Rattle.helix_regex.proofs.joined.separated.Goals as goal

pub returns : goal.returns
returns c = are_ranges c.args.raw.items c.sort_ranges.new.raw.items c.in_ok-ranges.ranges
    c.sort_ranges.ensures.permutation c.sort_ranges.ensures.order
    (c.in_ok-ranges.ensures ∙ ap (joined_from None) c.as_slice.ensures.value)
