use Rattle.std.proofs.Common.{Some, ap, sym, ◌∙◌}
use Rattle.helix_outside.proofs.Lookups.{index_get}
use Rattle.helix_outside.proofs.entries.bytes_of.Goals as goal

pub returns-in-Some : goal.returns-in-Some
returns-in-Some c =
    ap Some c.as_slice.ensures.value
    ∙ sym (index_get _ _ c.in-Some.index c.in-Some.ensures.found c.index-entries-index.result)
