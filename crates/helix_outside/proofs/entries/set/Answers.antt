use Rattle.std.proofs.Common.{ap, ◌∙◌}
use Rattle.helix_outside.specs.declared.entries.Entry.{Entry}
use Rattle.helix_outside.proofs.Lookups.{index_in, index_set}
use Rattle.helix_outside.proofs.entries.set.Goals as goal

pub returns-in-Some-clause-ok : goal.returns-in-Some-clause-ok
returns-in-Some-clause-ok c =
    let is = index_in _ c.args.entries.now.items c.args.name.now c.in-Some.index c.as_slice.ensures.value
    c.in-Some.ensures.found in
    index_set _ _ c.in-Some.index is _
    (ap (λ (entry : Entry). entry.name.items) c.index_mut.ensures.value ∙ is.named c.index_mut.result.now)
