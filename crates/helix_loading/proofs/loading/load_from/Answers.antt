use Rattle.std.proofs.Common.{subst}
use Rattle.std.specs.Prelude.{IfOk}
use Rattle.helix_loading.specs.Inner.Stages.{Completes}
use Rattle.helix_loading.proofs.Filling.{same_at}
use Rattle.helix_loading.proofs.Stops.{ends, no_draft, no_sets, stopped, unread}
use Rattle.helix_loading.proofs.loading.load_from.Goals as goal

pub fill_sets-requires : goal.fill_sets-requires
fill_sets-requires g c = unread c.args.alphabet c.args.bytes.now c.in_ok-draft.draft c.in_ok-draft.ensures.ok

pub returns-in_err-draft : goal.returns-in_err-draft
returns-in_err-draft g c =
    λ name there. stopped (g.D.Disk.state c.args.disk.now) (g.D.Disk.state c.args.disk.now) name c.args.alphabet
    c.args.violate c.in_err-draft.field-0.0 (same_at (g.D.Disk.state c.args.disk.now)).only_reads
    (no_draft (g.D.Disk.state c.args.disk.now) name c.args.alphabet c.args.violate c.args.bytes.now there
    c.in_err-draft.field-0.0 c.in_err-draft.ensures.err)
    c.from_residual.result c.from_residual.ensures.1

pub returns-in_err-others : goal.returns-in_err-others
returns-in_err-others g c =
    λ name there. stopped (g.D.Disk.state c.args.disk.now) (g.D.Disk.state c.fill_sets.new.disk) name c.args.alphabet
    c.args.violate c.in_err-others.field-0.0 c.in_err-others.ensures.only_reads
    (no_sets (g.D.Disk.state c.args.disk.now) name c.args.alphabet c.args.violate c.args.bytes.now there
    c.in_ok-draft.draft c.in_ok-draft.ensures.ok c.in_err-others.field-0.0 (g.D.Disk.state c.fill_sets.new.disk)
    c.in_err-others.ensures.err)
    c.from_residual-in_err-others.result c.from_residual-in_err-others.ensures.1

pub returns : goal.returns
returns g c =
    λ name there. ends (g.D.Disk.state c.args.disk.now) name c.args.alphabet c.args.violate c.args.bytes.now there
    c.in_ok-draft.draft c.in_ok-draft.ensures.ok (g.D.Disk.state c.fill_sets.new.disk) c.fill_sets.new.draft
    c.in_ok-others.others c.in_ok-others.ensures.same c.in_ok-others.ensures.ok c.complete.result
    (subst (λ o. IfOk c.complete.result (Completes c.fill_sets.new.draft c.args.alphabet c.args.violate c.args.bytes.now
    o)) c.as_slice.ensures c.complete.ensures.ok) c.complete.ensures.err
