use Rattle.std.proofs.Common.{length, sym, subst}
use Rattle.helix_loading.specs.Inner.Stages.{ReadsMention, StopsMention, StopsSets}
use Rattle.helix_loading.proofs.Filling.{HasFilled, all_filled, fills_next, fits_wish, none_filled, stops_at}
use Rattle.helix_loading.proofs.Handing.{handed}
use Rattle.helix_loading.proofs.set_files.fill_sets.Goals as goal

pub loop-wanted-init : goal.loop-wanted-init
loop-wanted-init g c =
    subst (λ l. HasFilled (g.D.Disk.state c.args.disk.now) c.args.draft.now (g.D.Disk.state c.args.disk.now)
    c.args.draft.now l) (sym c.new-others.ensures)
    (none_filled (g.D.Disk.state c.args.disk.now) c.args.draft.now c.requires)

pub returns-in_err-file-clause-err : goal.returns-in_err-file-clause-err
returns-in_err-file-clause-err g c =
    handed (λ stop. StopsSets (g.D.Disk.state c.args.disk.now) c.args.draft.now stop (g.D.Disk.state c.read_set.new.disk))
    c.from_residual.result c.in_err-file.field-0.0 c.from_residual.ensures.1
    (stops_at (g.D.Disk.state c.args.disk.now) c.args.draft.now (g.D.Disk.state c.loop-wanted.disk) c.loop-wanted.draft
    c.loop-wanted.others c.loop-wanted.invariant c.in-Some.wanted.number
    (record {
      name = c.in-Some.wanted.name.now;
      kind = c.in-Some.wanted.kind;
      place = c.in-Some.wanted.place.now;
    }) c.in_err-file.field-0.0 (g.D.Disk.state c.read_set.new.disk) c.in-Some.ensures
    (subst (λ l. StopsMention (g.D.Disk.state c.loop-wanted.disk)
    (record {
      name = c.in-Some.wanted.name.now;
      kind = c.in-Some.wanted.kind;
      place = c.in-Some.wanted.place.now;
    }) (length l) c.in_err-file.field-0.0 (g.D.Disk.state c.read_set.new.disk)) c.as_slice.ensures
    c.in_err-file.ensures.err))

pub fill-requires-clause-members : goal.fill-requires-clause-members
fill-requires-clause-members g c =
    fits_wish c.in-Some.wanted.number
    (record {
      name = c.in-Some.wanted.name.now;
      kind = c.in-Some.wanted.kind;
      place = c.in-Some.wanted.place.now;
    }) c.in_ok-file.file.bytes c.in_ok-file.file.members c.loop-wanted.draft.wishes c.in-Some.ensures
    c.in_ok-file.ensures.ok.lists

pub loop-wanted-preserved : goal.loop-wanted-preserved
loop-wanted-preserved g c =
    fills_next (g.D.Disk.state c.args.disk.now) c.args.draft.now (g.D.Disk.state c.loop-wanted.disk)
    c.loop-wanted.draft c.loop-wanted.others c.loop-wanted.invariant c.in-Some.wanted.number
    (record {
      name = c.in-Some.wanted.name.now;
      kind = c.in-Some.wanted.kind;
      place = c.in-Some.wanted.place.now;
    }) (g.D.Disk.state c.read_set.new.disk) c.fill.new.self c.in_ok-file.file.bytes c.in_ok-file.file.members
    c.push.new.self c.in-Some.ensures c.in_ok-file.ensures.same
    (subst (λ l. ReadsMention (g.D.Disk.state c.loop-wanted.disk)
    (record {
      name = c.in-Some.wanted.name.now;
      kind = c.in-Some.wanted.kind;
      place = c.in-Some.wanted.place.now;
    }) (length l) c.in_ok-file.file.bytes c.in_ok-file.file.members) c.as_slice.ensures c.in_ok-file.ensures.ok)
    c.fill.ensures.wishes c.fill.ensures.alphabet c.fill.ensures.value c.in_ok-push.ensures.ok

pub returns-clause-ok : goal.returns-clause-ok
returns-clause-ok g c =
    all_filled (g.D.Disk.state c.args.disk.now) c.args.draft.now (g.D.Disk.state c.loop-wanted.disk)
    c.loop-wanted.draft c.loop-wanted.others c.loop-wanted.invariant c.in_default.ensures
