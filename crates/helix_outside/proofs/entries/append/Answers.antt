use Rattle.std.proofs.Common.{ap, sym, ◌∙◌, ◌++◌}
use Rattle.std.specs.FinMap.{insert}
use Rattle.helix_outside.specs.Entries.{files_of}
use Rattle.helix_outside.specs.declared.entries.Entry.{Entry}
use Rattle.helix_outside.proofs.Lookups.{index_in, index_get, index_set, index_kept, on_err, appended_found, not_empty}
use Rattle.helix_outside.proofs.entries.append.Goals as goal

pub returns-in_err-extend_from_slice-in-Some-clause-err :
    goal.returns-in_err-extend_from_slice-in-Some-clause-err
returns-in_err-extend_from_slice-in-Some-clause-err c =
    let is = index_in _ c.args.entries.now.items c.args.name.now c.in-Some.index c.as_slice.ensures.value
    c.in-Some.ensures.found in
    let entry = c.index_mut-entry.ensures.value in
    on_err _
    (index_kept c.args.entries.now.items c.in-Some.index _ c.index_mut-entry.result.now is.within
    (ap (λ (e : Entry). e.name.items) entry)
    (c.in_err-extend_from_slice-in-Some.ensures.items ∙ ap (λ (e : Entry). e.bytes.items) entry))

pub returns-in_ok-extend_from_slice-in-Some-clause-ok :
    goal.returns-in_ok-extend_from_slice-in-Some-clause-ok
returns-in_ok-extend_from_slice-in-Some-clause-ok c =
    let is = index_in _ c.args.entries.now.items c.args.name.now c.in-Some.index c.as_slice.ensures.value
    c.in-Some.ensures.found in
    let entry = c.index_mut-entry.ensures.value in
    let held = index_get _ _ c.in-Some.index is c.index_mut-entry.result.now in
    index_set _ _ c.in-Some.index is _
    (ap (λ (e : Entry). e.name.items) entry ∙ is.named c.index_mut-entry.result.now)
    ∙ ap (insert (files_of c.args.entries.now.items) c.args.name.now)
    (c.in_ok-extend_from_slice-in-Some.ensures.items
    ∙ ap (λ (e : Entry). e.bytes.items ++ c.args.bytes.now) entry)
    ∙ sym (appended_found _ _ _ _ held (not_empty _ c.if-is_empty.ensures))
