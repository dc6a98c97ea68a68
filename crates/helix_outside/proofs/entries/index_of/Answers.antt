use Rattle.std.proofs.Common.{◌≡◌, arith, ap, ◌∙◌, Decides, Bool, true, false}
use Rattle.std.proofs.lemmas.Bool.Decides.{Decides-eqb}
use Rattle.std.proofs.lemmas.Slice.Eq.{slice_eq-Decides}
use Rattle.helix_outside.specs.declared.entries.Entry.{Entry}
use Rattle.helix_outside.proofs.Lookups.{missing_more, missing_all}
use Rattle.helix_outside.proofs.entries.index_of.Goals as goal

apart : {r : Bool} {P : Type 0} → Decides r P → r ≡ false → ¬ P
apart {r} is unequal p = let equal : r ≡ true = is.1 p in cc

pub loop-i-preserved : goal.loop-i-preserved
loop-i-preserved c =
    let is : Decides c.eq.result (c.as_slice.result.now ≡ c.args.name.now) =
    slice_eq-Decides Decides-eqb _ _ _ c.eq.ensures in
    let name = c.as_slice.ensures.value ∙ ap (λ (entry : Entry). entry.name.items) c.index-entries-i.is in
    missing_more c.args.entries.now c.args.name.now c.loop-i.i c.index-entries-i.result c.loop-i-test.true
    c.loop-i.invariant (λ e. apart is c.if-eq.false (name ∙ e))

pub returns-clause-missing : goal.returns-clause-missing
returns-clause-missing c = missing_all _ _ c.loop-i.i (omega arith) c.loop-i.invariant
