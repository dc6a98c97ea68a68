use Rattle.std.proofs.Common.{rules, FitsSigned, to_z-of_z}
use Rattle.std.specs.Int.{w128}
use Rattle.std.proofs.lemmas.Result.{IfOk-weaker}
use Rattle.helix_grids.proofs.Meeting.{has_window, narrowed_by}
use Rattle.helix_grids.proofs.narrow.narrowed.Goals as goal

pub within-requires-in-On-clause-narrower : goal.within-requires-in-On-clause-narrower
within-requires-in-On-clause-narrower g c = λ v has.
    let exact = rw c.window-window.ensures at c.with_on.ensures.exact in
    ((exact c.args.scale.now v (has_window _ _ c.requires.form) (rw c.in-On.is at c.requires.level)).0 has).0

pub within-requires-in-Off-clause-narrower : goal.within-requires-in-Off-clause-narrower
within-requires-in-Off-clause-narrower g c = λ v has.
    let exact = rw c.window-window.ensures at c.with_off.ensures.exact in
    ((exact c.args.scale.now v (has_window _ _ c.requires.form) (rw c.in-Off.is at c.requires.level)).0 has).0

pub returns-in-Least-clause-exact : goal.returns-in-Least-clause-exact
returns-in-Least-clause-exact g c =
    let exact = rw c.window-window.ensures at c.with_least.ensures.exact in
    let bound : FitsSigned w128 c.in-Least.bound = search rules in
    rw c.in-Least.is (IfOk-weaker c.within.result _ _
    (λ new. narrowed_by _ _ c.args.all.now new _ c.requires.form (λ v. simp to_z-of_z at (exact c.args.scale.now v)))
    c.within.ensures.exact)

pub returns-in-NoneOf-clause-exact : goal.returns-in-NoneOf-clause-exact
returns-in-NoneOf-clause-exact g c =
    rw c.in-NoneOf.is (rw c.as_slice-in-NoneOf.ensures at c.apart.ensures.exact)

pub returns-in-Most-clause-exact : goal.returns-in-Most-clause-exact
returns-in-Most-clause-exact g c =
    let exact = rw c.window-window.ensures at c.with_most.ensures.exact in
    let bound : FitsSigned w128 c.in-Most.bound = search rules in
    rw c.in-Most.is (IfOk-weaker c.within-in-Most.result _ _
    (λ new. narrowed_by _ _ c.args.all.now new _ c.requires.form (λ v. simp to_z-of_z at (exact c.args.scale.now v)))
    c.within-in-Most.ensures.exact)

pub returns-in-On-clause-exact : goal.returns-in-On-clause-exact
returns-in-On-clause-exact g c =
    let exact = rw c.window-window.ensures at c.with_on.ensures.exact in
    rw c.in-On.is (IfOk-weaker c.within-in-On.result _ _
    (λ new. narrowed_by _ _ c.args.all.now new _ c.requires.form
    (λ v. exact c.args.scale.now v (has_window _ _ c.requires.form) (rw c.in-On.is at c.requires.level)))
    c.within-in-On.ensures.exact)

pub returns-in-Off-clause-exact : goal.returns-in-Off-clause-exact
returns-in-Off-clause-exact g c =
    let exact = rw c.window-window.ensures at c.with_off.ensures.exact in
    rw c.in-Off.is (IfOk-weaker c.within-in-Off.result _ _
    (λ new. narrowed_by _ _ c.args.all.now new _ c.requires.form
    (λ v. exact c.args.scale.now v (has_window _ _ c.requires.form) (rw c.in-Off.is at c.requires.level)))
    c.within-in-Off.ensures.exact)
