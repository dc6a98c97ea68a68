use Rattle.std.proofs.Common.{◌≡◌, ◌∙◌}
use Rattle.helix_explain.specs.Sets.{numbers_to}
use Rattle.helix_explain.proofs.tests.core_of.Goals as goal

pub core-requires-clause-empty : goal.core-requires-clause-empty
core-requires-clause-empty c =
    let all : c.as_slice.result.now ≡ numbers_to c.args.conflicts.now.count =
    c.as_slice.ensures ∙ c.in_ok-all.ensures in
    let empties = rw all at (c.in_ok-empty.ensures.answer.0 c.if-empty.true) in
    (c.in_ok-empty.ensures.same (numbers_to c.args.conflicts.now.count)).1 empties
