use Rattle.std.proofs.Common.{sym, ◌∙◌}
use Rattle.helix_json.proofs.NumberGrammar.{true_not_false}
use Rattle.helix_json.proofs.Finishing.{holds_start, spells_whole, fails_open}
use Rattle.helix_json.proofs.scan.scan.Goals as goal

pub loop-at-init : goal.loop-at-init
loop-at-init c = holds_start c.args.codes.now c.new-progress.result.tokens.items c.new-progress.result.offsets.items
    c.new-progress.result.nest
    c.new-progress.ensures.tokens c.new-progress.ensures.offsets c.new-progress.ensures.need
    c.new-progress.ensures.containers

pub returns-then-is_whole : goal.returns-then-is_whole
returns-then-is_whole c = spells_whole c.args.codes.now c.loop-at.at c.loop-at.progress.tokens.items
    c.loop-at.progress.offsets.items c.loop-at.progress.nest
    c.loop-at-test.false c.loop-at.invariant (c.is_whole.ensures.0 c.if-is_whole.true)

pub returns-else-is_whole : goal.returns-else-is_whole
returns-else-is_whole c = fails_open c.args.codes.now c.loop-at.at c.loop-at.progress.tokens.items
    c.loop-at.progress.offsets.items c.loop-at.progress.nest
    c.loop-at-test.false c.loop-at.invariant
    (λ whole. true_not_false (sym (c.is_whole.ensures.1 whole) ∙ c.if-is_whole.false))
