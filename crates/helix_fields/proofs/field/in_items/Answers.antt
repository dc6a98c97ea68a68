use Rattle.helix_places.specs.PartLaws.{next_item, found_item, no_more_items}
use Rattle.helix_fields.specs.Inner.Objects.{BreaksInField}
use Rattle.helix_fields.proofs.field.in_items.Goals as goal

pub returns-in-Some : goal.returns-in-Some
returns-in-Some c = found_item (BreaksInField c.args.rule) c.args.items.now c.loop-i.i c.index-items-i.result
    c.loop-i-test.true c.index-items-i.is c.loop-i.invariant c.in_ok-place.field-0 c.in_ok-place.ensures
    c.in-Some.place c.step_out.new.self c.in-Some.is c.in_ok-step_out.ensures.ok

pub loop-i-preserved : goal.loop-i-preserved
loop-i-preserved c = next_item (BreaksInField c.args.rule) c.args.items.now c.loop-i.i c.index-items-i.result
    c.loop-i-test.true c.index-items-i.is c.loop-i.invariant c.in_ok-place.field-0 c.in_ok-place.ensures
    c.in_default.not-Some

pub returns : goal.returns
returns c = no_more_items (BreaksInField c.args.rule) c.args.items.now c.loop-i.i c.loop-i-test.false
    c.loop-i.invariant
