use Rattle.std.proofs.Common.{◌∙◌, ◌∷◌, ap}
use Rattle.helix_places.specs.declared.place.Step.TheVariants as step
use Rattle.helix_fields.proofs.FieldNames.{found_name, next_name, no_name}
use Rattle.helix_fields.proofs.names.in_items.Goals as goal

pub returns-then-has_faulty_name : goal.returns-then-has_faulty_name
returns-then-has_faulty_name c = found_name c.args.fields.now c.loop-i.i c.index-fields-i.result c.loop-i-test.true
    c.index-fields-i.is c.loop-i.invariant c.has_faulty_name.result
    c.has_faulty_name.ensures c.if-has_faulty_name.true c.step_out.new.self
    (c.in_ok-step_out.ensures.ok ∙ ap (λ p. step.Item c.loop-i.i ∷ p) c.in_ok-place.ensures)

pub loop-i-preserved : goal.loop-i-preserved
loop-i-preserved c = next_name c.args.fields.now c.loop-i.i c.index-fields-i.result c.loop-i-test.true
    c.index-fields-i.is c.loop-i.invariant c.has_faulty_name.result
    c.has_faulty_name.ensures c.if-has_faulty_name.false

pub returns : goal.returns
returns c = no_name c.args.fields.now c.loop-i.i c.loop-i-test.false c.loop-i.invariant
