use Rattle.std.proofs.Common.{◌∙◌, ◌∷◌, ap, take, refl}
use Rattle.helix_places.specs.declared.place.Step.TheVariants as step
use Rattle.helix_legacy.proofs.Naming.{found_name, next_name, no_faulty_first, no_name}
use Rattle.helix_legacy.proofs.SeenNames.{no_names_yet, one_more}
use Rattle.helix_legacy.proofs.names.names_fault.Goals as goal

pub loop-i-init : goal.loop-i-init
loop-i-init c = (
  no_faulty_first c.args.rules.now,
  no_names_yet c.new-seen.result.keys c.args.rules.now c.new-seen.ensures.empty,
)

pub returns-then-branch : goal.returns-then-branch
returns-then-branch c = found_name c.args.rules.now c.loop-i.i c.index-rules-i.result c.loop-i-test.true
    c.index-rules-i.is c.loop-i.invariant.0 c.in_ok-has_faulty_name.field-0 (take c.loop-i.i c.args.rules.now) refl
    (c.in_ok-has_faulty_name.ensures.faulty (take c.loop-i.i c.args.rules.now) c.loop-i.invariant.1)
    c.if-branch.true c.step_out.new.self
    (c.in_ok-step_out.ensures.ok ∙ ap (λ p. step.Item c.loop-i.i ∷ p) c.in_ok-place.ensures)

pub loop-i-preserved : goal.loop-i-preserved
loop-i-preserved c = (
  next_name c.args.rules.now c.loop-i.i c.index-rules-i.result c.loop-i-test.true c.index-rules-i.is
      c.loop-i.invariant.0 c.in_ok-has_faulty_name.field-0 (take c.loop-i.i c.args.rules.now) refl
      (c.in_ok-has_faulty_name.ensures.faulty (take c.loop-i.i c.args.rules.now) c.loop-i.invariant.1)
      c.if-branch.false,
  one_more c.loop-i.seen.keys c.has_faulty_name.new.seen.keys c.args.rules.now c.loop-i.i c.index-rules-i.result
      c.loop-i-test.true c.index-rules-i.is c.loop-i.invariant.1
      (c.in_ok-has_faulty_name.ensures.taken c.if-branch.false),
)

pub returns : goal.returns
returns c = no_name c.args.rules.now c.loop-i.i c.loop-i-test.false c.loop-i.invariant.0
