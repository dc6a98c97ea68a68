use Rattle.std.proofs.Common.{arith, sym, ◌∙◌, ap, subst, IsTrue, ◌↔◌}
use Rattle.helix_json.specs.Numbers.{IsNumber}
use Rattle.helix_json.specs.Inner.NumberSteps.{number_step}
use Rattle.helix_json.proofs.NumberGrammar.{true_not_false}
use Rattle.helix_json.proofs.NumberReading.{loop_step, loop_refused, loop_end}
use Rattle.helix_json.proofs.digits.accepts_number.Goals as goal

pub returns-in_default : goal.returns-in_default
returns-in_default c = (
  λ e. absurd (true_not_false (sym e)),
  λ number. absurd (loop_refused c.args.codes.now c.loop-code.code-index c.loop-code.state c.loop-code.invariant
      (omega arith)
      (ap (number_step c.loop-code.state) (sym c.kind_of_code.ensures) ∙ sym c.in_default.ensures) number),
)

pub loop-code-preserved : goal.loop-code-preserved
loop-code-preserved c = loop_step c.args.codes.now c.loop-code.code-index c.loop-code.state c.loop-code.invariant
    c.in-Some.next (omega arith)
    (ap (number_step c.loop-code.state) (sym c.kind_of_code.ensures) ∙ sym c.in-Some.ensures)

pub returns : goal.returns
returns c = subst (λ b. IsTrue b ↔ IsNumber c.args.codes.now) (sym c.is_end_of_number.ensures)
    (loop_end c.args.codes.now c.loop-code.code-index c.loop-code.state c.loop-code.invariant (omega arith))
