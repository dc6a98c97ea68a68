use Rattle.std.proofs.Common.{ap, sym, ◌∷◌, ◌++◌, [], ◌∙◌, arith, subst}
use Rattle.helix_json.specs.declared.need.TokenKind.TheVariants as kind
use Rattle.helix_json.specs.declared.token.Token.TheVariants as token
use Rattle.helix_json.specs.declared.digits.NumberState.TheVariants as number
use Rattle.helix_json.specs.Inner.NumberSteps.{number_step}
use Rattle.helix_json.specs.Inner.Progress.{Allows}
use Rattle.helix_json.proofs.HoldingWords.{number_none, number_fails, number_breaks, number_holds}
use Rattle.helix_json.proofs.Finishing.{holds_same, scalars_slice}
use Rattle.helix_json.proofs.scan.take_number.Goals as goal

pub returns-in_default : goal.returns-in_default
returns-in_default c = number_none c.args.codes.now c.args.at _ _ c.args.progress.now.nest c.requires.within
    c.requires.holds c.requires.class_is
    (sym (ap (number_step number.Nothing) c.kind_of_code.ensures) ∙ sym c.in_default.ensures)

pub returns-then-not-branch : goal.returns-then-not-branch
returns-then-not-branch c = number_fails c.args.codes.now c.args.at _ _ c.args.progress.now.nest c.requires.within
    c.requires.holds c.requires.class_is
    c.in-Some.first c.allow.new.self (sym (ap (number_step number.Nothing) c.kind_of_code.ensures)
    ∙ sym c.in-Some.ensures)
    (subst (λ b. Allows c.args.progress.now.nest c.allow.new.self kind.Scalar b) c.if-not-branch.true
    c.in_ok-allow.ensures)

pub returns-then-not-is_end_of_number : goal.returns-then-not-is_end_of_number
returns-then-not-is_end_of_number c = number_breaks c.args.codes.now c.args.at _ _ c.args.progress.now.nest
    c.requires.within c.requires.holds c.requires.class_is
    c.in-Some.first c.allow.new.self (sym (ap (number_step number.Nothing) c.kind_of_code.ensures)
    ∙ sym c.in-Some.ensures)
    (subst (λ b. Allows c.args.progress.now.nest c.allow.new.self kind.Scalar b) c.if-not-branch.false
    c.in_ok-allow.ensures)
    c.read_number-state.result.0 c.read_number-state.result.1 c.read_number-state.ensures
    (sym c.if-not-is_end_of_number.ensures)

pub text_of-requires : goal.text_of-requires
text_of-requires c = scalars_slice c.args.codes.now c.args.at c.read_number-state.result.1 c.requires.scalars

pub returns : goal.returns
returns c = (
  omega (arith, c.read_number-state.ensures.forth),
  holds_same c.args.codes.now c.read_number-state.result.1 _ _ _ _ _ _
      (c.in_ok-push.ensures.tokens ∙ ap (λ t. c.args.progress.now.tokens.items ++ token.Number t ∷ [])
      c.in_ok-text_of.ensures) c.in_ok-push.ensures.offsets c.in_ok-push.ensures.nest
      (number_holds c.args.codes.now c.args.at _ _ c.args.progress.now.nest c.requires.within c.requires.holds
      c.requires.class_is
      c.in-Some.first c.allow.new.self (sym (ap (number_step number.Nothing) c.kind_of_code.ensures)
      ∙ sym c.in-Some.ensures)
      (subst (λ b. Allows c.args.progress.now.nest c.allow.new.self kind.Scalar b) c.if-not-branch.false
      c.in_ok-allow.ensures)
      c.read_number-state.result.0 c.read_number-state.result.1 c.read_number-state.ensures
      (sym c.if-not-is_end_of_number.ensures)),
)
