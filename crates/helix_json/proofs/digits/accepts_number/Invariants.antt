use Rattle.std.proofs.Common.{◌≡◌, drop}
use Rattle.helix_json.specs.Inner.NumberSteps.{accepts}
use Rattle.helix_json.specs.declared.digits.NumberState.TheVariants as state
use Rattle.helix_json.proofs.digits.accepts_number.Given as goal

abbrev pub invariant-loop-code : goal.invariant-loop-code
invariant-loop-code l = accepts l.state (drop l.code-index l.codes) ≡ accepts state.Nothing l.codes
