use Rattle.std.proofs.Common.{◌∷◌, ◌∙◌, sym, ap}
use Rattle.helix_places.specs.declared.place.Step.TheVariants as step
use Rattle.helix_legacy.proofs.Rules.{without, nothing, something}
use Rattle.helix_legacy.proofs.breach.members_fault.Goals as goal

pub returns-in-None : goal.returns-in-None
returns-in-None c = without c.args.members.now (sym c.in-None.ensures)

pub returns-in-Some-2 : goal.returns-in-Some-2
returns-in-Some-2 c = something c.args.members.now c.in-Some.constraints.now (sym c.in-Some.ensures)
    c.in_ok-place-in-Some.field-0 c.in_ok-place-in-Some.ensures c.in-Some-2.place c.step_out.new.self c.in-Some-2.is
    (c.in_ok-step_out-in-Some.ensures.ok
    ∙ ap (λ k. step.Member k ∷ c.in-Some-2.place) c.in_ok-word_text-in-Some.ensures)

pub returns-in_default : goal.returns-in_default
returns-in_default c = nothing c.args.members.now c.in-Some.constraints.now (sym c.in-Some.ensures)
    c.in_ok-place-in-Some.field-0 c.in_ok-place-in-Some.ensures c.in_default.not-Some
