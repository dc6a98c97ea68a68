use Rattle.std.proofs.Common.{◌≡◌, ℕ, Bool, List, ◌∷◌, ◌∙◌, sym, ap}
use Rattle.helix_json.specs.declared.value.Json.{Json}
use Rattle.helix_places.specs.declared.place.Step.TheVariants as step
use Rattle.helix_fields.specs.declared.faulty.Object.{Object}
use Rattle.helix_fields.specs.Inner.Objects.{may_have}
use Rattle.helix_fields.proofs.FaultyMembers.{found_fault, next_fault, no_more_faults}
use Rattle.helix_fields.proofs.faulty.in_members.Goals as goal

-- the test of the key that was read
key_read : (object : Object) (read key : List ℕ) (value : Json) → read ≡ key → {b : Bool}
    → may_have object read value ≡ b → may_have object key value ≡ b
key_read object read key value is e = ap (λ k. may_have object k value) (sym is) ∙ e

pub returns-then-not-may_have : goal.returns-then-not-may_have
returns-then-not-may_have c = found_fault (may_have c.args.object) c.args.members.now c.loop-member.member-index
    c.member-item.result c.loop-member-test.true c.member-item.is c.loop-member.invariant
    (key_read c.args.object c.codes.result.now c.member-item.result.key c.member-item.result.value
    c.codes.ensures.value (sym c.may_have.ensures ∙ c.if-not-may_have.true))
    c.in_ok-copy.field-0 c.step_out.new.self c.in_ok-copy.ensures
    (c.in_ok-step_out.ensures.ok ∙ ap (λ p. step.Member c.in_ok-copy.field-0 ∷ p) c.top-place.ensures)

pub loop-member-preserved : goal.loop-member-preserved
loop-member-preserved c = next_fault (may_have c.args.object) c.args.members.now c.loop-member.member-index
    c.member-item.result c.loop-member-test.true c.member-item.is c.loop-member.invariant
    (key_read c.args.object c.codes.result.now c.member-item.result.key c.member-item.result.value
    c.codes.ensures.value (sym c.may_have.ensures ∙ c.if-not-may_have.false))

pub returns : goal.returns
returns c = no_more_faults (may_have c.args.object) c.args.members.now c.loop-member.member-index
    c.loop-member-test.false c.loop-member.invariant
