use Rattle.std.proofs.Common.{codes}
use Rattle.helix_json.specs.declared.value.Json.TheViews as view
use Rattle.helix_legacy.specs.Broken.{BreaksForm, BreaksName, BreaksATest}
use Rattle.helix_legacy.proofs.Breaches.{value_keys, none_beside, none_of, first_of, first_form, first_name, first_test, no_breach}
use Rattle.helix_legacy.proofs.breach.breach_in_rules.Goals as goal

pub returns-in-Some : goal.returns-in-Some
returns-in-Some c = first_form (view.Object c.args.members.now) (none_beside c.args.members.now c.requires.alone)
    c.in_ok-breach_at.field-0 c.in_ok-breach_at.ensures.rule
    (first_of c.args.members.now c.args.rules.now c.requires.rules BreaksForm c.in_ok-place.field-0 c.in-Some.place
    c.in_ok-breach_at.field-0.place c.in-Some.is c.in_ok-breach_at.ensures.place (c.in_ok-place.ensures
    (value_keys c.args.members.now (codes "rules") c.args.rules.now c.requires.keys c.requires.rules)))

pub returns-in-Some-2 : goal.returns-in-Some-2
returns-in-Some-2 c = first_name (view.Object c.args.members.now) (none_beside c.args.members.now c.requires.alone)
    c.in_ok-breach_at-2.field-0 c.in_ok-breach_at-2.ensures.rule
    (none_of c.args.members.now c.args.rules.now c.requires.rules BreaksForm c.in_ok-place.field-0
    c.in_default.not-Some (c.in_ok-place.ensures
    (value_keys c.args.members.now (codes "rules") c.args.rules.now c.requires.keys c.requires.rules)))
    (first_of c.args.members.now c.args.rules.now c.requires.rules BreaksName c.in_ok-place-2.field-0
    c.in-Some-2.place c.in_ok-breach_at-2.field-0.place c.in-Some-2.is c.in_ok-breach_at-2.ensures.place
    c.in_ok-place-2.ensures)

pub returns-in-Some-3 : goal.returns-in-Some-3
returns-in-Some-3 c = first_test (view.Object c.args.members.now) (none_beside c.args.members.now c.requires.alone)
    c.in_ok-breach_at-3.field-0 c.in_ok-breach_at-3.ensures.rule
    (none_of c.args.members.now c.args.rules.now c.requires.rules BreaksForm c.in_ok-place.field-0
    c.in_default.not-Some (c.in_ok-place.ensures
    (value_keys c.args.members.now (codes "rules") c.args.rules.now c.requires.keys c.requires.rules)))
    (none_of c.args.members.now c.args.rules.now c.requires.rules BreaksName c.in_ok-place-2.field-0
    c.in_default-2.not-Some c.in_ok-place-2.ensures)
    (first_of c.args.members.now c.args.rules.now c.requires.rules BreaksATest c.in_ok-place-3.field-0
    c.in-Some-3.place c.in_ok-breach_at-3.field-0.place c.in-Some-3.is c.in_ok-breach_at-3.ensures.place
    (c.in_ok-place-3.ensures
    (value_keys c.args.members.now (codes "rules") c.args.rules.now c.requires.keys c.requires.rules)))

pub returns : goal.returns
returns c = no_breach (view.Object c.args.members.now) (none_beside c.args.members.now c.requires.alone)
    (none_of c.args.members.now c.args.rules.now c.requires.rules BreaksForm c.in_ok-place.field-0
    c.in_default.not-Some (c.in_ok-place.ensures
    (value_keys c.args.members.now (codes "rules") c.args.rules.now c.requires.keys c.requires.rules)))
    (none_of c.args.members.now c.args.rules.now c.requires.rules BreaksName c.in_ok-place-2.field-0
    c.in_default-2.not-Some c.in_ok-place-2.ensures)
    (none_of c.args.members.now c.args.rules.now c.requires.rules BreaksATest c.in_ok-place-3.field-0
    c.in_default-3.not-Some (c.in_ok-place-3.ensures
    (value_keys c.args.members.now (codes "rules") c.args.rules.now c.requires.keys c.requires.rules)))
