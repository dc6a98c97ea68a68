use Rattle.helix_options.proofs.Opening.{opened, opened_exact, opened_few, opened_valid}
use Rattle.helix_options.specs.Paths.{IsExactFor, IsFewFor, AreValidFor}
use Rattle.helix_options.proofs.paths.Paths.open.Goals as goal

pub returns-clause-exact : goal.returns-clause-exact
returns-clause-exact c = opened c.args.profile.now c.args.part.now c.fields.ensures.valid c.requires
    (IsExactFor c.args.profile.now c.args.part.now) (opened_exact c.args.profile.now c.args.part.now)
    c.in_ok-nullable.nullable c.in_ok-demands.demands c.fields.result.now c.constraints.result.now c.as_slice.result.now
    c.fields.ensures.value c.in_ok-nullable.ensures c.constraints.ensures.value c.as_slice.ensures
    c.in_ok-demands.ensures c.starting.result c.starting.ensures

pub returns-clause-few : goal.returns-clause-few
returns-clause-few c = opened c.args.profile.now c.args.part.now c.fields.ensures.valid c.requires
    (IsFewFor c.args.profile.now c.args.part.now) (opened_few c.args.profile.now c.args.part.now)
    c.in_ok-nullable.nullable c.in_ok-demands.demands c.fields.result.now c.constraints.result.now c.as_slice.result.now
    c.fields.ensures.value c.in_ok-nullable.ensures c.constraints.ensures.value c.as_slice.ensures
    c.in_ok-demands.ensures c.starting.result c.starting.ensures

pub returns-clause-fields : goal.returns-clause-fields
returns-clause-fields c = opened c.args.profile.now c.args.part.now c.fields.ensures.valid c.requires
    (AreValidFor c.args.profile.now c.args.part.now)
    (opened_valid c.args.profile.now c.args.part.now c.fields.ensures.valid c.requires)
    c.in_ok-nullable.nullable c.in_ok-demands.demands c.fields.result.now c.constraints.result.now c.as_slice.result.now
    c.fields.ensures.value c.in_ok-nullable.ensures c.constraints.ensures.value c.as_slice.ensures
    c.in_ok-demands.ensures c.starting.result c.starting.ensures
