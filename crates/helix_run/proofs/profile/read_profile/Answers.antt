use Rattle.helix_run.specs.Inner.Name.{field_of}
use Rattle.helix_run.proofs.Profiles.{refused_opening, refused_name, refused_closing, ReadsProfile-found}
use Rattle.helix_run.proofs.profile.read_profile.Goals as goal

pub returns-in_err-opened-clause-refused : goal.returns-in_err-opened-clause-refused
returns-in_err-opened-clause-refused c = refused_opening c.args.bytes.now c.from_residual.result c.in_err-opened.ensures

pub returns-in_err-name-clause-refused : goal.returns-in_err-name-clause-refused
returns-in_err-name-clause-refused c =
    refused_name c.args.bytes.now c.from_residual-in_err-name.result c.in_ok-opened.opened.now c.in_ok-opened.ensures
    c.in_err-name.ensures.none

pub returns-in_err-nullable-clause-refused : goal.returns-in_err-nullable-clause-refused
returns-in_err-nullable-clause-refused c =
    refused_closing c.args.bytes.now c.from_residual-in_err-nullable.result c.in_ok-opened.opened.now
    c.in_ok-name.name.now c.in_ok-name.rest.now
    c.in_ok-opened.ensures c.in_ok-name.ensures.name c.in_ok-name.ensures.parts c.in_err-nullable.ensures.none

pub returns-clause-read : goal.returns-clause-read
returns-clause-read c =
    ReadsProfile-found c.args.bytes.now c.in_ok-opened.opened.now
    (field_of (record { name = c.in_ok-name.name; nullable = c.in_ok-nullable.nullable }))
    c.in_ok-name.rest.now c.if-bytes-gt-LONGEST_PROFILE.false c.in_ok-opened.ensures c.in_ok-name.ensures.name
    c.in_ok-name.ensures.parts c.in_ok-nullable.ensures.says
