use Rattle.helix_rules.proofs.Closing.{place_says, place_there, some_line}
use Rattle.helix_rules.proofs.cycle.closing_place.Goals as goal

pub returns-in-Some-clause-place : goal.returns-in-Some-clause-place
returns-in-Some-clause-place c = place_says c.args.fields.now c.args.v.now c.args.lines.now c.args.index
    c.requires.lines c.requires.closes c.in-Some.line.now c.first_in_constraints.result c.in-Some.ensures.lookup.0
    c.in-Some.ensures.lookup.1 c.first_in_constraints.ensures

pub returns-in-Some-clause-forest : goal.returns-in-Some-clause-forest
returns-in-Some-clause-forest c = place_there c.args.fields.now c.args.v.now c.args.lines.now c.args.index
    c.requires.lines c.requires.closes c.in-Some.line.now c.first_in_constraints.result c.in-Some.ensures.lookup.0
    c.in-Some.ensures.lookup.1 c.first_in_constraints.ensures

pub returns-in-None-clause-place : goal.returns-in-None-clause-place
returns-in-None-clause-place c = absurd (some_line c.args.fields.now c.args.v.now c.args.lines.now c.args.index
    c.requires.lines c.requires.closes c.in-None.ensures.lookup.3)

pub returns-in-None-clause-forest : goal.returns-in-None-clause-forest
returns-in-None-clause-forest c = absurd (some_line c.args.fields.now c.args.v.now c.args.lines.now c.args.index
    c.requires.lines c.requires.closes c.in-None.ensures.lookup.3)
