use Rattle.helix_values.specs.Class.{class_of_kind}
use Rattle.helix_domains.proofs.Counting.{few_moves}
use Rattle.helix_domains.proofs.question.least_value.Goals as goal

pub returns-in-Texts-clause-moves : goal.returns-in-Texts-clause-moves
returns-in-Texts-clause-moves g c = few_moves g.L.Ledger.IsNoted (class_of_kind c.args.kind) c.args.values.now
    c.in-Texts.words c.args.steps.now c.at_or_after.new.steps c.in-Texts.is c.requires.form c.at_or_after.ensures.moves
