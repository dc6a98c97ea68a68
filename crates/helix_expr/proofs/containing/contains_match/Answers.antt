use Rattle.helix_expr.proofs.Parts.{start_decides}
use Rattle.helix_expr.proofs.containing.contains_match.Goals as goal

pub returns-then-regex : goal.returns-then-regex
returns-then-regex c = start_decides c.begins_match.result c.args.regex.now c.args.word.now c.if-regex.true
    c.begins_match.ensures
