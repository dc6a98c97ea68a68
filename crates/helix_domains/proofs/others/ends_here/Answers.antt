use Rattle.helix_domains.proofs.Spellings.{ends_test}
use Rattle.helix_domains.proofs.others.ends_here.Goals as goal

pub returns-in-Text : goal.returns-in-Text
returns-in-Text c = ends_test c.args.cell.now c.in-Text.text c.codes.result.now c.args.place c.in-Text.is
    c.codes.ensures.value
