use Rattle.helix_domains.proofs.Spellings.{spelled_ok}
use Rattle.helix_domains.proofs.others.others_dfa.Goals as goal

pub returns : goal.returns
returns c = spelled_ok c.args.cells.now c.in_ok-numbers.numbers.items c.explore.result c.in_ok-numbers.ensures
    c.explore.ensures.words
