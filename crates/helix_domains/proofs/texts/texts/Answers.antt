use Rattle.helix_domains.proofs.TextWords.{no_values, text_values}
use Rattle.helix_domains.proofs.texts.texts.Goals as goal

pub returns-then-lengths : goal.returns-then-lengths
returns-then-lengths c = no_values c.args.kind c.requires.class c.args.atoms.now c.requires.atoms
    c.in_ok-lengths.lengths c.in_ok-lengths.ensures.exact c.new.result c.if-lengths.true c.new.ensures

pub returns : goal.returns
returns c =
    text_values c.args.kind c.requires.class c.args.atoms.now c.requires.atoms c.in_ok-lengths.lengths
    c.in_ok-lengths.ensures.exact c.in_ok-dfa.dfa c.in_ok-dfas_of.field-0.items c.in_ok-dfa.ensures
    c.in_ok-dfas_of.ensures c.if-lengths.false c.in_ok-lengths.ensures.end c.in_ok-refusing.field-0
    c.as_slice-refused.result.now
    c.in_ok-refusing.ensures c.as_slice-refused.ensures c.see_arcs.ensures
