use Rattle.std.proofs.lemmas.List.Elements.{Contains-get_or}
use Rattle.helix_automata.proofs.Lookups.{within_at, reaches_at, leads_at}
use Rattle.helix_automata.proofs.lookup.arc_of.Goals as goal

pub bounds-arcs-first_reaching : goal.bounds-arcs-first_reaching
bounds-arcs-first_reaching c =
    within_at c.requires.arcs.0 c.args.arcs.now c.requires.arcs.1 c.args.code c.first_reaching.result
    c.requires.character c.first_reaching.ensures

pub returns-clause-named : goal.returns-clause-named
returns-clause-named c states are =
    are.named c.first_reaching.result
    _ (within_at c.requires.arcs.0 c.args.arcs.now c.requires.arcs.1 c.args.code c.first_reaching.result
    c.requires.character c.first_reaching.ensures)

pub returns-clause-reaches : goal.returns-clause-reaches
returns-clause-reaches c =
    reaches_at c.requires.arcs.0 c.args.arcs.now c.requires.arcs.1 c.args.code c.first_reaching.result
    _ c.requires.character c.first_reaching.ensures

pub returns-clause-leads : goal.returns-clause-leads
returns-clause-leads c =
    leads_at c.requires.arcs.0 c.args.arcs.now c.requires.arcs.1 c.args.code c.first_reaching.result
    _ c.requires.character c.first_reaching.ensures

pub returns-clause-found : goal.returns-clause-found
returns-clause-found c =
    Contains-get_or c.args.arcs.now c.first_reaching.result
    _ (within_at c.requires.arcs.0 c.args.arcs.now c.requires.arcs.1 c.args.code c.first_reaching.result
    c.requires.character c.first_reaching.ensures)
