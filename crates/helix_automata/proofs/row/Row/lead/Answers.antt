use Rattle.std.proofs.Common.{◌∙◌, ap, sym, subst}
use Rattle.helix_automata.specs.Inner.Row.{IsBegun, LeadsMore}
use Rattle.helix_automata.proofs.OneMoreArc.{begun_more, leads_more}
use Rattle.helix_automata.proofs.row.Row.lead.Goals as goal

pub invariant_of-self-2 : goal.invariant_of-self-2
invariant_of-self-2 c =
    subst (λ l. IsBegun (record { arcs = l; next = c.character_above-self-inside.result }))
    (sym c.in_ok-push_arc.ensures.ok)
    (begun_more c.self.inside.arcs.items c.self.inside.next c.character_above-self-inside.result c.args.arc
    c.self.invariant
    (ap (λ r. r.next) c.self.view_is ∙ c.requires.next) c.requires.in_order c.character_above-self-inside.ensures)

pub returns-clause-ok : goal.returns-clause-ok
returns-clause-ok c =
    subst (λ l. LeadsMore c.args.self.now c.args.arc (record { arcs = l; next = c.character_above-self-inside.result }))
    (sym c.in_ok-push_arc.ensures.ok)
    (leads_more c.self.inside.arcs.items c.self.inside.next c.character_above-self-inside.result c.args.arc
    c.self.invariant
    (ap (λ r. r.next) c.self.view_is ∙ c.requires.next) c.requires.in_order c.character_above-self-inside.ensures
    c.args.self.now c.self.view_is)
