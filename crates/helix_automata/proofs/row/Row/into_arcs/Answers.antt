use Rattle.std.proofs.Common.{◌∙◌, ap, sym, subst}
use Rattle.helix_automata.specs.Shape.{AreArcs}
use Rattle.helix_automata.specs.Inner.Row.{AreNamed}
use Rattle.helix_automata.proofs.OneMoreArc.{begun_all}
use Rattle.helix_automata.proofs.row.Row.into_arcs.Goals as goal

pub returns-clause-shape : goal.returns-clause-shape
returns-clause-shape c states named = subst (AreArcs states) (sym c.from_vec.ensures)
    (begun_all c.self.inside.arcs.items c.self.inside.next c.self.invariant (ap (λ r. r.next) c.self.view_is
    ∙ c.requires) states
    (subst (AreNamed states) (sym (ap (λ r. r.arcs) c.self.view_is)) named))
