-- One more arc after others.
use Rattle.std.specs.Prelude.{◌==◌, if◌then◌else◌, List, [], ◌∷◌}
use Rattle.helix_automata.specs.declared.arc.Arc.{Arc}

-- an arc after others, or made one with the last of them where both lead to one state
abbrev pub with_arc : List Arc → Arc → List Arc
with_arc [] item = item ∷ []
with_arc (arc ∷ []) item =
    if arc.to == item.to then record { first = arc.first; last = item.last; to = arc.to } ∷ [] else arc ∷ item ∷ []
with_arc (arc ∷ next ∷ arcs) item = arc ∷ with_arc (next ∷ arcs) item
