-- Where arcs end.
use Rattle.std.specs.Prelude.{◌≡◌, ℕ, List, Contains}
use Rattle.helix_automata.specs.declared.arc.Arc.{Arc}

-- some arc ends at the code
abbrev pub IsArcEnd : List Arc → ℕ → Type 0
IsArcEnd arcs last = (arc : Arc) × Contains arcs arc × (last ≡ arc.last)
