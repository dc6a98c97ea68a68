-- Where a code is looked up.
use Rattle.std.specs.Prelude.{ℕ, ◌<◌, ◌≤◌, List, length, get_or}
use Rattle.helix_automata.specs.declared.arc.Arc.{Arc}

-- the arcs before an index end below a code, and those from it on don't
pub record IsFirstReaching (arcs : List Arc) (code at : ℕ) : Type 0 where
  pub within : at ≤ length arcs
  pub before : (k : ℕ) (d : Arc) → k < at → (get_or arcs k d).last < code
  pub reaching : (k : ℕ) (d : Arc) → at ≤ k → k < length arcs → code ≤ (get_or arcs k d).last
