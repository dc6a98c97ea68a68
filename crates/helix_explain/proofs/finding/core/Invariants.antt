use Rattle.std.proofs.Common.{◌≡◌, ◌↔◌, ℕ, ◌+◌, ◌-◌, ◌≤◌, List}
use Rattle.helix_explain.specs.Inner.Stage.{IsStage}
use Rattle.helix_explain.proofs.finding.core.Given as goal

abbrev pub invariant-loop-decided : goal.invariant-loop-decided
invariant-loop-decided g l =
    IsStage (g.E.Emptiness.Empties l.ask) (g.E.Emptiness.count l.ask) (l.count - l.decided) l.chosen
    × (g.E.Emptiness.asked l.ask ≤ g.E.Emptiness.asked l.initial.ask + l.decided)
    × (g.E.Emptiness.count l.ask ≡ g.E.Emptiness.count l.initial.ask)
    × ((numbers : List ℕ) → g.E.Emptiness.Empties l.ask numbers ↔ g.E.Emptiness.Empties l.initial.ask numbers)
