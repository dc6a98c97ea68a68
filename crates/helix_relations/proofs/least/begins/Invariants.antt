use Rattle.std.proofs.Common.{◌≡◌, ◌≤◌, length, []}
use Rattle.helix_search.specs.Counting.{CountsGrow}
use Rattle.helix_relations.specs.Asking.{Begins}
use Rattle.helix_relations.specs.Inner.Searched.{region_of}
use Rattle.helix_relations.proofs.least.begins.Given as goal

abbrev pub invariant-loop-before : goal.invariant-loop-before
invariant-loop-before g l = Begins (region_of l.fields) l.prefix l.before
    × (length l.levels ≡ length l.initial.levels) × CountsGrow l.initial.steps l.steps
    × (l.fields.relations.now ≡ [] → l.steps.counts.domain ≤ l.initial.steps.counts.domain)
