use Rattle.std.proofs.Common.{◌≡◌, ℕ, ◌<◌, ◌≤◌, ◌+◌, length, []}
use Rattle.helix_search.specs.Counting.{CountsGrow}
use Rattle.helix_relations.specs.Inner.Searched.{HasSome, depth_for, region_of}
use Rattle.helix_relations.proofs.least.has_row.Given as goal

abbrev pub invariant-loop-index : goal.invariant-loop-index
invariant-loop-index g l = ((u : ℕ) → u < l.index
    → HasSome (region_of l.fields) (depth_for (length l.fields.nodes.now) (length l.levels)) u)
    × (length l.levels ≡ length l.initial.levels) × CountsGrow l.initial.steps l.steps
    × (l.fields.relations.now ≡ [] → l.steps.counts.domain ≤ l.initial.steps.counts.domain + l.index)
