use Rattle.std.proofs.Common.{rules}
use Rattle.std.proofs.lemmas.List.Sorted.{IsPartitionedBy-ltb, IsPartitionPoint-from_clause}
use Rattle.helix_automata.proofs.Finding.{ends_below, ends_rise}
use Rattle.helix_automata.proofs.Lookups.{from_point, from_scan}
use Rattle.helix_automata.proofs.lookup.first_reaching.Goals as goal

pub returns-then-arcs-gt-SHORT_ROW : goal.returns-then-arcs-gt-SHORT_ROW
returns-then-arcs-gt-SHORT_ROW c =
    from_point c.requires.0 c.args.arcs.now c.requires.1 c.args.code c.partition_point.result
    c.partition_point.ensures.bound
    (IsPartitionPoint-from_clause (ends_below c.args.code) c.args.arcs.now c.partition_point.result
    c.partition_point.ensures.partitioned
    (IsPartitionedBy-ltb (λ arc. arc.last) c.args.arcs.now c.args.code
    (ends_rise c.args.arcs.now c.requires.1.in_order c.requires.1.used))
    (λ a r f k. search rules))

pub returns-then-code-arc : goal.returns-then-code-arc
returns-then-code-arc c =
    from_scan c.requires.0 c.args.arcs.now c.requires.1 c.args.code c.loop-i.i _ c.loop-i-test.true c.loop-i.invariant
    c.if-code-arc.true
