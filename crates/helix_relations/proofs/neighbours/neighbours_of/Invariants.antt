use Rattle.helix_values.specs.Class.{class_of_kind}
use Rattle.helix_relations.specs.Inner.Kept.{joints_of}
use Rattle.helix_relations.specs.Inner.FindingLaws.{AreFound}
use Rattle.helix_relations.proofs.neighbours.neighbours_of.Given as goal

abbrev pub invariant-loop-node : goal.invariant-loop-node
invariant-loop-node l = AreFound (joints_of l.nodes) l.relations (record { number = l.number; class = class_of_kind l.kind }) l.node l.neighbours
