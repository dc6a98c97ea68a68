use Rattle.std.proofs.Common.{◌≡◌, take}
use Rattle.helix_relations.specs.Inner.Kept.{seen_from}
use Rattle.helix_relations.proofs.neighbours.seen_from.Given as goal

abbrev pub invariant-loop-signed : goal.invariant-loop-signed
invariant-loop-signed l = l.seen ≡ seen_from (take l.signed-index l.relations) l.parent l.fn.child
