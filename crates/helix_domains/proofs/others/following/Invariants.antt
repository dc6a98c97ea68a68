use Rattle.std.proofs.Common.{take}
use Rattle.helix_domains.specs.Inner.Spelling.{AreFollowing}
use Rattle.helix_domains.proofs.others.following.Given as goal

abbrev pub invariant-loop-number : goal.invariant-loop-number
invariant-loop-number l = AreFollowing l.cells l.place (take l.number-index l.numbers) l.code l.next.items
