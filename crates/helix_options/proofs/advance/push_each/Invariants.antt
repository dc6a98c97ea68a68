use Rattle.std.proofs.Common.{◌≡◌, ◌++◌, length}
use Rattle.helix_options.specs.Inner.Search.{demands_for}
use Rattle.helix_options.proofs.advance.push_each.Given as goal

abbrev pub invariant-loop-tree : goal.invariant-loop-tree
invariant-loop-tree l =
    l.demands ++ demands_for l.parts l.sign ≡ l.initial.demands ++ demands_for l.initial.parts l.sign

abbrev pub decreases-loop-tree : goal.decreases-loop-tree
decreases-loop-tree l = length l.parts
