use Rattle.std.proofs.Common.{◌<◌, All, take}
use Rattle.helix_words.proofs.reach.arcs_reaching.Given as goal

abbrev pub invariant-loop-i : goal.invariant-loop-i
invariant-loop-i l = All (λ arc. arc.last < l.code) (take l.i l.arcs)
