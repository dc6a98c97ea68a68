use Rattle.std.proofs.Common.{◌≡◌, map, not, take}
use Rattle.helix_automata.proofs.dfa.Dfa.complement.Given as goal

abbrev pub invariant-loop-flag : goal.invariant-loop-flag
invariant-loop-flag l = l.flags ≡ map not (take l.flag-index l.flag-items)
