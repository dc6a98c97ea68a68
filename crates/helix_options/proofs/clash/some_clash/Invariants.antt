use Rattle.std.proofs.Common.{◌≡◌, false, take}
use Rattle.std.specs.List.{list_any}
use Rattle.helix_options.specs.Inner.Clashes.{clashes_with}
use Rattle.helix_options.proofs.clash.some_clash.Given as goal

abbrev pub invariant-loop-literal : goal.invariant-loop-literal
invariant-loop-literal l = list_any (clashes_with l.atom l.sign) (take l.literal-index l.literals) ≡ false
