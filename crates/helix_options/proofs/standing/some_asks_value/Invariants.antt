use Rattle.std.proofs.Common.{◌≡◌, false, take}
use Rattle.std.specs.List.{list_any}
use Rattle.helix_options.specs.Inner.Literals.{asks_value}
use Rattle.helix_options.proofs.standing.some_asks_value.Given as goal

abbrev pub invariant-loop-literal : goal.invariant-loop-literal
invariant-loop-literal l = list_any (asks_value l.field) (take l.literal-index l.literals) ≡ false
