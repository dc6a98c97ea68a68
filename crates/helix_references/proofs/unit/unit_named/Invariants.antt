use Rattle.std.proofs.Common.{◌≡◌, drop, find}
use Rattle.std.specs.Str.{bytes_eq}
use Rattle.helix_references.specs.Units.{units, unit_word}
use Rattle.helix_references.proofs.unit.unit_named.Given as goal

abbrev pub invariant-loop-unit : goal.invariant-loop-unit
invariant-loop-unit l = find (λ unit. bytes_eq l.word (unit_word unit)) (drop l.unit-index l.unit-items)
    ≡ find (λ unit. bytes_eq l.word (unit_word unit)) units
