use Rattle.std.proofs.Common.{◌≡◌, Some}
use Rattle.helix_json.specs.declared.value.Json.{Str}
use Rattle.helix_legacy.specs.Broken.{name_in}
use Rattle.helix_places.specs.KeyLaws.{NoneBefore}
use Rattle.helix_legacy.proofs.older.rule_number.Given as goal

abbrev pub invariant-loop-i : goal.invariant-loop-i
invariant-loop-i l = NoneBefore (λ rule. name_in rule ≡ Some (Str l.name)) l.rules l.i
