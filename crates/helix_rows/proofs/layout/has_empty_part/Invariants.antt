use Rattle.std.proofs.Common.{◌≡◌, [], take}
use Rattle.std.specs.List.{All}
use Rattle.helix_rows.proofs.layout.has_empty_part.Given as goal

abbrev pub invariant-loop-part : goal.invariant-loop-part
invariant-loop-part l = All (λ part. ¬ (part.regions ≡ [])) (take l.part-index l.layout.parts)
