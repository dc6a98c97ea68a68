use Rattle.std.proofs.Common.{◌≡◌, ◌-◌, [], ◌∷◌, ◌++◌, codes, drop, length}
use Rattle.helix_places.specs.declared.place.Step.TheVariants as step
use Rattle.helix_schema.proofs.mention.operand_place.Given as goal

abbrev pub invariant-loop-i : goal.invariant-loop-i
invariant-loop-i l = l.place ≡ drop (length l.path - l.i) l.path ++ step.Member (codes "inSet") ∷ []
