use Rattle.std.proofs.Common.{◌≡◌, ◌∷◌, take}
use Rattle.helix_token.proofs.write.marked.Given as goal

abbrev pub invariant-loop-code : goal.invariant-loop-code
invariant-loop-code l = l.made ≡ 61 ∷ take l.code-index l.text
