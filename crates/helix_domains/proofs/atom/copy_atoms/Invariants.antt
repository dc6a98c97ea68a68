use Rattle.std.proofs.Common.{◌≡◌, take}
use Rattle.helix_domains.proofs.atom.copy_atoms.Given as goal

abbrev pub invariant-loop-signed : goal.invariant-loop-signed
invariant-loop-signed l = l.copies ≡ take l.signed-index l.atoms
