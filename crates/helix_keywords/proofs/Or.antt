-- A last test that fails adds nothing to others.
use Rattle.std.proofs.Common.{◌≡◌, Bool, true, false, ◌||◌, refl}

pub none : (b : Bool) → (b || false) ≡ b
none true = refl
none false = refl
