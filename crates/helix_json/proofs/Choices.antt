-- A choice by a test.
use Rattle.std.proofs.Common.{◌≡◌, Bool, true, false, cond, refl}

pub choose : {X : Type 0} (P : X → Type 0) (b : Bool) (x y : X) → (b ≡ true → P x) → (b ≡ false → P y) → P (cond b x y)
choose P true x y f g = f refl
choose P false x y f g = g refl
