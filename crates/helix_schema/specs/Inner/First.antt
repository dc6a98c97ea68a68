-- The index of the first wish that isn't filled.
use Rattle.std.specs.Prelude.{◌≡◌, ℕ, zero, suc, List, [], ◌∷◌, None}
use Rattle.helix_schema.specs.Drafts.{IsFilled}
use Rattle.helix_schema.specs.declared.wish.Wish.{Wish}

-- it isn't filled, and all before it are
abbrev pub IsFirstUnfilled : List Wish → ℕ → Type 0
IsFirstUnfilled [] i = ⊥
IsFirstUnfilled (wish ∷ wishes) zero = wish.members ≡ None
IsFirstUnfilled (wish ∷ wishes) (suc i) = IsFilled wish × IsFirstUnfilled wishes i
