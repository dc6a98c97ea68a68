-- Ends that leave room for the cells after them.
use Rattle.std.proofs.Common.{◌≡◌, ℕ, ◌+◌, ◌-◌, ◌*◌, ◌<◌, ◌≤◌, zero, suc, List, [], ◌∷◌, ◌++◌, length, get_or, take, refl, ap, arith}
use Rattle.helix_output.specs.Inner.Cells.{end_of}
use Rattle.helix_output.specs.Inner.Room.{AreShort, cell_room}

short-push : (n : ℕ) (ends : List ℕ) (at : ℕ) → AreShort n ends → at ≤ cell_room * suc (n + length ends)
    → AreShort n (ends ++ at ∷ [])
short-push n [] at short within = (omega arith, tt)
short-push n (end ∷ ends) at short within = (short.0, short-push (suc n) ends at short.1 (omega arith))

-- one end more
pub short-more : (ends next : List ℕ) (i at : ℕ) → length ends ≡ i → AreShort 0 ends → at ≤ cell_room * (i + 1)
    → next ≡ ends ++ at ∷ [] → AreShort 0 next
short-more ends next i at count short within is = rw is (short-push 0 ends at short (omega arith))

pub short-take : (k n : ℕ) (ends : List ℕ) → AreShort n ends → AreShort n (take k ends)
short-take zero n ends short = tt
short-take (suc k) n [] short = tt
short-take (suc k) n (end ∷ ends) short = (short.0, short-take k (suc n) ends short.1)

short-at : (n : ℕ) (ends : List ℕ) (i : ℕ) → i < length ends → AreShort n ends
    → get_or ends i 0 ≤ cell_room * suc (n + i)
short-at n [] i within short = absurd (omega arith)
short-at n (end ∷ ends) zero within short = omega (arith, short.0)
short-at n (end ∷ ends) (suc i) within short = omega (arith, short-at (suc n) ends i (omega arith) short.1)

-- the first cells are within their room
pub end_short : (n : ℕ) (ends : List ℕ) → n ≤ length ends → AreShort 0 ends → end_of n ends ≤ cell_room * n
end_short zero ends within short = omega arith
end_short (suc n) ends within short = omega (arith, short-at 0 ends n (omega arith) short)

-- the end of the first cells, as code reads it
pub end_of_some : (n : ℕ) (ends : List ℕ) (end : ℕ) → (n ≡ 0 → ⊥) → end ≡ get_or ends (n - 1) 0 → end ≡ end_of n ends
end_of_some zero ends end some is = absurd (some refl)
end_of_some (suc n) ends end some is =
    let before : suc n - 1 ≡ n = omega arith in
    rw is (ap (λ k. get_or ends k 0) before)
