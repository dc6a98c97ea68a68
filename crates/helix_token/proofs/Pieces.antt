-- Pieces, added one after the other.
use Rattle.std.proofs.Common.{◌≡◌, ℕ, ◌+◌, ◌<◌, List, [], ◌∷◌, ◌++◌, get_or, take, length, sym, ◌∙◌, ap}
use Rattle.std.specs.Prelude.{flat_map}
use Rattle.std.proofs.lemmas.List.{flat_map_more, take_more}

-- one piece more
pub piece_further : (f : List ℕ → List ℕ) (before : List ℕ) (pieces : List (List ℕ)) (i : ℕ) (piece : List ℕ)
    → i < length pieces → piece ≡ get_or pieces i piece
    → (before ++ flat_map f (take i pieces)) ++ f piece ≡ before ++ flat_map f (take (i + 1) pieces)
piece_further f before pieces i piece within is =
    flat_map_more f before (take i pieces) piece
    ∙ ap (λ (ps : List (List ℕ)). before ++ flat_map f ps)
    (ap (λ (p : List ℕ). take i pieces ++ p ∷ []) is ∙ sym (take_more pieces i piece within))
