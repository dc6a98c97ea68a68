-- The division of the words, a word at a time.
use Rattle.std.proofs.Common.{◌≡◌, ℕ, zero, suc, ◌+◌, ◌<◌, true, false, List, [], ◌∷◌, length, drop, get_or, refl, ap, arith, add-one}
use Rattle.helix_command.specs.Groups.{group_of, groups_from, takes_next}

drop_suc : (words : List (List ℕ)) (i : ℕ) → i < length words
    → drop i words ≡ get_or words i [] ∷ drop (suc i) words
drop_suc [] i within = absurd (omega arith)
drop_suc (word ∷ words) zero within = refl
drop_suc (word ∷ words) (suc i) within = drop_suc words i (omega arith)

-- the words from one that is a value
pub groups_passed : (words : List (List ℕ)) (i number : ℕ) → i < length words
    → groups_from number true (drop i words) ≡ groups_from (number + 1) false (drop (i + 1) words)
groups_passed words i number within =
    rw (add-one i) (ap (λ ws. groups_from number true ws) (drop_suc words i within))

-- the words from one that begins a group
pub groups_begun : (words : List (List ℕ)) (i number : ℕ) → i < length words
    → groups_from number false (drop i words)
    ≡ group_of number (get_or words i []) (drop (i + 1) words)
    ∷ groups_from (number + 1) (takes_next (get_or words i [])) (drop (i + 1) words)
groups_begun words i number within =
    rw (add-one i) (ap (λ ws. groups_from number false ws) (drop_suc words i within))

pub ruleset groups_step = (groups_passed, groups_begun)
