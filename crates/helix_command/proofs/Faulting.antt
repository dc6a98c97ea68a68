-- The faults of groups, a group at a time.
use Rattle.std.proofs.Common.{◌≡◌, ℕ, zero, suc, ◌+◌, ◌<◌, List, [], ◌∷◌, length, take, drop, get_or, refl, ap, arith, add-one}
use Rattle.std.specs.Option.{option_or}
use Rattle.std.proofs.lemmas.List.{take_more}
use Rattle.helix_command.specs.declared.group.Group.{Group}
use Rattle.helix_command.specs.Faults.{group_fault, fault_after}

drop_suc : (groups : List Group) (i : ℕ) (default : Group) → i < length groups
    → drop i groups ≡ get_or groups i default ∷ drop (suc i) groups
drop_suc [] i default within = absurd (omega arith)
drop_suc (group ∷ groups) zero default within = refl
drop_suc (group ∷ groups) (suc i) default within = drop_suc groups i default (omega arith)

pub fault_step : (groups : List Group) (i : ℕ) (default : Group) → i < length groups
    → fault_after (take i groups) (drop i groups)
    ≡ option_or (group_fault (take i groups) (get_or groups i default))
    (fault_after (take (i + 1) groups) (drop (i + 1) groups))
fault_step groups i default within =
    rw (take_more groups i default within, add-one)
    (ap (λ gs. fault_after (take i groups) gs) (drop_suc groups i default within))
