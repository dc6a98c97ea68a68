use Rattle.std.proofs.Common.{◌≡◌, ◌/◌, arith}
use Rattle.helix_ladders.proofs.PowersOfTen.{remainder_in_two}
use Rattle.helix_ladders.proofs.decades.remainder_of_ten.Goals as goal

pub returns-in-Ok-try_from : goal.returns-in-Ok-try_from
returns-in-Ok-try_from c =
    let high : c.in-Ok-try_from.high ≡ c.args.number / c.power_of_two-two.result = omega arith in
    remainder_in_two c.args.number c.args.level c.in-Ok-try_from.high _ _ c.power_of_five.ensures.value
    c.power_of_two-two.ensures.value high
