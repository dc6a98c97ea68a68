use Rattle.std.proofs.Common.{◌^◌, ◌≤◌, arith}
use Rattle.std.proofs.Math.Nat.{pow-le-pow_right, one-le-pow}
use Rattle.helix_profile.proofs.grid.is_multiple.Goals as goal

pub pow-requires : goal.pow-requires
pow-requires c =
    let most : 10 ^ c.args.level ≤ 10 ^ 38 = pow-le-pow_right {n = 10} (omega arith) {i = c.args.level} {j =
    38} (omega arith) in
    omega arith

pub nonzero_rem-result : goal.nonzero_rem-result
nonzero_rem-result c = omega (arith, c.pow.ensures, one-le-pow c.args.level 10 (omega arith))
