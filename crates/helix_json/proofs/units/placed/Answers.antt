use Rattle.std.proofs.Common.{arith}
use Rattle.helix_json.proofs.Decimal.{placed_below, placed_at, placed_above}
use Rattle.helix_json.proofs.Options.{some_map, none_map}
use Rattle.helix_json.proofs.units.placed.Goals as goal

pub returns-then-up-down-clause-none : goal.returns-then-up-down-clause-none
returns-then-up-down-clause-none c = λ n small. placed_below c.args.number c.args.up c.args.down n c.requires.some
    (omega arith)

pub returns-clause-some : goal.returns-clause-some
returns-clause-some c = some_map _ _ c.scaled.result (λ n h. (
  h.1,
  placed_at c.args.number c.args.up c.args.down n (omega arith) h.0,
)) c.scaled.ensures.within

pub returns-clause-none : goal.returns-clause-none
returns-clause-none c = none_map _ _ c.scaled.result
    (λ h n small. placed_above _ c.args.number c.args.up c.args.down n (omega arith) h small) c.scaled.ensures.above
