use Rattle.std.proofs.Common.{◌≡◌, ◌≤◌, ◌-◌, ◌*◌, ◌^◌}
use Rattle.helix_json.proofs.units.scaled.Given as goal

abbrev pub invariant-loop-done : goal.invariant-loop-done
invariant-loop-done l = record {
  within : l.done ≤ l.power;
  product : l.product ≡ l.number * 10 ^ l.done;
  bound : l.product ≤ 10 ^ 35;
}

abbrev pub decreases-loop-done : goal.decreases-loop-done
decreases-loop-done l = l.power - l.done
