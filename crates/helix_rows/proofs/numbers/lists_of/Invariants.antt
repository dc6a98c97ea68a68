use Rattle.std.proofs.Common.{◌≡◌, ◌≤◌, length}
use Rattle.std.specs.List.{All}
use Rattle.helix_rows.proofs.numbers.lists_of.Given as goal

abbrev pub invariant-loop : goal.invariant-loop
invariant-loop l = record {
  count : length l.lists.items ≡ l.counter;
  rooms : All (λ listed. listed.room ≡ l.room) l.lists.items;
  few : All (λ listed. length listed.items ≤ listed.room) l.lists.items;
}
