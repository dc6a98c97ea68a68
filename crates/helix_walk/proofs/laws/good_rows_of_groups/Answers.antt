use Rattle.helix_walk.proofs.GoodRows.{good_in_each}
use Rattle.helix_walk.proofs.laws.good_rows_of_groups.Goals as goal

pub returns : goal.returns
returns c = λ profile groups lists partition are row. good_in_each profile row groups lists partition are
