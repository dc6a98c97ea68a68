use Rattle.helix_grids.proofs.AllTests.{are_members_of}
use Rattle.helix_grids.proofs.whole.members_of.Goals as goal

pub among_all-requires : goal.among_all-requires
among_all-requires g c =
    let kept = rw c.as_slice.ensures.value at c.in_ok-excluded.ensures in
    record {
      window = c.window_of-window.ensures.kept;
      ascending = kept.ascending c.in_ok-numbers.ensures.ascending;
      same_length = rw c.as_slice-2.ensures.value at c.in_ok-next.ensures.len;
      next = rw c.as_slice-2.ensures.value at c.in_ok-next.ensures.next;
    }

pub returns : goal.returns
returns g c =
    are_members_of (g.S.Scale.ladder c.args.scale.now) c.args.level c.args.tests.now
    (record {
      window = c.window_of-window.result;
      excluded = c.in_ok-excluded.excluded;
      next = c.in_ok-next.next;
    }) c.in_ok-numbers.numbers.items c.among_all.result c.window_of-window.ensures.exact
    c.in_ok-numbers.ensures.exact
    (rw c.as_slice.ensures.value at c.in_ok-excluded.ensures) c.among_all.ensures.form c.among_all.ensures.exact
