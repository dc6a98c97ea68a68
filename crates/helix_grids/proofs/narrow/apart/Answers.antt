use Rattle.helix_grids.proofs.Narrowing.{members_apart, sifted_apart, sorted_alone}
use Rattle.helix_grids.proofs.narrow.apart.Goals as goal

pub returns-in_ok-members-in-Listed-clause-exact : goal.returns-in_ok-members-in-Listed-clause-exact
returns-in_ok-members-in-Listed-clause-exact g c =
    let form = rw c.in-Listed.is at c.requires in
    rw c.in-Listed.is (members_apart _ _ _ _ _ _ form.within (sorted_alone _ _ c.in_ok-numbers-in-Listed.ensures.exact)
    (rw (c.as_slice.ensures.value, c.as_slice-in-Listed.ensures.value) at c.in_ok-members-in-Listed.ensures))

pub returns-in_ok-next-in-Sifted-clause-form : goal.returns-in_ok-next-in-Sifted-clause-form
returns-in_ok-next-in-Sifted-clause-form g c =
    let form = rw c.in-Sifted.is at c.requires in
    record {
      window = form.window;
      ascending = c.in_ok-excluded-in-Sifted.ensures.ascending;
      same_length = rw c.as_slice-in-Sifted-4.ensures.value at c.in_ok-next-in-Sifted.ensures.len;
      next = rw c.as_slice-in-Sifted-4.ensures.value at c.in_ok-next-in-Sifted.ensures.next;
    }

pub returns-in_ok-next-in-Sifted-clause-exact : goal.returns-in_ok-next-in-Sifted-clause-exact
returns-in_ok-next-in-Sifted-clause-exact g c =
    rw c.in-Sifted.is (sifted_apart _ _ _ _ _ _
    (rw c.as_slice-in-Sifted.ensures.value at c.in_ok-others-in-Sifted.ensures)
    (rw (
      c.as_slice-in-Sifted-2.ensures.value,
      c.as_slice-in-Sifted-3.ensures.value,
    ) at c.in_ok-excluded-in-Sifted.ensures.exact))
