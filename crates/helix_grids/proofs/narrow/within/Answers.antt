use Rattle.helix_grids.proofs.Narrowing.{members_within}
use Rattle.helix_grids.proofs.narrow.within.Goals as goal

pub returns-in_ok-members-in-Listed-clause-exact : goal.returns-in_ok-members-in-Listed-clause-exact
returns-in_ok-members-in-Listed-clause-exact g c =
    rw c.in-Listed.is (members_within _ _ _ _ (rw c.as_slice.ensures.value at c.in_ok-members-in-Listed.ensures))

pub returns-in_ok-next-in-Sifted-clause-form : goal.returns-in_ok-next-in-Sifted-clause-form
returns-in_ok-next-in-Sifted-clause-form g c =
    let form = rw c.in-Sifted.is at c.requires.form in
    let kept = rw c.as_slice-in-Sifted.ensures.value at c.in_ok-excluded-in-Sifted.ensures in
    record {
      window = c.requires.window;
      ascending = kept.ascending form.ascending;
      same_length = rw c.as_slice-in-Sifted-2.ensures.value at c.in_ok-next-in-Sifted.ensures.len;
      next = rw c.as_slice-in-Sifted-2.ensures.value at c.in_ok-next-in-Sifted.ensures.next;
    }
