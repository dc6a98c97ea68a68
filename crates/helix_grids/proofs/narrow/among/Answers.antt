use Rattle.helix_grids.proofs.Narrowing.{members_among, sifted_among, sorted_alone}
use Rattle.helix_grids.proofs.narrow.among.Goals as goal

pub returns-in-Listed-clause-form : goal.returns-in-Listed-clause-form
returns-in-Listed-clause-form g c =
    let form = rw c.in-Listed.is at c.requires in
    let kept = rw (c.as_slice.ensures.value, c.as_slice-in-Listed.ensures.value) at c.in_ok-members-in-Listed.ensures in
    record {
      window = form.window;
      ascending = kept.ascending c.in_ok-numbers.ensures.ascending;
      within = λ v has. form.within v ((kept.exact v).0 has).1;
    }

pub returns-in-Listed-clause-exact : goal.returns-in-Listed-clause-exact
returns-in-Listed-clause-exact g c =
    rw c.in-Listed.is (members_among _ _ _ _ (sorted_alone _ _ c.in_ok-numbers.ensures.exact)
    (rw (c.as_slice.ensures.value, c.as_slice-in-Listed.ensures.value) at c.in_ok-members-in-Listed.ensures))

pub returns-clause-exact : goal.returns-clause-exact
returns-clause-exact g c =
    rw c.in-Sifted.is (sifted_among _ _ _ _ _ _ (sorted_alone _ _ c.in_ok-numbers.ensures.exact)
    (rw (
      c.as_slice-in-Sifted.ensures.value,
      c.as_slice-in-Sifted-2.ensures.value,
    ) at c.in_ok-members-in-Sifted.ensures))
