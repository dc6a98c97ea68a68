use Rattle.std.proofs.Common.{FitsSigned, to_z-of_z}
use Rattle.std.specs.Int.{w128}
use Rattle.helix_grids.proofs.members.first_member.Goals as goal

pub first_sifted-requires-clause-next : goal.first_sifted-requires-clause-next
first_sifted-requires-clause-next g c =
    let form = rw c.in-Sifted.is at c.requires in
    rw (c.as_slice-in-Sifted.ensures.value, c.as_slice-in-Sifted-2.ensures.value) (form.next _)

pub returns-in-Sifted : goal.returns-in-Sifted
returns-in-Sifted g c =
    let bound : FitsSigned w128 c.args.bound = c.ranges.bound in
    rw c.in-Sifted.is (rw c.as_slice-in-Sifted.ensures.value at (simp to_z-of_z at c.first_sifted.ensures))
