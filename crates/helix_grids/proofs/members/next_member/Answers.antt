use Rattle.std.proofs.Common.{pos, ◌+ℤ◌, FitsSigned, to_z-of_z, arith}
use Rattle.std.specs.Int.{w128}
use Rattle.std.specs.List.{Contains}
use Rattle.helix_grids.proofs.LeastValues.{from_next}
use Rattle.helix_grids.proofs.Meeting.{member_fits}
use Rattle.helix_grids.proofs.members.next_member.Goals as goal

pub overflow_add-member : goal.overflow_add-member
overflow_add-member g c =
    let member : FitsSigned w128 c.args.member = c.ranges.member in
    simp to_z-of_z (member_fits _ (g.met.S.Scale.laws c.args.scale.now) c.args.all.now c.requires.form c.args.member
    c.requires.member 1 (omega arith))

pub next_sifted-requires-clause-next : goal.next_sifted-requires-clause-next
next_sifted-requires-clause-next g c =
    let form = rw c.in-Sifted.is at c.requires.form in
    rw (c.as_slice-in-Sifted.ensures.value, c.as_slice-in-Sifted-2.ensures.value) (form.next _)

pub returns-in-Listed : goal.returns-in-Listed
returns-in-Listed g c =
    let member : FitsSigned w128 c.args.member = c.ranges.member in
    let next : FitsSigned w128 (c.args.member +ℤ pos 1) = member_fits _ (g.met.S.Scale.laws c.args.scale.now)
    c.args.all.now c.requires.form c.args.member c.requires.member 1 (omega arith) in
    rw c.in-Listed.is (from_next (Contains c.in-Listed.list.members.items) c.args.member _
    (rw c.as_slice.ensures.value at (simp to_z-of_z at c.first_from.ensures)))

pub returns-in-Sifted : goal.returns-in-Sifted
returns-in-Sifted g c =
    let member : FitsSigned w128 c.args.member = c.ranges.member in
    rw c.in-Sifted.is (rw c.as_slice-in-Sifted.ensures.value at (simp to_z-of_z at c.next_sifted.ensures))
