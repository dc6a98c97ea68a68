use Rattle.std.proofs.Common.{◌≡◌, drop, take}
use Rattle.helix_places.specs.Members.{value_of}
use Rattle.helix_readings.specs.Given.{AreGiven}
use Rattle.helix_readings.proofs.reading.+read.Given as goal

abbrev pub invariant-read_operand-loop-member : goal.invariant-read_operand-loop-member
invariant-read_operand-loop-member l = value_of l.key (drop l.member-index l.members) ≡ value_of l.key l.members

abbrev pub invariant-read_operands-loop-member : goal.invariant-read_operands-loop-member
invariant-read_operands-loop-member l = value_of l.key (drop l.member-index l.members) ≡ value_of l.key l.members

abbrev pub invariant-read_parts-loop-i : goal.invariant-read_parts-loop-i
invariant-read_parts-loop-i l = AreGiven l.fields l.sets l.place 0 (take l.i l.items) l.parts
