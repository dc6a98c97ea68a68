use Rattle.std.proofs.Common.{◌∙◌, ◌+◌, [], ◌∷◌, ◌++◌, length-append, refl, sym, subst, arith}
use Rattle.csv.specs.Reading.{strip_bom}
use Rattle.csv.specs.Records.{fields_of}
use Rattle.helix_sets.specs.SetFiles.{AreMembers, without_marks}
use Rattle.helix_sets.proofs.Steps.{member_fault, members_more, none_left, none_read, one_more, refused_as, set_read, too_many}
use Rattle.helix_sets.proofs.set_file.listed.Goals as goal

pub returns-then-count-eq0-clause-refused : goal.returns-then-count-eq0-clause-refused
returns-then-count-eq0-clause-refused c = let so_far = c.loop-count.invariant in (
  c.requires,
  none_read c.args.bytes.now so_far.rows
      (none_left c.loop-count.reader c.read.new.reader (fields_of c.read.new.row) c.in_ok-read.field-0
      c.in_ok-read.ensures
      (strip_bom (without_marks c.args.bytes.now)) so_far.rows so_far.read c.if-not-branch.true)
      (so_far.count ∙ c.if-count-eq0.true),
)

pub returns-then-not-branch-clause-read : goal.returns-then-not-branch-clause-read
returns-then-not-branch-clause-read c = let so_far = c.loop-count.invariant in
    set_read c.args.kind c.args.bytes.now c.requires so_far.rows c.loop-count.cells so_far.members
    (none_left c.loop-count.reader c.read.new.reader (fields_of c.read.new.row) c.in_ok-read.field-0
    c.in_ok-read.ensures
    (strip_bom (without_marks c.args.bytes.now)) so_far.rows so_far.read c.if-not-branch.true)
    (omega (arith, so_far.count, c.if-count-eq0.false)) (omega (arith, so_far.count))

pub returns-in_err-member-clause-refused : goal.returns-in_err-member-clause-refused
returns-in_err-member-clause-refused c = let so_far = c.loop-count.invariant in
    refused_as c.args.kind c.args.bytes.now c.from_residual-in_err-member.result c.in_err-member.field-0.0
    c.from_residual-in_err-member.ensures.1
    (member_fault c.args.kind c.args.bytes.now c.requires so_far.rows c.loop-count.cells so_far.members
    (fields_of c.read.new.row) c.read.new.reader
    (one_more c.loop-count.reader c.read.new.reader (fields_of c.read.new.row) c.in_ok-read.field-0 c.in_ok-read.ensures
    (strip_bom (without_marks c.args.bytes.now)) so_far.rows so_far.read c.if-not-branch.false)
    (c.loop-count.count + 1) (omega (arith, so_far.count)) (omega arith) c.in_err-member.field-0.0
    c.in_err-member.ensures.refused)

pub loop-count-preserved : goal.loop-count-preserved
loop-count-preserved c = let so_far = c.loop-count.invariant in record {
  rows = so_far.rows ++ fields_of c.read.new.row ∷ [];
  read = one_more c.loop-count.reader c.read.new.reader (fields_of c.read.new.row) c.in_ok-read.field-0
      c.in_ok-read.ensures
      (strip_bom (without_marks c.args.bytes.now)) so_far.rows so_far.read c.if-not-branch.false;
  count = omega (arith, length-append so_far.rows (fields_of c.read.new.row ∷ []), so_far.count);
  members = subst (AreMembers c.args.kind (so_far.rows ++ fields_of c.read.new.row ∷ [])) (sym c.in_ok-push.ensures.ok)
      (members_more c.args.kind so_far.rows c.loop-count.cells (fields_of c.read.new.row) c.in_ok-member.field-0
      so_far.members c.in_ok-member.ensures.value);
}

pub returns-then-branch-clause-refused : goal.returns-then-branch-clause-refused
returns-then-branch-clause-refused c = let so_far = c.loop-count.invariant in
    too_many c.args.kind c.args.bytes.now c.requires so_far.rows c.loop-count.cells so_far.members
    (fields_of c.read-2.new.row) c.read-2.new.reader
    (one_more c.loop-count.reader c.read-2.new.reader (fields_of c.read-2.new.row) c.in_ok-read-2.field-0
    c.in_ok-read-2.ensures (strip_bom (without_marks c.args.bytes.now)) so_far.rows so_far.read c.if-branch.true)
    10000 refl (omega (arith, so_far.count))

pub returns-clause-read : goal.returns-clause-read
returns-clause-read c = let so_far = c.loop-count.invariant in
    set_read c.args.kind c.args.bytes.now c.requires so_far.rows c.loop-count.cells so_far.members
    (none_left c.loop-count.reader c.read-2.new.reader (fields_of c.read-2.new.row) c.in_ok-read-2.field-0
    c.in_ok-read-2.ensures (strip_bom (without_marks c.args.bytes.now)) so_far.rows so_far.read c.if-branch.false)
    (omega (arith, so_far.count)) (omega (arith, so_far.count))
