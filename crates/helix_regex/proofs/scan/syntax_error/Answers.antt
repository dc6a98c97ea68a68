use Rattle.std.proofs.Common.{sym, rules}
use Rattle.helix_regex.proofs.Scanned.{scanned_start, character_at, step_depth, scanned_next, scanned_all, leaves_inside, leaves_at_end, writes}
use Rattle.helix_regex.proofs.scan.syntax_error.Goals as goal

pub loop-i-init : goal.loop-i-init
loop-i-init c = record { scanned = scanned_start; shallow = search rules }

pub advance-requires-clause-character : goal.advance-requires-clause-character
advance-requires-clause-character c = character_at c.args.codes.now c.loop-i.i c.requires c.loop-i-test.true

pub returns-in_default-clause-some : goal.returns-in_default-clause-some
returns-in_default-clause-some c = leaves_inside c.args.codes.now c.loop-i.i c.loop-i.position c.loop-i-test.true
    c.loop-i.invariant.scanned (sym c.in_default.ensures)

pub loop-i-preserved : goal.loop-i-preserved
loop-i-preserved c = record {
  scanned = scanned_next c.args.codes.now c.loop-i.i c.loop-i.position c.in-Some.next c.loop-i-test.true
      c.loop-i.invariant.scanned c.in-Some.ensures;
  shallow = step_depth c.loop-i.position _ c.in-Some.next c.loop-i.i c.loop-i.invariant.shallow c.in-Some.ensures;
}

pub returns-then-may_end-clause-none : goal.returns-then-may_end-clause-none
returns-then-may_end-clause-none c = writes c.args.codes.now c.loop-i.position
    (scanned_all c.args.codes.now c.loop-i.i c.loop-i.position c.loop-i-test.false c.loop-i.invariant.scanned)
    (sym c.if-may_end.ensures)

pub returns-else-may_end-clause-some : goal.returns-else-may_end-clause-some
returns-else-may_end-clause-some c = leaves_at_end c.args.codes.now c.loop-i.position
    (scanned_all c.args.codes.now c.loop-i.i c.loop-i.position c.loop-i-test.false c.loop-i.invariant.scanned)
    (sym c.if-may_end.ensures)
