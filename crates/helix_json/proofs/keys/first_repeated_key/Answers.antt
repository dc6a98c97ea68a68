use Rattle.std.proofs.Common.{sym, subst}
use Rattle.std.specs.BTreeSet.{BTreeSet}
use Rattle.helix_json.proofs.Repeats.{KeyAt}
use Rattle.helix_json.proofs.Checked.{Next, found, new_key, passed_over, checked_more, closes_inside}
use Rattle.helix_json.proofs.keys.first_repeated_key.Goals as goal
use Rattle.helix_json.proofs.keys.first_repeated_key.Goals.{in-Some+in_ok-insert+else-not-branch, in_default}

pub returns-then-not-branch-clause-some : goal.returns-then-not-branch-clause-some
returns-then-not-branch-clause-some c =
    found c.args.tokens.now c.loop-i.i c.loop-i.start c.index-tokens-i.result c.loop-i.outer.items c.loop-i-test.true
    c.index-tokens-i.is c.loop-i.seen.keys
    c.in-Some.key c.in_ok-insert.field-0 c.loop-i.invariant c.in-Some.ensures.some c.in_ok-insert.ensures.added
    c.if-not-branch.true

pub pass-requires-clause-inside : goal.pass-requires-clause-inside
pass-requires-clause-inside c =
    closes_inside c.args.tokens.now c.loop-i.i c.loop-i.start c.index-tokens-i.result c.loop-i.outer.items
    c.loop-i-test.true c.index-tokens-i.is c.loop-i.seen.keys c.requires c.loop-i.invariant

pub loop-i-preserved : goal.loop-i-preserved
loop-i-preserved c =
    checked_more c.args.tokens.now c.loop-i.i c.loop-i.start c.index-tokens-i.result c.loop-i.outer.items
    c.loop-i-test.true c.index-tokens-i.is c.loop-i.seen.keys c.match-leading_key.seen.keys
    c.pass.new.outer.items c.in_ok-start.start c.loop-i.invariant
    (elim c.match-leading_key.branch [
      | in-Some+in_ok-insert+else-not-branch w ↦ subst (λ (s : BTreeSet KeyAt). Next c.args.tokens.now c.loop-i.i
          c.index-tokens-i.result s.keys) (sym w.seen-is)
          (new_key c.args.tokens.now c.loop-i.i c.loop-i.start c.index-tokens-i.result c.loop-i.outer.items
          c.loop-i-test.true c.index-tokens-i.is c.loop-i.seen.keys w.insert.new.self.keys
          w.in-Some.key w.in_ok-insert.field-0 c.loop-i.invariant w.in-Some.ensures.some w.in_ok-insert.ensures.added
          w.if-not-branch.false w.in_ok-insert.ensures.updates.0)
      | in_default w ↦ subst (λ (s : BTreeSet KeyAt). Next c.args.tokens.now c.loop-i.i c.index-tokens-i.result s.keys)
          (sym w.seen-is)
          (passed_over c.args.tokens.now c.loop-i.i c.loop-i.start c.index-tokens-i.result c.loop-i.outer.items
          c.loop-i-test.true c.index-tokens-i.is c.loop-i.seen.keys
          c.loop-i.invariant w.in_default.ensures.none)
    ]) c.in_ok-start.ensures
