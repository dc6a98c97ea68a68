use Rattle.std.proofs.Common.{arith, ap, ◌∙◌, ◌++◌, ◌∷◌, []}
use Rattle.std.proofs.lemmas.Result.{on_ok_weaker}
use Rattle.helix_workload.proofs.Members.{one_member, last_member}
use Rattle.helix_workload.proofs.text.push_members.Goals as goal

pub loop-left-preserved : goal.loop-left-preserved
loop-left-preserved c = record {
  some = omega (arith, c.loop-left-test.true);
  within = omega (arith, c.loop-left.invariant.within);
  rest = one_member c.args.least c.loop-left.left c.loop-left.text.items c.push.new.self.items _
      (omega (arith, c.loop-left-test.true)) c.loop-left.invariant.rest
      (c.in_ok-push.ensures.items ∙ ap (λ text. text ++ 44 ∷ []) c.in_ok-push_number.ensures);
}

pub returns : goal.returns
returns c = on_ok_weaker c.push_number-2.result
    (λ is. last_member c.args.least c.loop-left.left c.loop-left.text.items c.push_number-2.new.text.items _
    (omega (arith, c.loop-left-test.false, c.loop-left.invariant.some)) c.loop-left.invariant.rest is)
    c.push_number-2.ensures
