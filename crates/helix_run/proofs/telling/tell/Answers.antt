use Rattle.std.proofs.Common.{ap, subst, ◌∙◌}
use Rattle.helix_outside.specs.Console.{AddsLine}
use Rattle.helix_run.specs.Inner.Outcome.{status_for}
use Rattle.helix_run.proofs.telling.tell.Goals as goal

pub returns : goal.returns
returns g c = record {
  result = c.line-shown.result;
  added = subst (λ line. AddsLine (g.C.Console.screen c.args.console.now) line c.line-shown.result
      (g.C.Console.screen c.line-shown.new.self))
      (c.as_bytes.ensures.value ∙ c.as_str.ensures.value ∙ c.line_for-line.ensures) c.line-shown.ensures;
  status = c.status_for.ensures ∙ ap (status_for c.args.outcome) c.is_ok.ensures.value;
}
