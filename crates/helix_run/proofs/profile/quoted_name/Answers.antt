use Rattle.std.proofs.Common.{arith, get_or, sym, ap, ◌∙◌}
use Rattle.helix_run.proofs.Names.{QuotedFacts, quoted_facts, IsFlagName-found}
use Rattle.helix_run.proofs.profile.quoted_name.Goals as goal
use Rattle.helix_run.proofs.profile.quoted_name.Goals.{then-first-ne34-via-then-first-ne34, then-first-ne34-via-else-first-ne34+then-end-eq0, then-first-ne34-via-else-first-ne34+else-end-eq0+then-end-gt200, then-first-ne34-via-else-first-ne34+else-end-eq0+else-end-gt200+then-end-inner, then-first-ne34-via-else-first-ne34+else-end-eq0+else-end-gt200+else-end-inner+then-inner-end-ne34}

pub returns-then-first-ne34-clause-none : goal.returns-then-first-ne34-clause-none
returns-then-first-ne34-clause-none c = λ name rest is e.
    let facts : QuotedFacts c.in_ok-first.first.now c.in_ok-first.inner.now =
    quoted_facts c.in_ok-first.first.now c.in_ok-first.inner.now name rest (sym c.in_ok-first.ensures.cases.0 ∙ e)
    is in
    elim c.then-first-ne34.branch [
      | then-first-ne34-via-then-first-ne34 w ↦ omega arith
      | then-first-ne34-via-else-first-ne34+then-end-eq0 w ↦ omega arith
      | then-first-ne34-via-else-first-ne34+else-end-eq0+then-end-gt200 w ↦ omega arith
      | then-first-ne34-via-else-first-ne34+else-end-eq0+else-end-gt200+then-end-inner w ↦ omega arith
      | then-first-ne34-via-else-first-ne34+else-end-eq0+else-end-gt200+else-end-inner+then-inner-end-ne34 w ↦
          w.if-inner-end-ne34.true (ap (λ n. get_or c.in_ok-first.inner.now n 0) c.name_length-end.ensures.value
          ∙ facts.end_quote)
    ]

pub returns-clause-name : goal.returns-clause-name
returns-clause-name c =
    IsFlagName-found c.in_ok-first.inner.now c.name_length-end.result c.name_length-end.ensures.value (omega arith)
    (omega arith) c.name_length-end.ensures.within
