use Rattle.std.proofs.Common.{subst, sym, ◌∙◌}
use Rattle.std.specs.List.{Contains}
use Rattle.helix_domains.proofs.Orders.{least_at}
use Rattle.helix_words.specs.Questions.{IsLeastAdmitted}
use Rattle.helix_domains.proofs.listed.first_listed.Goals as goal

pub returns-in-Some : goal.returns-in-Some
returns-in-Some c =
    subst (IsLeastAdmitted (Contains c.args.cells.now) c.args.mark)
    (sym (c.set.ensures ∙ c.view.ensures ∙ c.in-Some.ensures.lookup.3.1 c.in-Some.cell.now))
    (least_at c.args.cells.now c.requires.ascending c.args.mark c.first_admitted-index.result
    c.first_admitted-index.ensures.before c.first_admitted-index.ensures.from c.in-Some.cell.now
    c.in-Some.ensures.lookup.3.0)
