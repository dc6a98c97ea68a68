use Rattle.std.proofs.Common.{true, ◌≡◌, ◌↔◌, subst, sym, ap, ◌∙◌}
use Rattle.std.specs.List.{Contains}
use Rattle.helix_values.specs.Order.{cell_cmp}
use Rattle.helix_values.specs.View.{cell_of}
use Rattle.std.proofs.lemmas.Bool.{false≢true}
use Rattle.helix_domains.proofs.Orders.{is_first, none_first}
use Rattle.helix_domains.proofs.listed.is_listed.Goals as goal

pub returns-in-Some : goal.returns-in-Some
returns-in-Some c =
    subst (λ b. (b ≡ true) ↔ Contains c.args.cells.now (cell_of c.args.value)) (sym c.is_eq.ensures)
    (is_first c.args.cells.now c.requires c.args.value c.first_admitted-index.result
    c.first_admitted-index.ensures.before c.first_admitted-index.ensures.from c.in-Some.cell.now c.order_of.result
    c.in-Some.ensures.lookup.3.0 (c.in-Some.ensures.lookup.3.1 c.in-Some.cell.now)
    (c.order_of.ensures ∙ ap (λ v. cell_cmp v (cell_of c.args.value)) c.view.ensures))

pub returns-in-None : goal.returns-in-None
returns-in-None c = (
  (λ no. absurd (false≢true no)),
  (λ has. absurd (none_first c.args.cells.now c.requires c.args.value c.first_admitted-index.result
      c.first_admitted-index.ensures.before c.first_admitted-index.ensures.from c.in-None.ensures.lookup.3 has)),
)
