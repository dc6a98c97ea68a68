use Rattle.std.proofs.Common.{true, ◌≡◌, ◌↔◌, subst, sym, ap, ◌∙◌}
use Rattle.std.proofs.lemmas.Bool.{false≢true}
use Rattle.helix_values.specs.Order.{cell_cmp}
use Rattle.helix_values.specs.View.{cell_of}
use Rattle.helix_words.specs.Words.{IsWordCell}
use Rattle.helix_domains.proofs.Orders.{least_is_it, none_is_it}
use Rattle.helix_domains.proofs.question.has_text.Goals as goal

pub returns-then-at_or_after : goal.returns-then-at_or_after
returns-then-at_or_after c =
    subst (λ b. (b ≡ true) ↔ IsWordCell c.args.words.now (cell_of c.args.value)) (sym c.is_eq.ensures)
    (least_is_it (IsWordCell c.args.words.now) c.args.value c.at_or_after.new.out c.order_of.result
    c.if-at_or_after.ensures.answer
    (c.order_of.ensures ∙ ap (λ v. cell_cmp v (cell_of c.args.value)) c.view.ensures))

pub returns-else-at_or_after : goal.returns-else-at_or_after
returns-else-at_or_after c = (
  (λ wrong. absurd (false≢true wrong)),
  (λ has. absurd (none_is_it (IsWordCell c.args.words.now) c.args.value c.if-at_or_after.ensures.answer.1 has)),
)
