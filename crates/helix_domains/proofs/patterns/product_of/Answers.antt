use Rattle.helix_domains.proofs.Automata.{product_start, product_more}
use Rattle.helix_domains.proofs.patterns.product_of.Goals as goal

pub loop-next-init : goal.loop-next-init
loop-next-init c = product_start c.args.dfas.items c.sort_by_key.new.self.items c.pop.new.self.items c.in-Some.first
    c.in_ok-sort_by_key.ensures.permutation c.in-Some.ensures.items

pub loop-next-preserved : goal.loop-next-preserved
loop-next-preserved c = product_more c.args.dfas.items c.loop-next.left.items c.pop-in-loop-next.new.self.items
    c.loop-next.all c.in-Some-pop.next c.in_ok-all.all c.in-Some-pop.ensures.items c.loop-next.invariant
    c.in_ok-all.ensures.words

pub returns-then-accepts_none : goal.returns-then-accepts_none
returns-then-accepts_none c = λ word characters. (
  (λ accepts. absurd (c.if-accepts_none.ensures word accepts)),
  (λ every. ((c.loop-next.invariant word characters).1 every).1),
)
