use Rattle.std.proofs.Common.{◌≡◌, ◌∙◌, ◌&&◌, false, ap, length, nat_le, sym}
use Rattle.std.proofs.lemmas.Bool.{le-leb, lt-leb}
use Rattle.helix_fields.specs.RefusalLaws.{list_within}
use Rattle.helix_fields.proofs.whole.is_list_within.Goals as goal

pub returns-then-least-items : goal.returns-then-least-items
returns-then-least-items c = sym (list_within c.args.least c.args.most c.args.json.now c.in-Some.items.now
    c.in-Some.ensures.some ∙ ap (λ b. b && nat_le (length c.in-Some.items.now) c.args.most)
    (le-leb c.args.least (length c.in-Some.items.now) c.if-least-items.true))

pub returns-else-least-items : goal.returns-else-least-items
returns-else-least-items c =
    let few : nat_le c.args.least (length c.in-Some.items.now) ≡ false =
    lt-leb c.args.least (length c.in-Some.items.now) c.if-least-items.false in
    few ∙ sym (list_within c.args.least c.args.most c.args.json.now c.in-Some.items.now
    c.in-Some.ensures.some ∙ ap (λ b. b && nat_le (length c.in-Some.items.now) c.args.most) few)
