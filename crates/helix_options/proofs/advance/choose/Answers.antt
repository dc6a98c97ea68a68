use Rattle.std.proofs.Common.{true, subst, ap, ◌∙◌, ◌∷◌, [], ◌++◌, sym}
use Rattle.helix_options.proofs.Judging.{head_apart}
use Rattle.helix_options.proofs.Demanding.{stands_at}
use Rattle.helix_options.proofs.Stepping.{part_refuted, last_part, first_part}
use Rattle.helix_options.specs.Inner.Search.{GoesOn, both, one_step, one_of, search_all, one_path, found_by_all, with_branch}
use Rattle.helix_options.specs.declared.standing.Standing.TheVariants.{Refuted, Open}
use Rattle.helix_options.proofs.advance.choose.Goals as goal
use Rattle.helix_options.proofs.advance.choose.Goals.{then-not-is_empty+in_ok-other-in-Open+in_ok-push-in-Open, else-not-is_empty}

pub returns-in_ok-push-in-Refuted : goal.returns-in_ok-push-in-Refuted
returns-in_ok-push-in-Refuted c = part_refuted c.args.nullable.now c.args.branch.now c.args.others.now.items
    c.args.parts
    c.remove-tree.result c.remove-tree.new.self c.args.sign _
    (head_apart c.args.parts c.remove-tree.result c.remove-tree.new.self c.remove-tree.ensures.item
    c.remove-tree.ensures.rest)
    (stands_at c.args.nullable.now c.remove-tree.result c.args.sign c.args.branch.now.literals c.as_slice.result.now
    Refuted c.as_slice.ensures c.in-Refuted.ensures)
    (λ i. record {
      literals = c.args.branch.now.literals;
      demands = (c.in_ok-push-in-Refuted.ensures.ok
          ∙ ap (λ demand. c.args.branch.now.demands ++ demand ∷ []) c.some_of.ensures) i;
    })

pub returns-in_ok-push-in-Open-2 : goal.returns-in_ok-push-in-Open-2
returns-in_ok-push-in-Open-2 c =
    let apart = head_apart c.args.parts c.remove-tree.result c.remove-tree.new.self c.remove-tree.ensures.item
    c.remove-tree.ensures.rest in
    let stands = stands_at c.args.nullable.now c.remove-tree.result c.args.sign c.args.branch.now.literals
    c.as_slice.result.now Open c.as_slice.ensures c.in-Open.ensures in
    elim c.if-not-is_empty.branch [
      | then-not-is_empty+in_ok-other-in-Open+in_ok-push-in-Open w ↦ first_part c.args.nullable.now c.args.branch.now
          c.args.others.now.items c.args.parts c.remove-tree.result c.remove-tree.new.self c.args.sign _ _ apart stands
          (λ i. record {
            literals = c.args.branch.now.literals;
            demands = c.in_ok-push-in-Open-2.ensures.ok i;
          })
          (ap (λ v. v.items) w.others-is ∙ (w.in_ok-push-in-Open.ensures.items
          ∙ ap (λ other. c.args.others.now.items ++ other ∷ []) w.in_ok-other-in-Open.ensures))
      | else-not-is_empty w ↦
          subst (λ others. GoesOn (both (one_step (one_of c.args.nullable.now c.args.parts c.args.sign
          c.args.branch.now.literals (search_all c.args.nullable.now c.args.branch.now.demands one_path)))
          (found_by_all c.args.nullable.now c.args.others.now.items))
          (with_branch c.args.nullable.now true
          (record { literals = c.args.branch.now.literals; demands = c.push-in-Open.new.self }) others))
          (ap (λ v. v.items) (sym w.others-is))
          (last_part c.args.nullable.now c.args.branch.now c.args.others.now.items c.args.parts c.remove-tree.result
          c.args.sign _ (apart ∙ ap (λ parts. c.remove-tree.result ∷ parts)
          (c.is_empty-in-Open.ensures.0 w.if-not-is_empty.false)) stands
          (λ i. record {
            literals = c.args.branch.now.literals;
            demands = c.in_ok-push-in-Open-2.ensures.ok i;
          }))
    ]
