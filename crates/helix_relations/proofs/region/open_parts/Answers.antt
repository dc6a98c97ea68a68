use Rattle.std.proofs.Common.{length, get_or, refl, sym, subst}
use Rattle.std.proofs.lemmas.List.Elements.{All-push}
use Rattle.std.proofs.lemmas.Option.{slice_get_read}
use Rattle.std.specs.List.{All}
use Rattle.helix_relations.specs.Inner.Parts.{IsAlone}
use Rattle.helix_relations.specs.Inner.PutLaws.{parts_more}
use Rattle.helix_relations.proofs.region.open_parts.Goals as goal

pub loop-number-preserved : goal.loop-number-preserved
loop-number-preserved c =
    let number = get_or c.args.numbers.now c.loop-number.number-index 0 in
    let within = c.requires c.loop-number.number-index 0 c.loop-number-test.true in
    let found = slice_get_read c.args.fields.now (length c.args.fields.now) number c.index-fields-number.result refl
    within c.index-fields-number.is in
    record {
      fields = parts_more c.args.fields.now c.args.numbers.now c.loop-number.number-index number
          c.index-fields-number.result c.loop-number-test.true refl found c.loop-number.nodes.items
          c.push.new.self.items c.in_ok-open_node.field-0 c.in_ok-open_node.ensures.field
          c.loop-number.invariant.fields c.in_ok-push.ensures.items;
      alone = subst (All IsAlone) (sym c.in_ok-push.ensures.items)
          (All-push IsAlone c.loop-number.nodes.items c.in_ok-open_node.field-0 c.loop-number.invariant.alone
          c.in_ok-open_node.ensures.alone);
    }
