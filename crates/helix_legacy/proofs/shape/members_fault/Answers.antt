use Rattle.std.proofs.Common.{sym, ◌∙◌}
use Rattle.helix_legacy.proofs.Shapes.{other_keys, a_list, not_a_list}
use Rattle.helix_legacy.proofs.shape.members_fault.Goals as goal

pub returns-then-not-are_two_keys : goal.returns-then-not-are_two_keys
returns-then-not-are_two_keys c = other_keys c.args.members.now c.top.result
    (sym c.are_two_keys.ensures ∙ c.if-not-are_two_keys.true) c.top.ensures

pub returns-then-has_list : goal.returns-then-has_list
returns-then-has_list c = a_list c.args.members.now (sym c.are_two_keys.ensures ∙ c.if-not-are_two_keys.false)
    (sym c.has_list.ensures ∙ c.if-has_list.true)

pub returns : goal.returns
returns c = not_a_list c.args.members.now (sym c.are_two_keys.ensures ∙ c.if-not-are_two_keys.false)
    (sym c.has_list.ensures ∙ c.if-has_list.false) c.in_ok-place_of.field-0 c.in_ok-place_of.ensures
