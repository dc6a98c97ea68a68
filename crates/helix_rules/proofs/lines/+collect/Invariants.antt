use Rattle.std.proofs.Common.{◌≡◌, ◌++◌, take}
use Rattle.std.specs.List.{flat_map}
use Rattle.helix_rules.specs.Inner.Parts.{branches, operands}
use Rattle.helix_rules.specs.Lines.{lines_in}
use Rattle.helix_rules.proofs.lines.+collect.Given as goal

abbrev pub invariant-push_operands-loop-member : goal.invariant-push_operands-loop-member
invariant-push_operands-loop-member l =
    l.lines.items ≡ l.initial.lines.items ++ operands l.fields (take l.member-index l.members)

abbrev pub invariant-push_branches-loop-member : goal.invariant-push_branches-loop-member
invariant-push_branches-loop-member l =
    l.lines.items ≡ l.initial.lines.items ++ branches l.fields (take l.member-index l.members)

abbrev pub invariant-push_items-loop-item : goal.invariant-push_items-loop-item
invariant-push_items-loop-item l =
    l.lines.items ≡ l.initial.lines.items ++ flat_map (lines_in l.fields) (take l.item-index l.items)
