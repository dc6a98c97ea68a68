use Rattle.std.proofs.Common.{◌≡◌, Some, IfOk, subst}
use Rattle.helix_json.specs.Inner.Machine.{step, after, in_object}
use Rattle.helix_json.specs.Inner.Building.{reading_of}
use Rattle.helix_json.proofs.Builder.{item_allowed, member_allowed, item_taken, member_taken, inside_of}
use Rattle.helix_json.proofs.build.end_value.Goals as goal

pub end_item-requires : goal.end_item-requires
end_item-requires c =
    item_allowed c.args.frames.now.items c.pop.new.self.items c.in-Some-List.field-0 c.in-Some-List.items c.args.value
    c.args.token c.in-Some-List.ensures.items c.in-Some-List.field-0-is c.requires

pub end_member-requires : goal.end_member-requires
end_member-requires c =
    member_allowed c.args.frames.now.items c.pop.new.self.items c.in-Some-Object.field-0 c.in-Some-Object.members
    c.in-Some-Object.key c.args.value c.args.token c.in-Some-Object.ensures.items
    c.in-Some-Object.field-0-is c.requires

pub returns-in-Some-List : goal.returns-in-Some-List
returns-in-Some-List c =
    subst (λ l. IfOk c.end_item.result (λ then. step (after c.args.value l) c.args.token
    ≡ Some (reading_of then c.end_item.new.frames.items)))
    (item_taken c.args.frames.now.items c.pop.new.self.items c.in-Some-List.field-0 c.in-Some-List.items
    c.in-Some-List.ensures.items c.in-Some-List.field-0-is) c.end_item.ensures

pub returns-in-Some-Object : goal.returns-in-Some-Object
returns-in-Some-Object c =
    inside_of c.end_member.result (λ l then fs. step (after c.args.value l) c.args.token ≡ Some (reading_of then fs))
    (in_object c.in-Some-Object.members c.in-Some-Object.key)
    c.args.frames.now.items c.pop.new.self.items
    (member_taken c.args.frames.now.items c.pop.new.self.items c.in-Some-Object.field-0 c.in-Some-Object.members
    c.in-Some-Object.key c.in-Some-Object.ensures.items c.in-Some-Object.field-0-is)
    c.end_member.ensures
