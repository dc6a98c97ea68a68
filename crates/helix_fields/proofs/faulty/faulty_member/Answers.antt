use Rattle.helix_json.specs.declared.value.Json.TheViews as view
use Rattle.helix_fields.specs.FaultyMember.{IsFaultyMember}
use Rattle.helix_fields.specs.Inner.Objects.{may_have}
use Rattle.helix_fields.proofs.FaultyMembers.{no_members}
use Rattle.helix_fields.specs.SearchLaws.{same_says}
use Rattle.helix_fields.proofs.faulty.faulty_member.Goals as goal

pub returns-in-Some : goal.returns-in-Some
returns-in-Some c = same_says c.args.json.now (view.Object c.in-Some.members.now)
    (IsFaultyMember (may_have c.args.object)) c.in_members.result c.in-Some.ensures.some c.in_members.ensures

pub returns-in-None : goal.returns-in-None
returns-in-None c = no_members c.args.json.now (may_have c.args.object) c.in-None.ensures.none
