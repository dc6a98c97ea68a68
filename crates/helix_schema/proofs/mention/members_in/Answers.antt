use Rattle.std.proofs.Common.{◌∙◌, ap, sym}
use Rattle.helix_places.specs.Members.{members_of}
use Rattle.helix_places.specs.ViewLaws.{members_of_object}
use Rattle.helix_schema.proofs.mention.members_in.Goals as goal

pub returns-in-Some : goal.returns-in-Some
returns-in-Some c = sym (ap members_of c.in-Some.ensures.some ∙ members_of_object c.in-Some.members.now)
