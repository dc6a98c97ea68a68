use Rattle.std.proofs.Common.{subst}
use Rattle.helix_domains.specs.Near.{HasRoomNear}
use Rattle.helix_domains.proofs.AskedNear.{has_form}
use Rattle.helix_domains.proofs.domain.Domain.near.Goals as goal

pub returns-clause-form : goal.returns-clause-form
returns-clause-form c = has_form c.self.inside.field c.self.inside.atoms c.args.self.now c.self.inside.values
    c.self.invariant.values c.self.view_is
