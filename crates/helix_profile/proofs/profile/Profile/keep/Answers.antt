use Rattle.std.proofs.Common.{sym}
use Rattle.helix_profile.proofs.Keeping.{kept_valid_as}
use Rattle.helix_profile.proofs.profile.Profile.keep.Goals as goal

pub new-requires : goal.new-requires
new-requires c =
    kept_valid_as c.args.self.now c.in_ok-copy.field-0 c.self.inside.fields c.in_ok-constraints.constraints
    c.as_slice.result.now
    c.self.inside.constraints c.args.numbers.now (sym c.self.view_is) c.requires.ascending c.requires.numbers
    c.self.invariant
    c.in_ok-copy.ensures c.in_ok-constraints.ensures c.as_slice.ensures
