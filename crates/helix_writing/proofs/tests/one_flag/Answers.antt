use Rattle.helix_profile.proofs.OneField.{one_field_is_valid}
use Rattle.helix_writing.proofs.tests.one_flag.Goals as goal

pub new-requires-2 : goal.new-requires-2
new-requires-2 c = one_field_is_valid c.push.new.self c.new-fields.result c.new.result _ c.in_ok-push.ensures.ok
    c.new-fields.ensures c.in_ok-name.ensures c.new.ensures
