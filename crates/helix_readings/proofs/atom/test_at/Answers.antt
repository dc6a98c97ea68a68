use Rattle.helix_readings.proofs.Atoms.{file_test}
use Rattle.helix_readings.proofs.atom.test_at.Goals as goal

pub returns-in_ok-place_at_key : goal.returns-in_ok-place_at_key
returns-in_ok-place_at_key c = file_test c.args.sets.now c.in_ok-place_at_key.field-0 c.args.place.now
    c.word.result.now c.args.kind c.args.keyword c.args.operand.now c.names_set_file.result
    c.set_test-then-names_set_file.result c.in_ok-place_at_key.ensures c.word.ensures c.names_set_file.ensures
    c.if-names_set_file.true c.set_test-then-names_set_file.ensures
