use Rattle.helix_keywords.specs.SearchLaws.{word_next}
use Rattle.helix_references.specs.Units.{unit_word}
use Rattle.helix_references.proofs.unit.unit_named.Goals as goal

pub loop-unit-preserved : goal.loop-unit-preserved
loop-unit-preserved c = word_next unit_word c.args.word.now c.word.result.now _ c.loop-unit.unit-index _ _
    c.is_word.result c.loop-unit-test.true c.word.ensures c.is_word.ensures c.if-is_word.false c.loop-unit.invariant
