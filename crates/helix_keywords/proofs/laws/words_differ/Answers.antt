use Rattle.std.specs.List.{IsDistinct}
use Rattle.helix_keywords.specs.Keywords.{word_of, field_word}
use Rattle.helix_keywords.proofs.laws.words_differ.Goals as goal

pub returns : goal.returns
unfolding IsDistinct word_of field_word
returns c = search
