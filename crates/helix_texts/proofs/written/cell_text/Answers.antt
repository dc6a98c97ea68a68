use Rattle.std.proofs.Common.{subst}
use Rattle.helix_values.specs.Universe.{InUniverse}
use Rattle.helix_values.specs.View.{cell_of}
use Rattle.helix_texts.proofs.ScalarTexts.{text_is_scalar}
use Rattle.helix_texts.proofs.written.cell_text.Goals as goal

pub from_codes-requires : goal.from_codes-requires
from_codes-requires c = text_is_scalar c.args.kind c.in-Text.codes.now
    (subst (λ v. InUniverse c.args.kind (cell_of v)) c.in-Text.is c.requires)
