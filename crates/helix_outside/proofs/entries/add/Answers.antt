use Rattle.std.proofs.Common.{ap, ◌∙◌}
use Rattle.helix_outside.specs.Entries.{files_of}
use Rattle.helix_outside.proofs.Lookups.{files_push}
use Rattle.helix_outside.proofs.entries.add.Goals as goal

pub returns-clause-ok : goal.returns-clause-ok
returns-clause-ok c =
    ap files_of c.in_ok-push.ensures.items ∙ files_push _ _ _ c.requires c.in_ok-name.ensures.items
