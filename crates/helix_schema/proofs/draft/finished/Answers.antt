use Rattle.std.proofs.Common.{subst, sym}
use Rattle.helix_fields.specs.Fields.{fields_of}
use Rattle.helix_validity.specs.Mentions.{AreFilled}
use Rattle.helix_schema.proofs.Filling.{all_filled}
use Rattle.helix_schema.proofs.draft.finished.Goals as goal

pub profile_of-requires-clause-filled : goal.profile_of-requires-clause-filled
profile_of-requires-clause-filled c =
    subst (λ sets. AreFilled (fields_of c.args.alphabet c.args.value.now) sets c.args.value.now)
    (sym c.in_ok-sets.ensures)
    (all_filled (fields_of c.args.alphabet c.args.value.now) c.args.value.now c.args.wishes.items c.requires.draft.keys
    c.requires.draft.mentions c.requires.draft.good c.requires.read)
