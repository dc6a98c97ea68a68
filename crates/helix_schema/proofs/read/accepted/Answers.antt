use Rattle.helix_schema.proofs.Accepting.{draft_is, is_draft}
use Rattle.helix_schema.proofs.read.accepted.Goals as goal

pub draft_of-requires : goal.draft_of-requires
draft_of-requires c = is_draft c.args.alphabet c.args.value c.in_ok-fields.fields c.as_slice.result.now
    c.in_ok-mentions.mentions.items c.in_ok-wishes.wishes.items c.in_ok-fields.ensures.fields c.as_slice.ensures
    c.in_ok-mentions.ensures c.in_ok-wishes.ensures c.requires.unbroken c.requires.keys

pub returns : goal.returns
returns c = draft_is c.args.alphabet c.args.value c.in_ok-fields.fields c.as_slice.result.now
    c.in_ok-mentions.mentions.items c.in_ok-wishes.wishes.items c.in_ok-fields.ensures.fields c.as_slice.ensures
    c.in_ok-mentions.ensures c.in_ok-wishes.ensures c.requires.unbroken c.draft_of.result c.draft_of.ensures
